-- What was asked of the session's tables decides for the session.
use Rattle.session.proofs.types.IsoChannelState.parts_of.Goals as goal

pub returns : goal.returns
returns c =
    let s = c.args.self.now in
    c.submit_parts.ensures s.requests s.plans (c.asked-scan.ensures s.fatal s.requests s.plans c.scan.ensures)
