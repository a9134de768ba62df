-- The place is the one that `position` gives among the requests in use.
use Rattle.std.proofs.Common.{◌∙◌, ap, ℕ, take, arith}
use Rattle.std.specs.List.{position_from}
use Rattle.session.proofs.Laws.Tables.{is_it, found_lem}
use Rattle.session.proofs.types.IsoChannelState.find.Goals as goal

pub returns : goal.returns
returns c =
    let s = c.args.self.now in
    found_lem c.args.id s c.place_of.result (omega arith)
    (c.place_of.ensures ∙ ap (λ (n : ℕ). position_from (is_it c.args.id) 0 (take n s.requests)) c.from.ensures)
