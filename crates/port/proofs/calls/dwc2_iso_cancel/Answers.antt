-- Bytes that no call works on are refused with their number.
use Rattle.session.specs.declared.types.IsoChannelState.{IsoChannelState}
use Rattle.session.specs.Cancel.{cancelled}
use Rattle.port.proofs.Laws.Verdict.{reply_refused_by}
use Rattle.port.proofs.calls.dwc2_iso_cancel.Goals as goal

pub returns-in-Err : goal.returns-in-Err
returns-in-Err c =
    reply_refused_by c.args.session.now (λ (s : IsoChannelState). cancelled s c.args.id) c.in-Err.ensures c.reply_refused.ensures
