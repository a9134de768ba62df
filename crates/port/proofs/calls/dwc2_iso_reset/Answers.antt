-- Bytes that no call works on are refused with their number.
use Rattle.session.specs.Poll.{reset_reply}
use Rattle.port.proofs.Laws.Verdict.{reply_refused_by}
use Rattle.port.proofs.calls.dwc2_iso_reset.Goals as goal

pub returns-in-Err : goal.returns-in-Err
returns-in-Err c =
    reply_refused_by c.args.session.now reset_reply c.in-Err.ensures c.reply_refused.ensures
