-- Bytes that no call works on are refused with their number.
use Rattle.std.proofs.Common.{ℕ, length}
use Rattle.session.specs.declared.types.IsoChannelState.{IsoChannelState}
use Rattle.session.specs.Poll.{recovered, recovered_ring}
use Rattle.port.proofs.Laws.Verdict.{refused_by, reply_refused_by}
use Rattle.port.proofs.calls.dwc2_iso_recover.Goals as goal

pub returns-in-Err : goal.returns-in-Err
returns-in-Err c =
    let a = c.args in
    let xs = a.session.now in
    let both = reply_refused_by xs (λ (s : IsoChannelState). recovered s (length a.ring.now)) c.in-Err.ensures c.reply_refused.ensures in
    (both.0, both.1, refused_by xs (λ (n : ℕ). a.ring.now) (λ (s : IsoChannelState). recovered_ring s a.ring.now) c.in-Err.ensures)
