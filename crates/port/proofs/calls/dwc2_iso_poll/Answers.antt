-- Bytes that no call works on are refused with their number.
use Rattle.std.proofs.Common.{ℕ}
use Rattle.session.specs.declared.types.IsoChannelState.{IsoChannelState}
use Rattle.session.specs.Poll.{polled, polled_ring}
use Rattle.port.specs.Calls.{event_of}
use Rattle.port.proofs.Laws.Verdict.{refused_by, reply_refused_by}
use Rattle.port.proofs.calls.dwc2_iso_poll.Goals as goal

pub returns-in-Err : goal.returns-in-Err
returns-in-Err c =
    let a = c.args in
    let xs = a.session.now in
    let event = event_of a.reported a.unplugged a.hcint in
    let both = reply_refused_by xs (λ (s : IsoChannelState). polled s event a.ring.now) c.in-Err.ensures c.reply_refused.ensures in
    (both.0, both.1, refused_by xs (λ (n : ℕ). a.ring.now) (λ (s : IsoChannelState). polled_ring s event a.ring.now) c.in-Err.ensures)
