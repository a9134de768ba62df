-- Bytes that no call works on are refused with their number.
use Rattle.std.proofs.Common.{ℕ, ◌∙◌, length}
use Rattle.session.specs.declared.types.IsoChannelState.{IsoChannelState}
use Rattle.session.specs.Reclaim.{reclaimed, reclaimed_ring, reclaimed_results}
use Rattle.port.specs.Layout.{left_bytes}
use Rattle.port.specs.Calls.{event_of, reclaim_refused, reclaimed_port}
use Rattle.port.proofs.Laws.Verdict.{refused_by}
use Rattle.port.proofs.calls.dwc2_iso_reclaim.Goals as goal

pub returns-in-Err : goal.returns-in-Err
returns-in-Err c =
    let a = c.args in
    let xs = a.session.now in
    let ring = a.ring.now in
    let results = a.results.now in
    let event = event_of a.reported a.unplugged a.hcint in
    let is = c.in-Err.ensures in (
      c.reclaim_refused.ensures
          ∙ refused_by xs reclaim_refused (λ (s : IsoChannelState). reclaimed_port (reclaimed s a.id event ring (length results))) is,
      refused_by xs (λ (n : ℕ). xs) (λ (s : IsoChannelState). left_bytes xs (reclaimed s a.id event ring (length results)).session) is,
      refused_by xs (λ (n : ℕ). ring) (λ (s : IsoChannelState). reclaimed_ring s a.id event ring (length results)) is,
      refused_by xs (λ (n : ℕ). results) (λ (s : IsoChannelState). reclaimed_results s a.id event ring results) is,
    )
