-- The part that was lent comes back with the outcome, in its place.
use Rattle.std.proofs.Common.{◌∙◌, ap, ap₂, ℕ, List, map, arith}
use Rattle.std.proofs.Math.Seq.{slice}
use Rattle.std.proofs.lemmas.List.Edits.{sets}
use Rattle.session.specs.declared.types.IsoRequest.{IsoRequest}
use Rattle.session.specs.Session.{cleared}
use Rattle.session.specs.End.{with_outcome, ended}
use Rattle.session.proofs.Laws.Record.{held_sound}
use Rattle.session.proofs.Laws.Tables.{amended}
use Rattle.session.proofs.types.IsoChannelState.end.Goals as goal

pub returns : goal.returns
returns c =
    let a = c.args in
    let s = held_sound a.self c.well_formed.0 c.requires.0 in
    let from = c.from-done in
    let to = c.from-count in
    let failed =
    amended from.result to.result a.self.requests (omega (arith, from.ensures, to.ensures, s.done_in))
    (omega (arith, to.ensures, s.count_in, s.requests_long)) (with_outcome a.outcome) c.fail_requests.new.requests c.fail_requests.ensures
    ∙ ap₂ (λ (f t : ℕ). sets a.self.requests f (map (with_outcome a.outcome) (slice f t a.self.requests))) from.ensures to.ensures in (
      ap (λ (rs : List IsoRequest). record { cfg = a.self.cfg; head = (ended a.outcome a.self).head; fatal = (ended a.outcome a.self).fatal; requests = rs; plans = a.self.plans }) failed,
      c.clear_ring.ensures ∙ ap (λ (n : ℕ). cleared n a.ring.now) c.ring_words.ensures.0,
    )
