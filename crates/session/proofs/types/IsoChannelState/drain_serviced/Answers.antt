-- The invariant: the record is sound, and draining from here gives the goal.
use mathlib.Core.Path.{◌≡◌, ◌∙◌, sym, ap, refl, subst⁻¹}
use mathlib.Core.Bool.{Bool, true, false, ◌||◌}
use native.Mathlib.Omega.{arith}
use Rattle.session.specs.declared.types.IsoChannelState.{IsoChannelState}
use Rattle.session.specs.Settle.{is_served, settled_session, Drained, drained}
use Rattle.session.proofs.Laws.Record.{Sound, held_sound, not_bad}
use Rattle.session.proofs.Laws.Settled.{settled_sound, drained_stop, drained_next}
use Rattle.session.proofs.types.IsoChannelState.drain_serviced.Goals as goal
use Rattle.session.proofs.types.IsoChannelState.drain_serviced.Goals.{else-not-at_once-via-then-not-at_once+else-not-is_served, else-not-at_once-via-else-not-at_once}

pub loop-self-init : goal.loop-self-init
loop-self-init c = (held_sound c.args.self c.well_formed.0 c.requires, refl, refl)

pub is_served-requires : goal.is_served-requires
is_served-requires c = (not_bad c.loop-self.self c.loop-self.invariant.0, omega arith)

pub returns-then-not-is_served : goal.returns-then-not-is_served
returns-then-not-is_served c =
    let now = c.loop-self in
    let stop : (now.at_once || is_served now.self now.ring) ≡ false =
    ap (λ (b : Bool). b || is_served now.self now.ring) c.if-not-at_once.true ∙ sym c.is_served.ensures ∙ c.if-not-is_served.true in
    let e = sym (drained_stop now.at_once now.self now.ring (omega arith) stop) ∙ now.invariant.2 in
    (ap (λ (d : Drained). d.session) e, ap (λ (d : Drained). d.ring) e)

pub settle_request-self-requires : goal.settle_request-self-requires
settle_request-self-requires c = (not_bad c.loop-self.self c.loop-self.invariant.0, omega arith)

pub loop-self-preserved : goal.loop-self-preserved
loop-self-preserved c =
    let now = c.loop-self in
    let after = c.settle_request-self in
    let go : (now.at_once || is_served now.self now.ring) ≡ true =
    elim c.else-not-at_once.branch [
      | else-not-at_once-via-then-not-at_once+else-not-is_served w ↦
          ap (λ (b : Bool). b || is_served now.self now.ring) w.if-not-at_once.true ∙ sym w.is_served.ensures ∙ w.if-not-is_served.false
      | else-not-at_once-via-else-not-at_once w ↦ ap (λ (b : Bool). b || is_served now.self now.ring) w.if-not-at_once.false
    ] in (
      subst⁻¹ Sound after.ensures.0 (settled_sound now.self now.ring now.invariant.0 (omega arith)),
      after.auto.ring ∙ now.invariant.1,
      ap (λ (s : IsoChannelState). drained false s after.new.ring) after.ensures.0
          ∙ ap (drained false (settled_session now.self now.ring)) after.ensures.1
          ∙ sym (drained_next now.at_once now.self now.ring (omega arith) go)
          ∙ now.invariant.2,
    )
