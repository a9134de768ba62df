-- A sound record stays sound through a poll, whatever it does.
use mathlib.Core.Path.{◌≡◌, refl, ap, subst⁻¹}
use mathlib.Core.Bool.{Bool, true, false, cond}
use mathlib.Core.List.{List}
use Prim.Native.Nat.{ℕ}
use Rattle.std.specs.Prelude.{Option, Some, None}
use native.Mathlib.Omega.{arith}
use Rattle.session.specs.declared.types.IsoChannelState.{IsoChannelState}
use Rattle.session.specs.declared.types.IsoHaltReason.{IsoHaltReason}
use Rattle.session.specs.declared.reply.IsoEvent.{IsoEvent}
use Rattle.session.specs.declared.reply.PollWay.{PollWay}
use Rattle.session.specs.declared.reply.PollWay.TheVariants.{Nothing, End, Halt, Wait, Settle}
use Rattle.session.specs.Poll.{way_by_event, with_reason, poll_way, polled_by}
use Rattle.session.proofs.Laws.Record.{Sound, renewed_sound}
use Rattle.session.proofs.Laws.Ended.{ended_sound}
use Rattle.session.proofs.Laws.Settled.{drained_sound}

differ : (b : Bool) → b ≡ true → b ≡ false → ⊥
differ true t f = let z : ◌≡◌ {A = ℕ} 0 1 = cc in absurd (omega arith)
differ false t f = let z : ◌≡◌ {A = ℕ} 0 1 = cc in absurd (omega arith)

-- a live session may have a reason
pub live_reason_sound : (r : IsoHaltReason) (s : IsoChannelState) → Sound s → s.head.live ≡ true → Sound (with_reason r s)
live_reason_sound r s g on =
    renewed_sound s s.head.next_request_id s.head.td_last s.head.start_full_frame (Some r) g g.cursor
    (λ off. absurd (differ s.head.live on off))

-- what each way leaves of a live session
live_sound : (way : PollWay) (s : IsoChannelState) (ring : List ℕ) → Sound s → s.head.live ≡ true → Sound (polled_by way s ring).session
live_sound Nothing s ring g on = g
live_sound (End o) s ring g on = ended_sound o s g
live_sound (Halt r) s ring g on = live_reason_sound r s g on
live_sound Wait s ring g on = g
live_sound (Settle bit) s ring g on = drained_sound bit s ring g

pub polled_sound : (s : IsoChannelState) (e : Option IsoEvent) (ring : List ℕ) → Sound s → Sound (polled_by (poll_way s e) s ring).session
polled_sound s None ring g = g
polled_sound s (Some e) ring g = go s.head.live refl
  where
    go : (live : Bool) → s.head.live ≡ live → Sound (polled_by (poll_way s (Some e)) s ring).session
    go true on = live_sound (poll_way s (Some e)) s ring g on
    go false off =
        subst⁻¹ (λ (way : PollWay). Sound (polled_by way s ring).session) (ap (λ (live : Bool). cond live (way_by_event s.fatal e) Nothing) off) g
