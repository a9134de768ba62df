-- Guarded mode adds refusal 13 and nothing else: where it does not answer 13, it does what compatible mode does; and it answers 13 exactly if no other
-- test holds and a planned slot belongs to a pending request. Each is a fact of the session's definitions, and so, by the promise of `submit`, of
-- the call.
use mathlib.Core.Path.{◌≡◌, refl, ◌∙◌, sym, ap}
use mathlib.Core.List.{List}
use mathlib.Core.Logic.{⊎_elim, ◌↔◌}
use mathlib.Core.Bool.{not, ◌&&◌}
use Prim.Native.Nat.{ℕ}
use Rattle.std.specs.Prelude.{Err}
use native.Mathlib.Omega.{arith}
use lib.Dec.{eqb, ltb}
use lib.ListN.{length}
use borrow.Author.Tests.{le-ltb}
use Rattle.words.specs.Words.{is_beyond}
use Rattle.session.specs.declared.types.IsoChannelState.{IsoChannelState}
use Rattle.session.specs.declared.types.IsoMode.TheVariants.{Compatible, Guarded}
use Rattle.session.specs.declared.transfer.IsoTransfer.{IsoTransfer}
use Rattle.session.specs.declared.transfer.SubmitWay.{SubmitWay}
use Rattle.session.specs.declared.transfer.SubmitWay.TheVariants.{Refuse, TooLong, Spend}
use Rattle.session.specs.declared.refusal.IsoRefusal.TheVariants as refusal
use Rattle.session.specs.Numbers.{refusal_number}
use Rattle.session.specs.Way.{sum, entry_refusal, too_long, gate_way, submit_way}
use Rattle.session.specs.Submit.{session_after, ring_after, answer_of, start_after, submitted, submitted_ring}
use Rattle.session.proofs.Laws.Checks.{entry_number_lem}
use Rattle.session.proofs.Laws.Admitted.{Clear, Told, told, told_of, Admitted, admitted, clear_if}
use Rattle.laws.proofs.Calls.Guarded.{without_last, only_last, last_alone}
use Rattle.laws.proofs.Calls.Held.{in_mode, SlotHeld, test_held, slot_held, held_test}

-- ---- what they lean on

-- what each way answers and leaves is the same in both modes, but for the mode
record Alike (way : SubmitWay) (s : IsoChannelState) (t : IsoTransfer) (lengths ring : List ℕ) : Type 0 where
  session : in_mode Guarded (session_after way (in_mode Compatible s) t lengths ring) ≡ session_after way (in_mode Guarded s) t lengths ring
  words : ring_after way (in_mode Guarded s) t lengths ring ≡ ring_after way (in_mode Compatible s) t lengths ring
  answer : answer_of way (in_mode Guarded s) ≡ answer_of way (in_mode Compatible s)
  start : start_after way (in_mode Guarded s) t ≡ start_after way (in_mode Compatible s) t

alike : (way : SubmitWay) (s : IsoChannelState) (t : IsoTransfer) (lengths ring : List ℕ) → Alike way s t lengths ring
alike (Refuse r) s t lengths ring = record { session = refl; words = refl; answer = refl; start = refl }
alike way s t lengths ring = record { session = refl; words = refl; answer = refl; start = refl }

-- the answer 13 comes by one way
thirteen :
    (way : SubmitWay) (s : IsoChannelState) (t : IsoTransfer) (lengths ring : List ℕ) → Told s t lengths ring way → answer_of way s ≡ Err refusal.SlotHeld
    → way ≡ Spend refusal.SlotHeld
thirteen (Refuse r) s t lengths ring h e =
    let is : r ≡ refusal.SlotHeld = cc in
    let number : refusal_number r ≡ 13 = ap refusal_number is in
    absurd (⊎_elim (λ q. omega arith) (⊎_elim (λ q. omega arith) (λ q. omega arith)) (entry_number_lem s t lengths ring r h))
thirteen way s t lengths ring h e = cc

module _ (s : IsoChannelState) (t : IsoTransfer) (lengths ring : List ℕ) where
  -- Where guarded mode does not go the way of refusal 13, it goes the way of compatible mode.
  pub guarded_way :
      (submit_way (in_mode Guarded s) t lengths ring ≡ Spend refusal.SlotHeld → ⊥)
      → submit_way (in_mode Guarded s) t lengths ring ≡ submit_way (in_mode Compatible s) t lengths ring
  guarded_way h =
      let e = entry_refusal s t (length lengths) (length ring) in
      without_last e (TooLong (too_long s lengths)) (gate_way s t (length lengths)) (ltb (too_long s lengths) (length lengths))
      (not (eqb (sum lengths) t.buffer_len))
      (is_beyond t.base (sum lengths))
      (not s.head.live && not t.channel_free)
      (test_held s t lengths ring)
      h

  -- So the answers are equal.
  pub guarded_answer :
      (submit_way (in_mode Guarded s) t lengths ring ≡ Spend refusal.SlotHeld → ⊥)
      → (submitted (in_mode Guarded s) t lengths ring).answer ≡ (submitted (in_mode Compatible s) t lengths ring).answer
  guarded_answer h =
      (alike (submit_way (in_mode Guarded s) t lengths ring) s t lengths ring).answer ∙ ap (λ (w : SubmitWay). answer_of w (in_mode Compatible s)) (guarded_way h)

  -- What is handed out for the channel is equal.
  pub guarded_start :
      (submit_way (in_mode Guarded s) t lengths ring ≡ Spend refusal.SlotHeld → ⊥)
      → (submitted (in_mode Guarded s) t lengths ring).start ≡ (submitted (in_mode Compatible s) t lengths ring).start
  guarded_start h =
      (alike (submit_way (in_mode Guarded s) t lengths ring) s t lengths ring).start ∙ ap (λ (w : SubmitWay). start_after w (in_mode Compatible s) t) (guarded_way h)

  -- The rings are equal.
  pub guarded_ring :
      (submit_way (in_mode Guarded s) t lengths ring ≡ Spend refusal.SlotHeld → ⊥)
      → submitted_ring (in_mode Guarded s) t lengths ring ≡ submitted_ring (in_mode Compatible s) t lengths ring
  guarded_ring h =
      (alike (submit_way (in_mode Guarded s) t lengths ring) s t lengths ring).words
      ∙ ap (λ (w : SubmitWay). ring_after w (in_mode Compatible s) t lengths ring) (guarded_way h)

  -- The sessions are equal but for their mode.
  pub guarded_session :
      (submit_way (in_mode Guarded s) t lengths ring ≡ Spend refusal.SlotHeld → ⊥)
      → in_mode Guarded (submitted (in_mode Compatible s) t lengths ring).session ≡ (submitted (in_mode Guarded s) t lengths ring).session
  guarded_session h =
      (alike (submit_way (in_mode Compatible s) t lengths ring) s t lengths ring).session
      ∙ ap (λ (w : SubmitWay). session_after w (in_mode Guarded s) t lengths ring) (sym (guarded_way h))

  -- Guarded mode goes the way of refusal 13 exactly if a submission in compatible mode passes every test and a planned slot belongs to a pending request.
  pub guarded_thirteen : (submit_way (in_mode Guarded s) t lengths ring ≡ Spend refusal.SlotHeld) ↔ (Admitted (in_mode Compatible s) t lengths ring × SlotHeld s t lengths ring)
  guarded_thirteen = (there, back)
    where
      there : submit_way (in_mode Guarded s) t lengths ring ≡ Spend refusal.SlotHeld → Admitted (in_mode Compatible s) t lengths ring × SlotHeld s t lengths ring
      there h =
          let e = told_of (in_mode Guarded s) t lengths ring (Spend refusal.SlotHeld) h in
          let f =
          only_last (not (eqb (sum lengths) t.buffer_len)) (is_beyond t.base (sum lengths)) (not s.head.live && not t.channel_free)
          (test_held s t lengths ring) e.2 in
          let c : Clear (in_mode Compatible s) t lengths ring = record { entry = e.0; short = e.1; spend = f.0 } in
          (admitted (in_mode Compatible s) t lengths ring c, slot_held s t lengths ring f.1)

      back : Admitted (in_mode Compatible s) t lengths ring × SlotHeld s t lengths ring → submit_way (in_mode Guarded s) t lengths ring ≡ Spend refusal.SlotHeld
      back h =
          let c = clear_if (in_mode Compatible s) t lengths ring h.0 in
          let e = entry_refusal s t (length lengths) (length ring) in
          last_alone e (TooLong (too_long s lengths)) (gate_way s t (length lengths)) (ltb (too_long s lengths) (length lengths))
          (not (eqb (sum lengths) t.buffer_len))
          (is_beyond t.base (sum lengths))
          (not s.head.live && not t.channel_free)
          (test_held s t lengths ring)
          c.entry
          (le-ltb (too_long s lengths) (length lengths) c.short)
          c.spend
          (held_test s t lengths ring h.1)

  -- The answer 13 comes by that way alone.
  pub thirteen_way : (submitted s t lengths ring).answer ≡ Err refusal.SlotHeld → submit_way s t lengths ring ≡ Spend refusal.SlotHeld
  thirteen_way = thirteen (submit_way s t lengths ring) s t lengths ring (told s t lengths ring)
