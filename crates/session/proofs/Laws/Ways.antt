-- The laws of the way of a submission: where the tables are full, and which way it goes by what each test answered.
use mathlib.Core.Path.{◌≡◌, refl, ◌∙◌, sym, ap}
use mathlib.Core.Bool.{Bool, true, false, ◌||◌, cond}
use mathlib.Core.List.{List}
use Prim.Native.Nat.{ℕ, ◌+◌, ◌-◌, ◌≤◌}
use native.Mathlib.Decide.{dec_le}
use native.Mathlib.Omega.{arith}
use lib.Dec.{leb, ltb}
use lib.ListN.{length}
use borrow.Author.Tests.{lt-ltb, le-ltb, le-leb, lt-leb}
use Rattle.std.specs.Prelude.{Option, Some, None, Result, Ok, Err, ⊤}
use Rattle.std.specs.Option.{is_some, unwrap_or}
use Rattle.ring.specs.RingSums.{packet_limit}
use Rattle.words.proofs.Laws.Limits.{rest_test}
use Rattle.session.specs.declared.transfer.SubmitWay.{SubmitWay}
use Rattle.session.specs.declared.transfer.SubmitWay.TheVariants.{Refuse, TooLong, Spend}
use Rattle.session.specs.declared.transfer.Submitted.{Submitted}
use Rattle.session.specs.declared.transfer.IsoTransfer.{IsoTransfer}
use Rattle.session.specs.declared.types.IsoChannelState.{IsoChannelState}
use Rattle.session.specs.declared.refusal.IsoRefusal.{IsoRefusal}
use Rattle.session.specs.Session.{ring_words}
use Rattle.session.specs.Record.{is_bad_record}
use Rattle.session.specs.Way.{long_at, first_of, room_checks, entry_refusal, spend_refusal, too_long, gate_way, submit_way}
use Rattle.session.specs.Submit.{submitted_by, submitted, ring_after, submitted_ring}

-- one more than count is above the limit just where count reaches it
count_test : (limit count : ℕ) → leb limit count ≡ ltb limit (count + 1)
count_test limit count = go (dec_le limit count)
  where
    go : Dec (limit ≤ count) → leb limit count ≡ ltb limit (count + 1)
    go (yes l) = le-leb limit count l ∙ sym (lt-ltb limit (count + 1) (omega arith))
    go (no n) = lt-leb limit count (omega arith) ∙ sym (le-ltb limit (count + 1) (omega arith))

-- 8: the tables are full
pub full_test : (count all n : ℕ) → all ≤ 1024 → (leb 64 count || ltb (1024 - all) n) ≡ (ltb 64 (count + 1) || ltb 1024 (all + n))
full_test count all n h = rw (count_test 64 count, rest_test 1024 all n h)

-- a long packet that is found is the first, and none is found where none is long
cond_some : (b : Bool) (x y : ℕ) → Some x ≡ cond b (Some y) None → (b ≡ true) × (x ≡ y)
cond_some true x y e = (refl, ap (λ (o : Option ℕ). unwrap_or o 0) e)
cond_some false x y e = let z : ◌≡◌ {A = ℕ} 1 0 = ap (λ (o : Option ℕ). cond (is_some o) 1 0) e in absurd (omega arith)

cond_none : (b : Bool) (y : ℕ) → None ≡ cond b (Some y) None → b ≡ false
cond_none true y e = let z : ◌≡◌ {A = ℕ} 0 1 = ap (λ (o : Option ℕ). cond (is_some o) 1 0) e in absurd (omega arith)
cond_none false y e = refl

-- the way where a test refused, where a packet is too long, and where none did
module _ (s : IsoChannelState) (t : IsoTransfer) (lengths ring : List ℕ) where
  -- past 17 and 18, 1 to 8 decide
  pub entry_is :
      {x : Result ⊤ IsoRefusal} → ring_words s.cfg ≤ length ring → is_bad_record s ≡ false → x ≡ first_of (room_checks s t (length lengths))
      → entry_refusal s t (length lengths) (length ring) ≡ x
  entry_is long good e = let l : ltb (length ring) (ring_words s.cfg) ≡ false = le-ltb (length ring) (ring_words s.cfg) long in rw (l, good) (sym e)

  pub refuse_way : {r : IsoRefusal} → entry_refusal s t (length lengths) (length ring) ≡ Err r → Refuse r ≡ submit_way s t lengths ring
  refuse_way e = rw e

  pub long_way :
      {x : ℕ} → entry_refusal s t (length lengths) (length ring) ≡ Ok tt → Some x ≡ long_at (packet_limit s.cfg.speed) lengths
      → TooLong x ≡ submit_way s t lengths ring
  long_way {x} e l = let h = cond_some (ltb (too_long s lengths) (length lengths)) x (too_long s lengths) l in rw (e, h.0, h.1)

  none_long : None ≡ long_at (packet_limit s.cfg.speed) lengths → ltb (too_long s lengths) (length lengths) ≡ false
  none_long = cond_none (ltb (too_long s lengths) (length lengths)) (too_long s lengths)

  pub spend_way :
      {r : IsoRefusal} → entry_refusal s t (length lengths) (length ring) ≡ Ok tt → None ≡ long_at (packet_limit s.cfg.speed) lengths
      → spend_refusal s t lengths ring ≡ Err r → Spend r ≡ submit_way s t lengths ring
  spend_way e l p = rw (e, none_long l, p)

  pub gated_way :
      {way : SubmitWay} → entry_refusal s t (length lengths) (length ring) ≡ Ok tt → None ≡ long_at (packet_limit s.cfg.speed) lengths
      → spend_refusal s t lengths ring ≡ Ok tt → way ≡ gate_way s t (length lengths) → way ≡ submit_way s t lengths ring
  gated_way e l p w = rw (e, none_long l, p) w

-- what the call leaves follows from the way
pub answer_by :
    (s : IsoChannelState) (t : IsoTransfer) (lengths ring : List ℕ) {way : SubmitWay} {r : Submitted} → way ≡ submit_way s t lengths ring
    → r ≡ submitted_by way s t lengths ring → r ≡ submitted s t lengths ring
answer_by s t lengths ring e p = p ∙ ap (λ (w : SubmitWay). submitted_by w s t lengths ring) e

pub ring_by_lem :
    (s : IsoChannelState) (t : IsoTransfer) (lengths ring : List ℕ) {way : SubmitWay} {r : List ℕ} → way ≡ submit_way s t lengths ring
    → r ≡ ring_after way s t lengths ring → r ≡ submitted_ring s t lengths ring
ring_by_lem s t lengths ring e p = p ∙ ap (λ (w : SubmitWay). ring_after w s t lengths ring) e
