-- The laws of a submission's tests: where none refuses no test holds and back, which refusals can come, and the first long packet.
use mathlib.Core.Path.{◌≡◌, refl, ◌∙◌, sym, ap, subst}
use mathlib.Core.Bool.{Bool, true, false, cond}
use mathlib.Core.List.{List, [], ◌∷◌}
use mathlib.Core.Logic.{◌⊎◌, inl, inr}
use Prim.Native.Nat.{ℕ, zero, suc, ◌≤◌, ◌<◌}
use Rattle.std.specs.Prelude.{Result, Ok, Err, ⊤}
use native.Mathlib.Omega.{arith}
use lib.Dec.{ltb}
use lib.ListN.{length, get_or}
use borrow.Author.Tests.{ltb-true, ltb-false, le-ltb}
use Rattle.session.specs.declared.types.IsoChannelState.{IsoChannelState}
use Rattle.session.specs.declared.refusal.IsoRefusal.{IsoRefusal}
use Rattle.session.specs.declared.transfer.IsoTransfer.{IsoTransfer}
use Rattle.session.specs.Numbers.{refusal_number}
use Rattle.session.specs.Way.{first_long, Check, first_of, entry_checks, entry_refusal, spend_checks, spend_refusal}

-- no test of a list holds
abbrev pub NoneHolds : List Check → Type 0
NoneHolds [] = Unit
NoneHolds (c ∷ cs) = (c.holds ≡ false) × NoneHolds cs

-- each refusal of a list is one of these
abbrev pub Refusals : (IsoRefusal → Type 0) → List Check → Type 0
Refusals P [] = Unit
Refusals P (c ∷ cs) = P c.refusal × Refusals P cs

-- a fact and those after it
infixr 5 ◌and◌
pub ◌and◌ : {A B : Type 0} → A → B → A × B
a and b = (a, b)

-- a refusal is no pass, and two that are answered alike are one
pub refused_passed : {r : IsoRefusal} {A : Type 0} → ◌≡◌ {A = Result ⊤ IsoRefusal} (Err r) (Ok tt) → A
refused_passed {r} e = let z : ◌≡◌ {A = ℕ} 0 1 = ap passes e in absurd (omega arith)
  where
    passes : Result ⊤ IsoRefusal → ℕ
    passes (Ok u) = 1
    passes (Err r) = 0

pub same_refusal : (r q : IsoRefusal) → ◌≡◌ {A = Result ⊤ IsoRefusal} (Err r) (Err q) → r ≡ q
same_refusal r q e = ap its e
  where
    its : Result ⊤ IsoRefusal → IsoRefusal
    its (Ok u) = r
    its (Err x) = x

-- where the choice between a refusal and the rest passes, the test does not hold and the rest passes
not_held : (b : Bool) (r : IsoRefusal) (rest : Result ⊤ IsoRefusal) → cond b (Err r) rest ≡ Ok tt → (b ≡ false) × (rest ≡ Ok tt)
not_held true r rest e = refused_passed e
not_held false r rest e = (refl, e)

-- where the first test that holds refuses nothing, none does
pub none_holds : (cs : List Check) → first_of cs ≡ Ok tt → NoneHolds cs
none_holds [] e = tt
none_holds (c ∷ cs) e =
    let h = not_held c.holds c.refusal (first_of cs) e in
    (h.0, none_holds cs h.1)

-- the refusal of the first test that holds is one of theirs
pub one_of : (P : IsoRefusal → Type 0) (cs : List Check) → Refusals P cs → (r : IsoRefusal) → first_of cs ≡ Err r → P r
one_of P [] n r e = refused_passed (sym e)
one_of P (c ∷ cs) n r e = pick c.holds (one_of P cs n.1 r) e
  where
    pick : (b : Bool) → (first_of cs ≡ Err r → P r) → cond b (Err c.refusal) (first_of cs) ≡ Err r → P r
    pick true rest q = subst P (same_refusal c.refusal r q) n.0
    pick false rest q = rest q

-- where no test of a list holds, none refuses
pub none_first : (cs : List Check) → NoneHolds cs → first_of cs ≡ Ok tt
none_first [] h = refl
none_first (c ∷ cs) h = ap (λ (b : Bool). cond b (Err c.refusal) (first_of cs)) h.0 ∙ none_first cs h.1

-- ---- the numbers

-- 17, 18 and 1 to 8; 10 to 13
abbrev pub EntryNumber : ℕ → Type 0
EntryNumber n = (n ≡ 17) ⊎ (n ≡ 18) ⊎ ((1 ≤ n) × (n ≤ 8))

pub record SpendNumber (n : ℕ) : Type 0 where
  pub from : 10 ≤ n
  pub to : n ≤ 13

module _ (s : IsoChannelState) (t : IsoTransfer) (lengths ring : List ℕ) (r : IsoRefusal) where
  -- the refusals of the first tests, and of the later ones
  pub entry_number_lem : entry_refusal s t (length lengths) (length ring) ≡ Err r → EntryNumber (refusal_number r)
  entry_number_lem =
      one_of (λ (q : IsoRefusal). EntryNumber (refusal_number q)) (entry_checks s t (length lengths) (length ring))
      (inl refl
      and inr (inl refl)
      and inr (inr (omega arith))
      and inr (inr (omega arith))
      and inr (inr (omega arith))
      and inr (inr (omega arith))
      and inr (inr (omega arith))
      and inr (inr (omega arith))
      and inr (inr (omega arith))
      and inr (inr (omega arith))
      and tt)
      r

  pub spend_number_lem : spend_refusal s t lengths ring ≡ Err r → SpendNumber (refusal_number r)
  spend_number_lem =
      one_of (λ (q : IsoRefusal). SpendNumber (refusal_number q)) (spend_checks s t lengths ring)
      (omega arith and omega arith and omega arith and omega arith and tt)
      r

-- ---- the first long packet

-- where one packet is too long, the first of them is, and none before it
pub first_is_long : (limit : ℕ) (lengths : List ℕ) → first_long limit lengths < length lengths → limit < get_or lengths (first_long limit lengths) 0
first_is_long limit [] h = absurd (omega arith)
first_is_long limit (l ∷ ls) h = here (ltb limit l) refl (first_is_long limit ls) h
  where
    here :
        (b : Bool) → ltb limit l ≡ b → (first_long limit ls < length ls → limit < get_or ls (first_long limit ls) 0)
        → cond b 0 (suc (first_long limit ls)) < suc (length ls) → limit < get_or (l ∷ ls) (cond b 0 (suc (first_long limit ls))) 0
    here true e f k = ltb-true limit l e
    here false e f k = f (omega arith)

-- before the first long packet, this one is not long, and the others are before the first of the rest
before_first : (limit l m k : ℕ) (b : Bool) → ltb limit l ≡ b → k < cond b 0 (suc m) → (l ≤ limit) × (k ≤ m)
before_first limit l m k true e h = absurd (omega arith)
before_first limit l m k false e h = (ltb-false limit l e, omega arith)

pub before_is_short : (limit : ℕ) (lengths : List ℕ) (k : ℕ) → k < first_long limit lengths → get_or lengths k 0 ≤ limit
before_is_short limit [] k h = absurd (omega arith)
before_is_short limit (l ∷ ls) zero h = (before_first limit l (first_long limit ls) 0 (ltb limit l) refl h).0
before_is_short limit (l ∷ ls) (suc k) h = before_is_short limit ls k (before_first limit l (first_long limit ls) (suc k) (ltb limit l) refl h).1

-- where every length is within the limit, there is no long packet
pub short_all : (limit : ℕ) (lengths : List ℕ) → ((k : ℕ) → k < length lengths → get_or lengths k 0 ≤ limit) → length lengths ≤ first_long limit lengths
short_all limit [] h = omega arith
short_all limit (l ∷ ls) h =
    let rest : length ls ≤ first_long limit ls = short_all limit ls (λ k m. h (suc k) (omega arith)) in
    let here : first_long limit (l ∷ ls) ≡ suc (first_long limit ls) =
    ap (λ (b : Bool). cond b 0 (suc (first_long limit ls))) (le-ltb limit l (h 0 (omega arith))) in
    omega arith
