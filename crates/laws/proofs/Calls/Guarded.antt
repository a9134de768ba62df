-- What guarded mode adds: the test of 13 is the last, and it holds just where a planned slot belongs to a pending packet.
use mathlib.Core.Path.{◌≡◌, refl, ◌∙◌, ap}
use mathlib.Core.Bool.{Bool, true, false, ◌||◌, or-true, cond}
use mathlib.Core.List.{List, [], ◌∷◌}
use mathlib.Core.Logic.{⊎_elim}
use Prim.Native.Nat.{ℕ, zero, suc, ◌<◌}
use Rattle.std.specs.Prelude.{Result, Ok, Err, ⊤}
use Rattle.std.proofs.lemmas.Bool.{or_cases}
use native.Mathlib.Omega.{arith}
use lib.Dec.{eqb}
use lib.ListN.{length, get_or}
use borrow.Author.Tests.{eqb-true, eq-eqb}
use Rattle.session.specs.declared.types.IsoPacketPlan.{IsoPacketPlan}
use Rattle.session.specs.declared.transfer.SubmitWay.{SubmitWay}
use Rattle.session.specs.declared.transfer.SubmitWay.TheVariants.{Spend}
use Rattle.session.specs.declared.refusal.IsoRefusal.{IsoRefusal}
use Rattle.session.specs.declared.refusal.IsoRefusal.TheVariants.{LengthsDiffer, AddressLimit, NoChannel, SlotHeld}
use Rattle.session.specs.Session.{blank_plan}
use Rattle.session.specs.Way.{is_held, any_held, ◌⇒◌, first_of, refuse_or, spend_or}

-- a slot is held just where a plan of the list has it
pub held_by : (ps : List IsoPacketPlan) (slot : ℕ) → is_held ps slot ≡ true → (k : ℕ) × (k < length ps) × ((get_or ps k blank_plan).desc_index ≡ slot)
held_by [] slot e = cc
held_by (p ∷ ps) slot e = ⊎_elim here (λ q. there (held_by ps slot q)) (or_cases (eqb p.desc_index slot) (is_held ps slot) e)
  where
    here : eqb p.desc_index slot ≡ true → (k : ℕ) × (k < suc (length ps)) × ((get_or (p ∷ ps) k blank_plan).desc_index ≡ slot)
    here q = (0, omega arith, eqb-true p.desc_index slot q)

    there :
        (k : ℕ) × (k < length ps) × ((get_or ps k blank_plan).desc_index ≡ slot)
        → (k : ℕ) × (k < suc (length ps)) × ((get_or (p ∷ ps) k blank_plan).desc_index ≡ slot)
    there f = let l : f.0 < length ps = f.1 in (suc f.0, omega arith, f.2)

pub held_where : (ps : List IsoPacketPlan) (slot k : ℕ) → k < length ps → (get_or ps k blank_plan).desc_index ≡ slot → is_held ps slot ≡ true
held_where [] slot k h e = absurd (omega arith)
held_where (p ∷ ps) slot zero h e = ap (λ (b : Bool). b || is_held ps slot) (eq-eqb p.desc_index slot e)
held_where (p ∷ ps) slot (suc k) h e =
    ap (λ (b : Bool). eqb p.desc_index slot || b) (held_where ps slot k (omega arith) e) ∙ or-true (eqb p.desc_index slot)

-- one of some slots is held just where one of them is
pub any_held_by : (ps : List IsoPacketPlan) (l : List ℕ) → any_held ps l ≡ true → (i : ℕ) × (i < length l) × (is_held ps (get_or l i 0) ≡ true)
any_held_by ps [] e = cc
any_held_by ps (slot ∷ l) e = ⊎_elim (λ q. (0, omega arith, q)) (λ q. there (any_held_by ps l q)) (or_cases (is_held ps slot) (any_held ps l) e)
  where
    there :
        (i : ℕ) × (i < length l) × (is_held ps (get_or l i 0) ≡ true)
        → (i : ℕ) × (i < suc (length l)) × (is_held ps (get_or (slot ∷ l) i 0) ≡ true)
    there f = let h : f.0 < length l = f.1 in (suc f.0, omega arith, f.2)

pub any_held_where : (ps : List IsoPacketPlan) (l : List ℕ) (i : ℕ) → i < length l → is_held ps (get_or l i 0) ≡ true → any_held ps l ≡ true
any_held_where ps [] i h e = absurd (omega arith)
any_held_where ps (slot ∷ l) zero h e = ap (λ (b : Bool). b || any_held ps l) e
any_held_where ps (slot ∷ l) (suc i) h e =
    ap (λ (b : Bool). is_held ps slot || b) (any_held_where ps l i (omega arith) e) ∙ or-true (is_held ps slot)

-- the refusal by the tests of 10 to 13, the last of which guarded mode adds, and the way by it
abbrev pub spend_by : Bool → Bool → Bool → Bool → Result ⊤ IsoRefusal
spend_by a b c d = first_of (a ⇒ LengthsDiffer ∷ b ⇒ AddressLimit ∷ c ⇒ NoChannel ∷ d ⇒ SlotHeld ∷ [])

abbrev pub way_by : Result ⊤ IsoRefusal → SubmitWay → SubmitWay → Bool → Bool → Bool → Bool → Bool → SubmitWay
way_by e long past q a b c d = refuse_or e (cond q long (spend_or (spend_by a b c d) past))

-- without 13 it is the way without that test
pub without_last :
    (e : Result ⊤ IsoRefusal) (long past : SubmitWay) (q a b c d : Bool) → (way_by e long past q a b c d ≡ Spend SlotHeld → ⊥)
    → way_by e long past q a b c d ≡ way_by e long past q a b c false
without_last (Ok u) long past false false false false true h = absurd (h refl)
without_last e long past q a b c d h = refl

-- 13 says that its test holds and none before it
pub only_last : (a b c d : Bool) → spend_by a b c d ≡ Err SlotHeld → (spend_by a b c false ≡ Ok tt) × (d ≡ true)
only_last false false false true e = (refl, refl)
only_last a b c d e = cc

-- and back
pub last_alone :
    (e : Result ⊤ IsoRefusal) (long past : SubmitWay) (q a b c d : Bool) → e ≡ Ok tt → q ≡ false → spend_by a b c false ≡ Ok tt → d ≡ true
    → way_by e long past q a b c d ≡ Spend SlotHeld
last_alone (Ok u) long past false false false false true k l m h = refl
last_alone e long past q a b c d k l m h = cc
