-- Laws of lists of numbers: what stands in one and what does not, numbers that differ, and slices behind a run of stores.
use mathlib.Core.Path.{◌≡◌, refl, ◌∙◌, sym, ap}
use mathlib.Core.List.{List, [], ◌∷◌, ◌++◌}
use mathlib.Core.Logic.{◌⊎◌, inl, inr, ⊎_elim}
use mathlib.Core.Bool.{Bool, true, false}
use Prim.Native.Nat.{ℕ, zero, suc, ◌+◌, ◌≤◌, ◌<◌}
use native.Mathlib.Omega.{arith}
use lib.Dec.{eqb}
use lib.ListN.{length, get_or, set, take, drop}
use lib.Seq.{sets, slice, length-take-le, drop-append-le}
use borrow.Author.Tests.{eqb-true, eqb-false}
use Rattle.session.proofs.Laws.Lists.{slice_after_set, front_sets}
use Rattle.laws.specs.Drawing.{Among, Absent, Distinct}

-- ---- absent

pub absent_head : (n x : ℕ) (l : List ℕ) → Absent n (x ∷ l) → x ≡ n → ⊥
absent_head n x l h = h 0 (omega arith)

pub absent_tail : (n x : ℕ) (l : List ℕ) → Absent n (x ∷ l) → Absent n l
absent_tail n x l h i k = h (suc i) (omega arith)

pub absent_cons : (n x : ℕ) (l : List ℕ) → (x ≡ n → ⊥) → Absent n l → Absent n (x ∷ l)
absent_cons n x l f h zero k e = f e
absent_cons n x l f h (suc i) k e = h i (omega arith) e

pub absent_none : (n : ℕ) → Absent n []
absent_none n i k e = absurd (omega arith)

pub absent_append : (n : ℕ) (a b : List ℕ) → Absent n a → Absent n b → Absent n (a ++ b)
absent_append n [] b f g = g
absent_append n (x ∷ a) b f g = absent_cons n x (a ++ b) (absent_head n x a f) (absent_append n a b (absent_tail n x a f) g)

pub absent_take : (n k : ℕ) (l : List ℕ) → Absent n l → Absent n (take k l)
absent_take n zero l h = absent_none n
absent_take n (suc k) [] h = absent_none n
absent_take n (suc k) (x ∷ l) h = absent_cons n x (take k l) (absent_head n x l h) (absent_take n k l (absent_tail n x l h))

-- ---- among

pub among_later : (n x : ℕ) (l : List ℕ) → Among n l → Among n (x ∷ l)
among_later n x l h = let k : h.0 < length l = h.1 in (suc h.0, omega arith, h.2)

-- a number stands in a list or does not
pub among_or_absent : (n : ℕ) (l : List ℕ) → Among n l ⊎ Absent n l
among_or_absent n [] = inr (absent_none n)
among_or_absent n (x ∷ l) = first (eqb x n) refl (among_or_absent n l)
  where
    first : (b : Bool) → eqb x n ≡ b → Among n l ⊎ Absent n l → Among n (x ∷ l) ⊎ Absent n (x ∷ l)
    first true e r = inl (0, omega arith, eqb-true x n e)
    first false e r = ⊎_elim (λ h. inl (among_later n x l h)) (λ h. inr (absent_cons n x l (eqb-false x n e) h)) r

-- ---- distinct

pub distinct_head : (x : ℕ) (l : List ℕ) → Distinct (x ∷ l) → Absent x l
distinct_head x l h i k e = h 0 (suc i) (omega arith) (omega arith) (sym e)

pub distinct_tail : (x : ℕ) (l : List ℕ) → Distinct (x ∷ l) → Distinct l
distinct_tail x l h i j m k = h (suc i) (suc j) (omega arith) (omega arith)

pub distinct_none : Distinct []
distinct_none i j m k e = absurd (omega arith)

pub distinct_cons : (x : ℕ) (l : List ℕ) → Absent x l → Distinct l → Distinct (x ∷ l)
distinct_cons x l f h i zero m k e = absurd (omega arith)
distinct_cons x l f h zero (suc j) m k e = f j (omega arith) (sym e)
distinct_cons x l f h (suc i) (suc j) m k e = h i j (omega arith) (omega arith) e

pub distinct_drop : (n : ℕ) (l : List ℕ) → Distinct l → Distinct (drop n l)
distinct_drop zero l h = h
distinct_drop (suc n) [] h = h
distinct_drop (suc n) (x ∷ l) h = distinct_drop n l (distinct_tail x l h)

-- two lists behind one another, none of the first in the second
pub distinct_append : (a b : List ℕ) → Distinct a → Distinct b → ((i : ℕ) → i < length a → Absent (get_or a i 0) b) → Distinct (a ++ b)
distinct_append [] b f g h = g
distinct_append (x ∷ a) b f g h =
    distinct_cons x (a ++ b) (absent_append x a b (distinct_head x a f) (h 0 (omega arith)))
    (distinct_append a b (distinct_tail x a f) g (λ i k. h (suc i) (omega arith)))

-- ---- slices

module _ {A : Type 0} where
  pub slice_after_sets : (vs l : List A) (i f t : ℕ) → i + length vs ≤ f → f ≤ t → slice f t (sets l i vs) ≡ slice f t l
  slice_after_sets [] l i f t h k = refl
  slice_after_sets (a ∷ vs) l i f t h k = slice_after_sets vs (set l i a) (suc i) f t (omega arith) k ∙ slice_after_set f t i l a (omega arith) (omega arith)

  -- a slice up to a run of stores that were put behind it
  pub slice_behind : (vs l : List A) (f t : ℕ) → f ≤ t → t + length vs ≤ length l → slice f (t + length vs) (sets l t vs) ≡ slice f t l ++ vs
  slice_behind vs l f t h k = ap (drop f) (front_sets vs l t k) ∙ drop-append-le f (take t l) vs (omega (arith, length-take-le t l))
