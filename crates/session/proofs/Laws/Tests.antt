-- Laws of tests: when an `or` and an `and` are false, what a test of a number says that has another name, and what a test chooses.
use mathlib.Core.Path.{◌≡◌, refl, ◌∙◌, ap, subst}
use mathlib.Core.Bool.{Bool, true, false, not, ◌||◌, ◌&&◌, cond}
use Prim.Native.Nat.{ℕ, ◌≤◌, ◌<◌}
use lib.Dec.{ltb}
use borrow.Author.Tests.{lt-ltb, le-ltb}

-- of sides that are false
pub none : {a b : Bool} → a ≡ false → b ≡ false → (a || b) ≡ false
none p q = cc

pub unless : (t b : Bool) → (t ≡ false → b ≡ false) → (not t && b) ≡ false
unless true b h = refl
unless false b h = h refl

-- whether a number that the code knows by another name is below n
pub below : {a b : ℕ} (n : ℕ) → a ≡ b → a < n → ltb b n ≡ true
below {b = b} n e h = lt-ltb b n (subst (λ (k : ℕ). k < n) e h)

pub not_below : {a b : ℕ} (n : ℕ) → a ≡ b → n ≤ a → ltb b n ≡ false
not_below {b = b} n e h = le-ltb b n (subst (λ (k : ℕ). n ≤ k) e h)

-- a choice by a test that is known, by two in turn, and what holds of it whatever the test
module _ {A : Type 0} where
  pub first : (b : Bool) (x y : A) → b ≡ true → cond b x y ≡ x
  first b x y e = ap (λ (t : Bool). cond t x y) e

  pub second : (b : Bool) (x y : A) → b ≡ false → cond b x y ≡ y
  second b x y e = ap (λ (t : Bool). cond t x y) e

  pub in_turn : {a b t u : Bool} (x y z : A) → a ≡ t → b ≡ u → cond a x (cond b y z) ≡ cond t x (cond u y z)
  in_turn {a} {b} {t} {u} x y z e f = ap (λ (k : Bool). cond k x (cond b y z)) e ∙ ap (λ (k : Bool). cond t x (cond k y z)) f

  pub chosen : (P : A → Type 0) (b : Bool) (x y : A) → (b ≡ true → P x) → (b ≡ false → P y) → P (cond b x y)
  chosen P true x y f g = f refl
  chosen P false x y f g = g refl
