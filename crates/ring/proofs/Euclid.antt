-- Laws of Euclid's rule. One induction over its steps gives that the answer divides both numbers, and that whatever divides a multiple of
-- both divides the same multiple of the answer; with that, no linear combination is needed.
use Rattle.std.proofs.Common.{◌≡◌, ℕ, zero, suc, ◌+◌, ◌*◌, ◌/◌, ◌%◌, ◌<◌, max, subst, mod-lt, zero-lt-suc, mul_assoc, mul-add, arith}
use mathlib.Core.Path.{subst⁻¹}
use mathlib.Core.WellFounded.{Acc}
use Prim.Native.Nat.{◌∣◌}
use native.Mathlib.Nat.{dvd_refl, dvd-zero, dvd-mod_iff, dvd-add_iff_right, dvd-mul_right_of_dvd, div-add-mod}
use lib.WfN.{lt-wf_rel}
use Rattle.ring.specs.Gcd.{gcd, gcd_zero, gcd_step}

-- what holds of a and 0, and of a and b where it holds of b and the remainder, holds of all pairs
pub euclid_induction : (P : ℕ → ℕ → Type 0) → ((a : ℕ) → P a 0) → ((a b : ℕ) → 0 < b → P b (a % b) → P a b) → (a b : ℕ) → P a b
euclid_induction P base step a b = go a (lt-wf_rel.wf.apply b)
  where
    go : (a : ℕ) {b : ℕ} → Acc ◌<◌ b → P a b
    go a (Acc.intro zero h) = base a
    go a (Acc.intro (suc b) h) = step a (suc b) (zero-lt-suc b) (go (suc b) (h (a % suc b) (mod-lt a (zero-lt-suc b))))

pub gcd_pos : (a b : ℕ) → 0 < gcd a b
gcd_pos =
    euclid_induction (λ a b. 0 < gcd a b) (λ a. rw gcd_zero (omega arith)) (λ a b h p. subst⁻¹ (λ (x : ℕ). 0 < x) (gcd_step a b h) p)

-- the answer divides both
pub gcd_divides : (a b : ℕ) → (gcd a b ∣ a) × (gcd a b ∣ b)
gcd_divides = euclid_induction (λ a b. (gcd a b ∣ a) × (gcd a b ∣ b)) base step
  where
    one : (a : ℕ) → max 1 a ∣ a
    one zero = dvd-zero 1
    one (suc a) = let e : max 1 (suc a) ≡ suc a = omega arith in subst⁻¹ (λ (x : ℕ). x ∣ suc a) e (dvd_refl (suc a))

    base : (a : ℕ) → (gcd a 0 ∣ a) × (gcd a 0 ∣ 0)
    base a = (rw gcd_zero (one a), dvd-zero (gcd a 0))

    step : (a b : ℕ) → 0 < b → (gcd b (a % b) ∣ b) × (gcd b (a % b) ∣ a % b) → (gcd a b ∣ a) × (gcd a b ∣ b)
    step a b h p = subst⁻¹ (λ (x : ℕ). (x ∣ a) × (x ∣ b)) (gcd_step a b h) ((dvd-mod_iff (gcd b (a % b)) p.0).0 p.1, p.0)

-- what divides m times each divides m times the answer
pub gcd_greatest : (n m a b : ℕ) → 0 < a + b → n ∣ m * a → n ∣ m * b → n ∣ m * gcd a b
gcd_greatest n m = euclid_induction (λ a b. 0 < a + b → n ∣ m * a → n ∣ m * b → n ∣ m * gcd a b) base step
  where
    base : (a : ℕ) → 0 < a + 0 → n ∣ m * a → n ∣ m * 0 → n ∣ m * gcd a 0
    base a h p q = let e : max 1 a ≡ a = omega arith in rw (gcd_zero, e) p

    rest : (a b : ℕ) → n ∣ m * a → n ∣ m * b → n ∣ m * (a % b)
    rest a b p q =
        (dvd-add_iff_right n {m = m * (b * (a / b))} (subst (λ (x : ℕ). n ∣ x) (mul_assoc m b (a / b)) (dvd-mul_right_of_dvd n q (a / b)))
        ).1 (subst (λ (x : ℕ). n ∣ x) (mul-add m (b * (a / b)) (a % b)) (subst⁻¹ (λ (x : ℕ). n ∣ m * x) (div-add-mod a b) p))

    step : (a b : ℕ) → 0 < b → (0 < b + a % b → n ∣ m * b → n ∣ m * (a % b) → n ∣ m * gcd b (a % b)) → 0 < a + b → n ∣ m * a → n ∣ m * b → n ∣ m * gcd a b
    step a b h ih _ p q = subst⁻¹ (λ (x : ℕ). n ∣ m * x) (gcd_step a b h) (ih (omega arith) q (rest a b p q))
