-- SCHINFO on bits: a sum of distinct powers of two has just their bits. The largest power stands above the sum of the others, so the word's
-- bit there is 1, above it 0, and below it the others' own.
use Rattle.std.proofs.Common.{◌≡◌, ℕ, zero, suc, ◌+◌, ◌-◌, ◌*◌, ◌/◌, ◌%◌, ◌^◌, ◌<◌, ◌≤◌, max, ◌↔◌, sym, ap, ◌∙◌, subst, ⊎_elim, le_refl, le_of_suc-le-suc, suc-mul, eq-or-lt_of_le, mul-lt-mul_of_pos_right, pow-suc, lt_of_not-le, le-div_iff_mul-le, arith, pow_pos, pow_mono, pow-add, zero-mul}
use native.Mathlib.Nat.{div-eq_of_lt-le, add-div_left, div-eq_of_lt, zero-div, mul-add-div_right, mul-add-mod_self_right}
use native.Mathlib.Decide.{dec_le}
use Rattle.ring.specs.RingSums.{every_bit, microframe_bits, schinfo}
use Rattle.ring.specs.declared.speed.Speed.TheVariants.{High}

-- bit b of a word
abbrev pub bit_at : ℕ → ℕ → ℕ
bit_at w b = w / 2 ^ b % 2

module _ (m x : ℕ) (low : x < 2 ^ m) where
  top_bit : bit_at (2 ^ m + x) m ≡ 1
  top_bit =
      let one : (2 ^ m + x) / 2 ^ m ≡ 1 = add-div_left x (pow_pos m) ∙ ap (λ (q : ℕ). q + 1) (div-eq_of_lt low) in
      ap (λ (q : ℕ). q % 2) one

  above_top : (b : ℕ) → m < b → bit_at (2 ^ m + x) b ≡ 0
  above_top b h =
      let next : 2 ^ m * 2 ≤ 2 ^ b = subst (λ (p : ℕ). p ≤ 2 ^ b) (pow-suc 2 m) (pow_mono h) in
      ap (λ (q : ℕ). q % 2) (div-eq_of_lt (omega arith))

  below_top : (b : ℕ) → b < m → bit_at (2 ^ m + x) b ≡ bit_at x b
  below_top b h =
      let p = 2 ^ (m - suc b) in
      let parts : 2 ^ m ≡ p * 2 * 2 ^ b =
      let e : m ≡ suc (m - suc b) + b = omega arith in
      ap (λ (k : ℕ). 2 ^ k) e ∙ pow-add 2 (suc (m - suc b)) b ∙ ap (λ (q : ℕ). q * 2 ^ b) (pow-suc 2 (m - suc b)) in
      ap (λ (q : ℕ). (q + x) / 2 ^ b % 2) parts ∙ ap (λ (q : ℕ). q % 2) (mul-add-div_right (pow_pos b) (p * 2) x) ∙ mul-add-mod_self_right p 2 (x / 2 ^ b)

module _ (i : ℕ) (pos : 0 < i) where
  -- the first n bits 0, i, 2i, .. stand below bit n·i
  every_bit_low : (n : ℕ) → every_bit i n < 2 ^ (n * i)
  every_bit_low zero = pow_pos (0 * i)
  every_bit_low (suc n) =
      let ih : every_bit i n < 2 ^ (n * i) = every_bit_low n in
      let more : suc (n * i) ≤ suc n * i = omega (arith, suc-mul n i) in
      let next : 2 ^ (n * i) * 2 ≤ 2 ^ (suc n * i) = subst (λ (p : ℕ). p ≤ 2 ^ (suc n * i)) (pow-suc 2 (n * i)) (pow_mono more) in
      omega arith

  -- bit k·i is set for each k below n
  every_bit_set : (n k : ℕ) → k < n → bit_at (every_bit i n) (k * i) ≡ 1
  every_bit_set zero k h = absurd (omega arith)
  every_bit_set (suc n) k h =
      ⊎_elim (λ (e : k ≡ n). ap (λ (j : ℕ). bit_at (every_bit i (suc n)) (j * i)) e ∙ top_bit (n * i) (every_bit i n) (every_bit_low n))
      (λ (l : k < n). below_top (n * i) (every_bit i n) (every_bit_low n) (k * i) (mul-lt-mul_of_pos_right l pos) ∙ every_bit_set n k l)
      (eq-or-lt_of_le (le_of_suc-le-suc h))

  -- and no other bit is
  every_bit_only : (n b : ℕ) → bit_at (every_bit i n) b ≡ 1 → (k : ℕ) × (k < n) × (b ≡ k * i)
  every_bit_only zero b e =
      let none : bit_at 0 b ≡ 0 = ap (λ (q : ℕ). q % 2) (zero-div (2 ^ b)) in
      absurd (omega (arith, none))
  every_bit_only (suc n) b e = go (every_bit_only n b) (dec_le b (n * i))
    where
      go : (bit_at (every_bit i n) b ≡ 1 → (k : ℕ) × (k < n) × (b ≡ k * i)) → Dec (b ≤ n * i) → (k : ℕ) × (k < suc n) × (b ≡ k * i)
      go ih (no h) = absurd (omega (arith, above_top (n * i) (every_bit i n) (every_bit_low n) b (lt_of_not-le h)))
      go ih (yes l) =
          ⊎_elim (λ q. (n, le_refl (suc n), q))
          (λ q. let r = ih (sym (below_top (n * i) (every_bit i n) (every_bit_low n) b q) ∙ e) in (r.0, omega (arith, r.1), r.2))
          (eq-or-lt_of_le l)

-- k terms are below ceil(8/i) just where bit k·i is below 8
term_below : (i k : ℕ) → 0 < i → (k < (8 + (i - 1)) / i) ↔ (k * i < 8)
term_below i k pos =
    (λ h. omega (arith, (le-div_iff_mul-le pos).0 h, suc-mul k i), λ h. (le-div_iff_mul-le pos).1 (omega (arith, suc-mul k i)))

-- SCHINFO at high speed has the bit k·i for each k·i below 8.
pub schinfo_set : (interval k : ℕ) → k * max 1 interval < 8 → bit_at (schinfo High interval) (k * max 1 interval) ≡ 1
schinfo_set interval k h =
    let pos : 0 < max 1 interval = omega arith in
    every_bit_set (max 1 interval) pos ((8 + (max 1 interval - 1)) / max 1 interval) k ((term_below (max 1 interval) k pos).1 h)

-- It has no other.
pub schinfo_only : (interval b : ℕ) → bit_at (schinfo High interval) b ≡ 1 → (b < 8) × ((k : ℕ) × (b ≡ k * max 1 interval))
schinfo_only interval b e =
    let pos : 0 < max 1 interval = omega arith in
    let r = every_bit_only (max 1 interval) pos ((8 + (max 1 interval - 1)) / max 1 interval) b e in
    (omega (arith, r.2, (term_below (max 1 interval) r.0 pos).0 r.1), (r.0, r.2))

-- from an interval of 8 on the first bit stands alone
pub first_alone : (interval : ℕ) → 8 ≤ interval → 1 ≡ microframe_bits interval
first_alone interval h =
    let i = max 1 interval in
    let one : (8 + (i - 1)) / i ≡ 1 = div-eq_of_lt-le i (omega arith) (omega arith) in
    sym (ap (every_bit i) one ∙ ap (λ (k : ℕ). 2 ^ k + 0) (zero-mul i))
