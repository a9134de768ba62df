-- Steps of i round a ring of R slots, for any R above 0 and any i, with g their greatest common divisor: R/g steps come round, and no fewer
-- do. If d steps lead back, R divides d·i and d·R, so it divides d·g, and R/g divides d.
use Rattle.std.proofs.Common.{◌≡◌, ℕ, zero, suc, ◌+◌, ◌*◌, ◌/◌, ◌%◌, ◌<◌, ◌≤◌, List, ◌∷◌, length, get_or, sym, refl, ap, ◌∙◌, subst, add-zero, add_assoc, add-suc, mod-eq_of_lt, mul_assoc, suc-mul, add-mul, suc-add, one-mul, div-add-mod', le-div_iff_mul-le, zero-add, zero-mul, arith}
use mathlib.Core.Path.{subst⁻¹}
use Prim.Native.Nat.{◌∣◌}
use native.Mathlib.Nat.{mod-add-mod, dvd-mul_left, dvd-add_iff_right, dvd_of_mul-dvd-mul_right, div-mul_cancel, mul-div_cancel', le_of_dvd, add-mul-mod_self_left}
use Rattle.ring.specs.Gcd.{gcd}
use Rattle.ring.specs.RingSums.{slot_at, slots_from, walk}
use Rattle.ring.proofs.Euclid.{gcd_pos, gcd_divides, gcd_greatest}
use Rattle.ring.proofs.Walk.{walk_back, walk_on}

-- what leaves the remainder as it is, is a multiple of the divisor
pub same_remainder : (R x d : ℕ) → x % R ≡ (x + d) % R → R ∣ d
same_remainder R x d e =
    let whole : (x + d) / R * R ≡ x / R * R + d = omega (arith, div-add-mod' x R, div-add-mod' (x + d) R) in
    (dvd-add_iff_right R {m = x / R * R} (dvd-mul_left R (x / R))).1 (subst (λ (y : ℕ). R ∣ y) whole (dvd-mul_left R ((x + d) / R)))

-- n slots are a list of n, and its element k is the slot of packet k
pub length-slots_from : (R s i k n : ℕ) → length (slots_from R s i k n) ≡ n
length-slots_from R s i k zero = refl
length-slots_from R s i k (suc n) = ap suc (length-slots_from R s i (suc k) n)

pub get_or-slots_from : (R s i k n j : ℕ) → j < n → get_or (slots_from R s i k n) j 0 ≡ slot_at R s i (k + j)
get_or-slots_from R s i k zero j h = absurd (omega arith)
get_or-slots_from R s i k (suc n) zero h = rw add-zero
get_or-slots_from R s i k (suc n) (suc j) h =
    let less : j < n = omega arith in
    get_or-slots_from R s i (suc k) n j less ∙ ap (slot_at R s i) (suc-add k j ∙ sym (add-suc k j))

-- one step on from the slot of packet k is the slot of packet k + 1
pub next_slot : (R s i k : ℕ) → (slot_at R s i k + i) % R ≡ slot_at R s i (suc k)
next_slot R s i k = mod-add-mod (s + k * i) R i ∙ ap (λ (x : ℕ). x % R) (add_assoc s (k * i) i ∙ ap (λ (x : ℕ). s + x) (sym (suc-mul k i)))

pub first_slot : (R s i : ℕ) → slot_at R s i 0 ≡ s % R
first_slot R s i = ap (λ (x : ℕ). x % R) (ap (λ (x : ℕ). s + x) (zero-mul i) ∙ add-zero s)

module _ (R i : ℕ) (pos : 0 < R) where
  pub turns_pos : 0 < R / gcd i R
  turns_pos = (le-div_iff_mul-le (gcd_pos i R)).1 (rw one-mul (le_of_dvd pos (gcd_divides i R).1))

  -- fewer than R/g steps do not lead back
  pub steps_apart : (s k d : ℕ) → 0 < d → d < R / gcd i R → slot_at R s i k ≡ slot_at R s i (k + d) → ⊥
  steps_apart s k d h l e =
      let sum : s + (k + d) * i ≡ s + k * i + d * i = ap (λ (x : ℕ). s + x) (add-mul k d i) ∙ sym (add_assoc s (k * i) (d * i)) in
      let back : R ∣ d * i = same_remainder R (s + k * i) (d * i) (e ∙ ap (λ (x : ℕ). x % R) sum) in
      let both : R ∣ d * gcd i R = gcd_greatest R d i R (omega arith) back (dvd-mul_left R d) in
      let parts : R / gcd i R * gcd i R ∣ d * gcd i R = subst⁻¹ (λ (x : ℕ). x ∣ d * gcd i R) (div-mul_cancel (gcd i R) (gcd_divides i R).1) both in
      let least : R / gcd i R ≤ d = le_of_dvd h (dvd_of_mul-dvd-mul_right (R / gcd i R) (gcd_pos i R) parts) in
      omega arith

  -- R/g steps do
  pub steps_round : (s : ℕ) → slot_at R s i (R / gcd i R) ≡ s % R
  steps_round s =
      let g = gcd i R in
      let whole : R / g * i ≡ R * (i / g) =
      ap (λ (x : ℕ). R / g * x) (sym (mul-div_cancel' g (gcd_divides i R).0)) ∙ sym (mul_assoc (R / g) g (i / g))
      ∙ ap (λ (x : ℕ). x * (i / g)) (div-mul_cancel g (gcd_divides i R).1) in
      ap (λ (x : ℕ). (s + x) % R) whole ∙ add-mul-mod_self_left s R (i / g)

  -- a walk from a slot, by i until the slot comes again, visits the slots of R/g packets: fuel above what is left changes nothing
  pub walk_visits :
      (s : ℕ) → s < R → (fuel k left : ℕ) → k + left ≡ R / gcd i R → 0 < left → left ≤ fuel → walk R i s fuel (slot_at R s i k) ≡ slots_from R s i k left
  walk_visits s below zero k left e h l = absurd (omega arith)
  walk_visits s below (suc fuel) k zero e h l = absurd (omega arith)
  walk_visits s below (suc fuel) k (suc zero) e h l =
      let last : suc k ≡ R / gcd i R = omega arith in
      let back : (slot_at R s i k + i) % R ≡ s = next_slot R s i k ∙ ap (slot_at R s i) last ∙ steps_round s ∙ mod-eq_of_lt below in
      walk_back R i s fuel (slot_at R s i k) back
  walk_visits s below (suc fuel) k (suc (suc left)) e h l =
      let on : (slot_at R s i k + i) % R ≡ s → ⊥ =
      λ back.
      steps_apart s 0 (suc k) (omega arith) (omega arith)
      (first_slot R s i ∙ mod-eq_of_lt below ∙ sym back ∙ next_slot R s i k ∙ ap (slot_at R s i) (sym (zero-add (suc k)))) in
      walk_on R i s fuel (slot_at R s i k) on
      ∙ ap (λ (x : ℕ). slot_at R s i k ∷ walk R i s fuel x) (next_slot R s i k)
      ∙ ap (λ (l : List ℕ). slot_at R s i k ∷ l) (walk_visits s below fuel (suc k) (suc left) (omega arith) (omega arith) (omega arith))

  pub walk_is : (s fuel : ℕ) → s < R → R / gcd i R ≤ fuel → walk R i s fuel s ≡ slots_from R s i 0 (R / gcd i R)
  walk_is s fuel below l =
      ap (walk R i s fuel) (sym (first_slot R s i ∙ mod-eq_of_lt below)) ∙ walk_visits s below fuel 0 (R / gcd i R) (zero-add (R / gcd i R)) turns_pos l
