-- The facts of the ring that keep a camera's slots apart, over any ring of R slots, R above 0, and any interval.
use Rattle.std.proofs.Common.{◌≡◌, ℕ, suc, ◌+◌, ◌-◌, ◌*◌, ◌/◌, ◌%◌, ◌<◌, ◌≤◌, max, List, length, get_or, sym, ap, ◌∙◌, subst, mod-lt, div-add-mod', zero-add, mul-one, mul-add, div-le_self, arith}
use mathlib.Core.Path.{subst⁻¹}
use Prim.Native.Nat.{◌∣◌}
use native.Mathlib.Nat.{mod-mod, mod-mod_of_dvd, mod-add-mod, add-mod-mod, mod-le, add-mod_right, add-mul-mod_self_right, div-add-mod, add-mul-mod_self_left}
use Rattle.ring.specs.Gcd.{gcd}
use Rattle.ring.specs.RingSums.{ring_size, grid_step, capacity, grid_gap, grid_slot, slot_at, slots_from, frame_step, service_frames}
use Rattle.ring.specs.declared.speed.Speed.{Speed}
use Rattle.ring.specs.declared.speed.Speed.TheVariants.{High, Full, Low}
use Rattle.ring.proofs.Euclid.{gcd_pos, gcd_divides}
use Rattle.ring.proofs.Steps.{turns_pos, steps_apart, steps_round, walk_is, next_slot, first_slot, length-slots_from, get_or-slots_from}

pub grid_step_pos : (interval R : ℕ) → 0 < grid_step interval R
grid_step_pos interval R = gcd_pos (max 1 interval) (max 1 R)

-- whole steps added leave the gap as it is; so many that the difference is not negative
pub gap_wide : (g c t : ℕ) → 0 < g → t ≤ 65535 → (c + g * 65535 - t) % g ≡ grid_gap g c t
gap_wide g c t pos low =
    sym (add-mul-mod_self_left (c + g * 65535 - t) g (t / g + 1))
    ∙ ap (λ (x : ℕ). x % g) even
    ∙ add-mul-mod_self_left (c % g + (g - t % g)) g (c / g + 65535)
  where
    even : (c + g * 65535 - t) + g * (t / g + 1) ≡ (c % g + (g - t % g)) + g * (c / g + 65535)
    even =
        omega (
          arith,
          div-add-mod c g,
          div-add-mod t g,
          mod-lt t pos,
          mul-add g (t / g) 1,
          mul-one g,
          mul-add g (c / g) 65535,
        )

pub ring_size_pos : (speed : Speed) → 0 < ring_size speed
ring_size_pos High = omega arith
ring_size_pos Full = omega arith
ring_size_pos Low = omega arith

module _ (interval R : ℕ) (pos : 0 < R) where
  -- a ring that has slots counts as it is
  grid_step_is : grid_step interval R ≡ gcd (max 1 interval) R
  grid_step_is = let e : max 1 R ≡ R = omega arith in ap (gcd (max 1 interval)) e

  -- g divides the ring.
  pub step_divides_ring : grid_step interval R ∣ R
  step_divides_ring = subst⁻¹ (λ (g : ℕ). g ∣ R) grid_step_is (gcd_divides (max 1 interval) R).1

  -- g divides the interval.
  pub step_divides_interval : grid_step interval R ∣ max 1 interval
  step_divides_interval = (gcd_divides (max 1 interval) (max 1 R)).0

  -- Capacity + 1 is R/g, the number of slots that the grid has.
  pub capacity_more : capacity interval R + 1 ≡ R / grid_step interval R
  capacity_more = let some : 0 < R / grid_step interval R = subst⁻¹ (λ (g : ℕ). 0 < R / g) grid_step_is (turns_pos R (max 1 interval) pos) in omega arith

  -- The slots of at most R/g packets, from any start, are pairwise distinct.
  pub slots_apart : (s j k : ℕ) → j < k → k < R / grid_step interval R → slot_at R s (max 1 interval) j ≡ slot_at R s (max 1 interval) k → ⊥
  slots_apart s j k l h e =
      let turns : k < R / gcd (max 1 interval) R = subst (λ (g : ℕ). k < R / g) grid_step_is h in
      let d : k ≡ j + (k - j) = omega arith in
      steps_apart R (max 1 interval) pos s j (k - j) (omega arith) (omega arith) (e ∙ ap (slot_at R s (max 1 interval)) d)

  -- The slot after n packets, n at most the capacity, is none of theirs: the cursor never lies on a slot just written.
  pub cursor_apart : (s n j : ℕ) → n ≤ capacity interval R → j < n → slot_at R s (max 1 interval) j ≡ slot_at R s (max 1 interval) n → ⊥
  cursor_apart s n j h l = slots_apart s j n l (omega (arith, capacity_more))

  -- R/g steps come round.
  pub comes_round : (s : ℕ) → slot_at R s (max 1 interval) (R / grid_step interval R) ≡ s % R
  comes_round s = subst⁻¹ (λ (g : ℕ). slot_at R s (max 1 interval) (R / g) ≡ s % R) grid_step_is (steps_round R (max 1 interval) pos s)

-- The gap is the least number that, added to the target, gives the cursor's remainder.
gap_reaches : (g c t : ℕ) → 0 < g → (t + grid_gap g c t) % g ≡ c % g
gap_reaches g c t h =
    let less : t % g < g = mod-lt t h in
    let sum : t % g + (c % g + (g - t % g)) ≡ c % g + g = omega arith in
    add-mod-mod t (c % g + (g - t % g)) g ∙ sym (mod-add-mod t g (c % g + (g - t % g))) ∙ ap (λ (x : ℕ). x % g) sum ∙ add-mod_right (c % g) g ∙ mod-mod c g

gap_least : (g c t d : ℕ) → 0 < g → (t + d) % g ≡ c % g → grid_gap g c t ≤ d
gap_least g c t d h e =
    let less : t % g < g = mod-lt t h in
    let x = g - t % g in
    let sum : t + d + x ≡ d + t / g * g + g = omega (arith, div-add-mod' t g) in
    let same : grid_gap g c t ≡ d % g =
    ap (λ (y : ℕ). (y + x) % g) (sym e)
    ∙ mod-add-mod (t + d) g x
    ∙ ap (λ (y : ℕ). y % g) sum
    ∙ add-mod_right (d + t / g * g) g
    ∙ add-mul-mod_self_right d (t / g) g in
    subst⁻¹ (λ (y : ℕ). y ≤ d) same (mod-le d g)

module _ (c t interval R : ℕ) (pos : 0 < R) where
  -- The grid's answer is a slot of the ring.
  pub grid_below : grid_slot c t interval R < R
  grid_below = let e : max 1 R ≡ R = omega arith in subst⁻¹ (λ (x : ℕ). (t + grid_gap (grid_step interval R) c t) % x < R) e (mod-lt _ pos)

  -- It is so many steps after the target as the gap says.
  pub grid_reached : grid_slot c t interval R ≡ (t + grid_gap (grid_step interval R) c t) % R
  grid_reached = let e : max 1 R ≡ R = omega arith in ap (λ (x : ℕ). (t + grid_gap (grid_step interval R) c t) % x) e

  -- It is congruent to the cursor mod g: the channel visits it.
  pub grid_on_step : grid_slot c t interval R % grid_step interval R ≡ c % grid_step interval R
  grid_on_step =
      let e : max 1 R ≡ R = omega arith in
      let g = grid_step interval R in
      ap (λ (x : ℕ). (t + grid_gap g c t) % x % g) e ∙ mod-mod_of_dvd g (t + grid_gap g c t) (step_divides_ring interval R pos)
      ∙ gap_reaches g c t (grid_step_pos interval R)

  -- It is the first such slot at or after the target, going forward: no fewer steps lead from the target to a slot of the cursor's remainder.
  pub grid_first : (d : ℕ) → (t + d) % R % grid_step interval R ≡ c % grid_step interval R → grid_gap (grid_step interval R) c t ≤ d
  grid_first d e =
      let g = grid_step interval R in
      gap_least g c t d (grid_step_pos interval R) (sym (mod-mod_of_dvd g (t + d) (step_divides_ring interval R pos)) ∙ e)

module _ (start interval : ℕ) (speed : Speed) where
  -- The service frames are the entries reached from the start by so many steps as come round.
  service_frames_are : service_frames start interval speed ≡ slots_from 64 (start % 64) (frame_step speed interval) 0 (64 / gcd (frame_step speed interval) 64)
  unfolding service_frames
  service_frames_are = walk_is 64 (frame_step speed interval) (omega arith) (start % 64) 64 (omega arith) (div-le_self 64 (gcd (frame_step speed interval) 64))

  service_frames_length : length (service_frames start interval speed) ≡ 64 / gcd (frame_step speed interval) 64
  service_frames_length = ap length service_frames_are ∙ length-slots_from 64 (start % 64) (frame_step speed interval) 0 (64 / gcd (frame_step speed interval) 64)

  service_frames_at :
      (k : ℕ) → k < length (service_frames start interval speed)
      → get_or (service_frames start interval speed) k 0 ≡ slot_at 64 (start % 64) (frame_step speed interval) k
  service_frames_at k h =
      ap (λ (l : List ℕ). get_or l k 0) service_frames_are
      ∙ get_or-slots_from 64 (start % 64) (frame_step speed interval) 0 (64 / gcd (frame_step speed interval) 64) k (omega (arith, service_frames_length))
      ∙ ap (slot_at 64 (start % 64) (frame_step speed interval)) (zero-add k)

  -- The service frames are at least one and at most 64.
  pub service_frames_few : (0 < length (service_frames start interval speed)) × (length (service_frames start interval speed) ≤ 64)
  service_frames_few =
      omega (arith, service_frames_length, turns_pos 64 (frame_step speed interval) (omega arith), div-le_self 64 (gcd (frame_step speed interval) 64))

  -- They are distinct.
  pub service_frames_apart :
      (j k : ℕ) → j < k → k < length (service_frames start interval speed)
      → get_or (service_frames start interval speed) j 0 ≡ get_or (service_frames start interval speed) k 0 → ⊥
  service_frames_apart j k l h e =
      let d : k ≡ j + (k - j) = omega arith in
      steps_apart 64 (frame_step speed interval) (omega arith) (start % 64) j (k - j) (omega arith) (omega (arith, service_frames_length))
      (sym (service_frames_at j (omega arith)) ∙ e ∙ service_frames_at k h ∙ ap (slot_at 64 (start % 64) (frame_step speed interval)) d)

  -- The step after the last is the first.
  pub service_frames_round :
      (k : ℕ) → k + 1 ≡ length (service_frames start interval speed)
      → (get_or (service_frames start interval speed) k 0 + frame_step speed interval) % 64 ≡ get_or (service_frames start interval speed) 0 0
  service_frames_round k e =
      let last : suc k ≡ 64 / gcd (frame_step speed interval) 64 = omega (arith, service_frames_length) in
      ap (λ (x : ℕ). (x + frame_step speed interval) % 64) (service_frames_at k (omega arith)) ∙ next_slot 64 (start % 64) (frame_step speed interval) k
      ∙ ap (slot_at 64 (start % 64) (frame_step speed interval)) last
      ∙ steps_round 64 (frame_step speed interval) (omega arith) (start % 64)
      ∙ sym (first_slot 64 (start % 64) (frame_step speed interval))
      ∙ sym (service_frames_at 0 (omega arith))
