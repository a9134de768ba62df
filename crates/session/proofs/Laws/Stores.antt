-- The laws of a submission's words and loops: one packet and the rest of them, put into the table of plans and counted.
-- Each loop's invariant says that what is still to be done gives the goal; a law for each way out of a turn keeps it. Assumes nothing.
use mathlib.Core.Path.{◌≡◌, refl, sym, ap, ◌∙◌}
use mathlib.Core.Bool.{Bool, true, false, cond}
use mathlib.Core.List.{List, [], ◌∷◌, map}
use mathlib.Core.Logic.{◌≢◌}
use Prim.Native.Nat.{ℕ, zero, suc, ◌+◌, ◌*◌, ◌%◌, ◌≤◌, ◌<◌}
use native.Mathlib.Nat.{add-zero, mul-suc, min-le_left}
use native.Mathlib.Numerals.{add-one}
use native.Mathlib.Omega.{arith}
use lib.Dec.{ltb}
use lib.ListN.{length, get_or, set, take, drop, length-take, drop_of_length-le}
use lib.Seq.{sets, get_or-take, length-take-le}
use borrow.Author.Tests.{ltb-false}
use Rattle.words.specs.Words.{iso_status}
use Rattle.ring.specs.RingSums.{slot_at}
use Rattle.session.specs.declared.types.IsoPacketPlan.{IsoPacketPlan}
use Rattle.session.specs.declared.types.TransferStatus.TheVariants.{Completed}
use Rattle.session.specs.Session.{blank_plan}
use Rattle.ring.specs.Stores.{Store, stored, is_last, stores_from, as_word}
use Rattle.ring.proofs.Stores.{drop_more, status_fits}
use Rattle.session.specs.Place.{plans_from}
use Rattle.session.specs.Way.{sum, first_long}
use Rattle.session.proofs.Laws.Lists.{set_some}

-- ---- the words of a submission

abbrev put : ℕ → ℕ → Store
put word value = record { word = word; value = value }

-- where the addresses fit 32 bits, none wraps
pub none_wraps :
    (R insert step i addr : ℕ) (lengths : List ℕ) → addr + sum lengths ≤ 4_294_967_295
    → map as_word (stores_from R insert step i addr lengths) ≡ stores_from R insert step i addr lengths
none_wraps R insert step i addr [] h = refl
none_wraps R insert step i addr (l ∷ ls) h =
    let at = slot_at R insert step i in
    let low : addr % 4_294_967_296 ≡ addr = omega arith in
    let after = stores_from R insert step (suc i) (addr + l) ls in
    let status = iso_status l (is_last ls) in
    ap (λ (v : ℕ). put (2 * at + 1) v ∷ put (2 * at) (status % 4_294_967_296) ∷ map as_word after) low
    ∙ ap (λ (v : ℕ). put (2 * at + 1) addr ∷ put (2 * at) v ∷ map as_word after) (status_fits l (is_last ls))
    ∙ ap (λ (xs : List Store). put (2 * at + 1) addr ∷ put (2 * at) status ∷ xs) (none_wraps R insert step (suc i) (addr + l) ls (omega arith))

-- the status word of a packet is not 0: its active bit is set
status_some : (len : ℕ) (last : Bool) → iso_status len last ≢ 0
status_some len last e = omega (arith, e)

-- stores that put 0 at no status word
abbrev Clearless : List Store → Type 0
Clearless [] = Unit
Clearless (x ∷ xs) = ((slot : ℕ) → 2 * slot ≡ x.word → x.value ≢ 0) × Clearless xs

clearless_take : (k : ℕ) (xs : List Store) → Clearless xs → Clearless (take k xs)
clearless_take zero xs h = tt
clearless_take (suc k) [] h = tt
clearless_take (suc k) (x ∷ xs) h = (h.0, clearless_take k xs h.1)

clearless_stored : (xs : List Store) (ring : List ℕ) (slot : ℕ) → Clearless xs → get_or ring (2 * slot) 0 ≢ 0 → get_or (stored xs ring) (2 * slot) 0 ≢ 0
clearless_stored [] ring slot h some = some
clearless_stored (x ∷ xs) ring slot h some =
    clearless_stored xs (set ring x.word x.value) slot h.1 (set_some ring x.word x.value (2 * slot) (h.0 slot) some)

-- the words of a submission, or as many as may be stored, leave no status word 0 that was not
module _ (R insert step : ℕ) where
  stores_clearless : (i addr : ℕ) (lengths : List ℕ) → Clearless (stores_from R insert step i addr lengths)
  stores_clearless i addr [] = tt
  stores_clearless i addr (l ∷ ls) = ((λ slot e. absurd (omega arith)), ((λ slot e. status_some l (is_last ls)), stores_clearless (suc i) (addr + l) ls))

  pub stores_some :
      (i addr : ℕ) (lengths ring : List ℕ) (slot : ℕ) → get_or ring (2 * slot) 0 ≢ 0
      → get_or (stored (stores_from R insert step i addr lengths) ring) (2 * slot) 0 ≢ 0
  stores_some i addr lengths ring slot = clearless_stored (stores_from R insert step i addr lengths) ring slot (stores_clearless i addr lengths)

  pub first_stores_some :
      (k i addr : ℕ) (lengths ring : List ℕ) (slot : ℕ) → get_or ring (2 * slot) 0 ≢ 0
      → get_or (stored (take k (stores_from R insert step i addr lengths)) ring) (2 * slot) 0 ≢ 0
  first_stores_some k i addr lengths ring slot =
      let xs = stores_from R insert step i addr lengths in
      clearless_stored (take k xs) ring slot (clearless_take k xs (stores_clearless i addr lengths))

-- ---- the plans of a submission

-- a packet's plan as it is submitted
abbrev pub new_plan : ℕ → ℕ → IsoPacketPlan
new_plan len slot = record { planned = len; desc_index = slot; actual = 0; status = Completed }

module _ (R insert step : ℕ) where
  -- a plan for each packet
  pub length-plans_from : (i : ℕ) (lengths : List ℕ) → length (plans_from R insert step i lengths) ≡ length lengths
  length-plans_from i [] = refl
  length-plans_from i (l ∷ ls) = ap suc (length-plans_from (suc i) ls)

  -- plan k is packet i + k's
  pub get_or-plans_from : (i : ℕ) (lengths : List ℕ) (k : ℕ) → k < length lengths
      → get_or (plans_from R insert step i lengths) k blank_plan ≡ new_plan (get_or lengths k 0) (slot_at R insert step (i + k))
  get_or-plans_from i [] k h = absurd (omega arith)
  get_or-plans_from i (l ∷ ls) zero h = rw add-zero
  get_or-plans_from i (l ∷ ls) (suc k) h =
      let less : k < length ls = omega arith in
      let on : suc i + k ≡ i + suc k = omega arith in
      get_or-plans_from (suc i) ls k less ∙ ap (λ (j : ℕ). new_plan (get_or ls k 0) (slot_at R insert step j)) on

module _ (R insert step i : ℕ) (lengths : List ℕ) where
  -- no packet is left: the table stays
  plans_end_lem : (table : List IsoPacketPlan) (to : ℕ) → length lengths ≤ i → table ≡ sets table to (plans_from R insert step i (drop i lengths))
  plans_end_lem table to h = rw (drop_of_length-le lengths h)

  -- the plan of packet i, and those after it behind it
  plans_more : (table : List IsoPacketPlan) (to slot : ℕ) → i < length lengths → slot ≡ slot_at R insert step i
      → sets (set table to (new_plan (get_or lengths i 0) slot)) (to + 1) (plans_from R insert step (i + 1) (drop (i + 1) lengths))
      ≡ sets table to (plans_from R insert step i (drop i lengths))
  plans_more table to slot h at = rw (drop_more lengths i h, at, add-one to, add-one i)

-- the same of the first n lengths, in a walk over all of them
module _ (R insert step i n : ℕ) (lengths : List ℕ) (table : List IsoPacketPlan) (to : ℕ) where
  pub plans_past : n ≤ i → table ≡ sets table to (plans_from R insert step i (drop i (take n lengths)))
  plans_past h = plans_end_lem R insert step i (take n lengths) table to (omega (arith, length-take n lengths, min-le_left n (length lengths)))

  pub plans_next : (slot : ℕ) → i < n → n ≤ length lengths → slot ≡ slot_at R insert step i
      → sets (set table to (new_plan (get_or lengths i 0) slot)) (to + 1) (plans_from R insert step (i + 1) (drop (i + 1) (take n lengths)))
      ≡ sets table to (plans_from R insert step i (drop i (take n lengths)))
  plans_next slot h fits at =
      ap (λ (len : ℕ). sets (set table to (new_plan len slot)) (to + 1) (plans_from R insert step (i + 1) (drop (i + 1) (take n lengths))))
      (sym (get_or-take n lengths i 0 h))
      ∙ plans_more R insert step i (take n lengths) table to slot (omega (arith, length-take-le n lengths fits)) at

-- ---- lengths

-- where no packet is long, the first is not, and none after it is
first_short : (limit l n m : ℕ) (b : Bool) → ltb limit l ≡ b → suc n ≤ cond b 0 (suc m) → (l ≤ limit) × (n ≤ m)
first_short limit l n m true e h = absurd (omega arith)
first_short limit l n m false e h = (ltb-false limit l e, omega arith)

-- where there is no long packet, every length is within the limit
pub none_long : (limit : ℕ) (lengths : List ℕ) → length lengths ≤ first_long limit lengths → (k : ℕ) → k < length lengths → get_or lengths k 0 ≤ limit
none_long limit [] e k h = absurd (omega arith)
none_long limit (l ∷ ls) e zero h = (first_short limit l (length ls) (first_long limit ls) (ltb limit l) refl e).0
none_long limit (l ∷ ls) e (suc k) h = none_long limit ls (first_short limit l (length ls) (first_long limit ls) (ltb limit l) refl e).1 k (omega arith)

-- lengths within the limit have a sum within as many limits
pub sum_within : (limit : ℕ) (lengths : List ℕ) → ((k : ℕ) → k < length lengths → get_or lengths k 0 ≤ limit) → sum lengths ≤ limit * length lengths
sum_within limit [] h = omega arith
sum_within limit (l ∷ ls) h =
    let first : l ≤ limit = h 0 (omega arith) in
    let rest : sum ls ≤ limit * length ls = sum_within limit ls (λ k m. h (suc k) (omega arith)) in
    omega (arith, mul-suc limit (length ls))
