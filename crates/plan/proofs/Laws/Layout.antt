-- The words that the stages of a bulk or interrupt transfer leave in the array, descriptor by descriptor: one induction on the stages that are
-- still to come, over plain numbers.
use Rattle.std.proofs.Common.{◌≡◌, ℕ, zero, suc, ◌+◌, ◌-◌, ◌*◌, ◌%◌, ◌<◌, ◌≤◌, min, Bool, true, false, ◌||◌, eqb, List, length, get_or, sym, refl, ap, ◌∙◌, subst, ap₂, ⊎_elim, mul-le-mul_right, add-mul, eq-or-lt_of_le, arith, eq-eqb, ne_eqb}
use mathlib.Core.Path.{subst⁻¹}
use lib.Seq.{sets, length-sets}
use Rattle.words.specs.Field.{get}
use Rattle.words.specs.Words.{packets, initial_len, chain_status, is_set, packet_size, direction_in}
use Rattle.plan.specs.declared.types.Dwc2TransferStage.{Dwc2TransferStage}
use Rattle.plan.specs.Planning.{chunk_of, split_of, lengths, advanced, chain_words, stage_words, laid_stage, laid_out}
use Rattle.plan.specs.DataStages.{data_stage, stages_from}
use Rattle.plan.proofs.Laws.Split.{parts_within, lengths_full, lengths_last}
use Rattle.plan.proofs.Laws.Data.{stages_last, stages_next}
use Rattle.plan.proofs.Laws.Laid.{either, Laid, joined, chain_laid}

-- descriptor k of n ends a stage: k + 1 is a multiple of 256, or n
abbrev pub ends : ℕ → ℕ → Bool
ends k n = eqb ((k + 1) % 256) 0 || eqb (k + 1) n

ends_full : (k n : ℕ) → (k + 1) % 256 ≡ 0 → ends k n ≡ true
ends_full k n h = ap (λ (x : Bool). x || eqb (k + 1) n) (eq-eqb ((k + 1) % 256) 0 h)

ends_last : (k n : ℕ) → k + 1 ≡ n → ends k n ≡ true
ends_last k n h = ap (λ (x : Bool). eqb ((k + 1) % 256) 0 || x) (eq-eqb (k + 1) n h) ∙ or_true (eqb ((k + 1) % 256) 0)
  where
    or_true : (x : Bool) → (x || true) ≡ true
    or_true true = refl
    or_true false = refl

ends_not : (k n : ℕ) → ((k + 1) % 256 ≡ 0 → ⊥) → (k + 1 ≡ n → ⊥) → ends k n ≡ false
ends_not k n h l = ap₂ (λ (x y : Bool). x || y) (ne_eqb ((k + 1) % 256) 0 h) (ne_eqb (k + 1) n l)

-- so only the last descriptor of a stage ends one
pub ends_stage : (n i j : ℕ) → j < min 256 (n - 256 * i) → ends (256 * i + j) n ≡ eqb (j + 1) (min 256 (n - 256 * i))
ends_stage n i j h =
    let more : j + 1 ≤ min 256 (n - 256 * i) = omega arith in
    ⊎_elim
    (λ e.
    either 256 (n - 256 * i) (λ l. ends_full (256 * i + j) n (omega arith)) (λ l. ends_last (256 * i + j) n (omega arith))
    ∙ sym (eq-eqb (j + 1) (min 256 (n - 256 * i)) e))
    (λ l. ends_not (256 * i + j) n (omega arith) (omega arith) ∙ sym (ne_eqb (j + 1) (min 256 (n - 256 * i)) (omega arith)))
    (eq-or-lt_of_le more)

-- the status word of a descriptor of a transfer
abbrev pub status_of : ℕ → ℕ → Bool → ℕ → ℕ
status_of total m is_in k = chain_status (initial_len (get_or (lengths total m) k 0) m is_in) (ends k (split_of total m).count)

status_is :
    (total m : ℕ) (is_in : Bool) (k len : ℕ) (end : Bool) → get_or (lengths total m) k 0 ≡ len → ends k (split_of total m).count ≡ end
    → chain_status (initial_len len m is_in) end ≡ status_of total m is_in k
status_is total m is_in k len end e f = sym (ap₂ (λ (l : ℕ) (x : Bool). chain_status (initial_len l m is_in) x) e f)

-- The descriptors from one number up to another are those of a transfer of so many bytes from an address on.
abbrev pub Filled : ℕ → ℕ → Bool → ℕ → ℕ → ℕ → List ℕ → List ℕ → Type 0
Filled total m is_in start from to a b = Laid (status_of total m is_in) (λ (k : ℕ). start + k * chunk_of m) from to a b

-- the last descriptor has what the others leave
last_length : (total m k : ℕ) → k + 1 ≡ (split_of total m).count → get_or (lengths total m) k 0 ≡ total - k * chunk_of m
last_length total m k h =
    let e : k ≡ (split_of total m).count - 1 = omega arith in
    ap (λ (i : ℕ). get_or (lengths total m) i 0) e ∙ lengths_last total m ∙ ap (λ (i : ℕ). total - i * chunk_of m) (sym e)

-- full chunks before the last are within the bytes
pub chunks_within : (total m k : ℕ) → k < (split_of total m).count → k * chunk_of m ≤ total
chunks_within total m k h =
    let l : k ≤ (split_of total m).count - 1 = omega arith in
    omega (arith, mul-le-mul_right (chunk_of m) l, parts_within total (chunk_of m))

module _ (hcchar m : ℕ) (is_in : Bool) (size : get packet_size hcchar ≡ m) (way : is_set direction_in hcchar ≡ is_in) (total start : ℕ) where
  -- a stage fills its descriptors, if its last one is as it should be
  stage_laid :
      (descs len addr base : ℕ) (t : Bool) (a : List ℕ) → 0 < descs → descs ≤ 256 → base + descs ≤ (split_of total m).count
      → addr ≡ start + base * chunk_of m
      → base % 256 ≡ 0
      → 2 * (split_of total m).count ≤ length a
      → ((i : ℕ) → i + 1 ≡ descs → chain_status (initial_len (len - i * chunk_of m) m is_in) true ≡ status_of total m is_in (base + i))
      → Filled total m is_in start base (base + descs) a (laid_stage (data_stage hcchar descs len addr base t) a)
  stage_laid descs len addr base t a some few fits here whole room end =
      subst⁻¹ (Filled total m is_in start base (base + descs) a) (ap₂ (λ (p : ℕ) (d : Bool). sets a (2 * base) (chain_words p d descs len addr)) size way)
      (chain_laid (status_of total m is_in) (λ (k : ℕ). start + k * chunk_of m) m is_in descs len addr base a some (omega arith)
      (λ i h.
      status_is total m is_in (base + i) (chunk_of m) false (lengths_full total m (base + i) (omega arith))
      (ends_not (base + i) (split_of total m).count (omega arith) (omega arith)))
      end
      (λ i h. omega (arith, add-mul base i (chunk_of m))))

  -- a full stage, with others behind it
  full_laid :
      (addr base : ℕ) (t : Bool) (a : List ℕ) → base + 256 < (split_of total m).count → addr ≡ start + base * chunk_of m → base % 256 ≡ 0
      → 2 * (split_of total m).count ≤ length a
      → Filled total m is_in start base (base + 256) a (laid_stage (data_stage hcchar 256 (256 * chunk_of m) addr base t) a)
  full_laid addr base t a fits here whole room =
      stage_laid 256 (256 * chunk_of m) addr base t a (omega arith) (omega arith) (omega arith) here whole room
      (λ i e. let f : i ≡ 255 = omega arith in
      status_is total m is_in (base + i) (256 * chunk_of m - i * chunk_of m) true
      (lengths_full total m (base + i) (omega arith) ∙ omega (arith, ap (λ (k : ℕ). k * chunk_of m) f))
      (ends_full (base + i) (split_of total m).count (omega arith)))

  -- the last stage
  last_laid :
      (descs len addr base : ℕ) (t : Bool) (a : List ℕ) → 0 < descs → descs ≤ 256 → base + descs ≡ (split_of total m).count
      → base * chunk_of m + len ≡ total
      → addr ≡ start + base * chunk_of m
      → base % 256 ≡ 0
      → 2 * (split_of total m).count ≤ length a
      → Filled total m is_in start base (split_of total m).count a (laid_stage (data_stage hcchar descs len addr base t) a)
  last_laid descs len addr base t a some few count bytes here whole room =
      subst (λ (k : ℕ). Filled total m is_in start base k a (laid_stage (data_stage hcchar descs len addr base t) a)) count
      (stage_laid descs len addr base t a some few (omega arith) here whole room
      (λ i e. status_is total m is_in (base + i) (len - i * chunk_of m) true
      (last_length total m (base + i) (omega arith) ∙ omega (arith, add-mul base i (chunk_of m)))
      (ends_last (base + i) (split_of total m).count (omega arith))))

  -- the stages still to come fill their descriptors, up to the last of the transfer
  pub stages_laid :
      (fuel descs len addr base : ℕ) (t : Bool) (a : List ℕ) → 0 < descs → descs ≤ 256 * fuel
      → base + descs ≡ (split_of total m).count
      → base * chunk_of m + len ≡ total
      → addr ≡ start + base * chunk_of m
      → base % 256 ≡ 0
      → 2 * (split_of total m).count ≤ length a
      → Filled total m is_in start base (split_of total m).count a (laid_out (stages_from hcchar m fuel descs len addr base t) a)
  stages_laid zero descs len addr base t a some few count bytes here whole room = absurd (omega arith)
  stages_laid (suc fuel) descs len addr base t a some few count bytes here whole room =
      let k = 256 * chunk_of m in
      let first = laid_stage (data_stage hcchar 256 k addr base t) a in
      let same : length first ≡ length a = length-sets a (2 * base) (stage_words (data_stage hcchar 256 k addr base t)) in
      let on : (base + 256) * chunk_of m ≡ base * chunk_of m + k = add-mul base 256 (chunk_of m) in
      either 256 descs
      (λ h. let within : (base + 256) * chunk_of m ≤ total = chunks_within total m (base + 256) (omega arith) in
      subst⁻¹ (λ (ss : List Dwc2TransferStage). Filled total m is_in start base (split_of total m).count a (laid_out ss a))
      (stages_next hcchar m fuel descs len addr base t h)
      (joined (status_of total m is_in) (λ (k : ℕ). start + k * chunk_of m) base (base + 256) (split_of total m).count a first _ (omega arith) (omega arith)
      (full_laid addr base t a (omega arith) here whole room)
      (stages_laid fuel (descs - 256) (len - k) (addr + k) (base + 256) (advanced t (packets k m)) first (omega arith) (omega arith) (omega arith)
      (omega arith) (omega arith) (omega arith) (omega arith))))
      (λ h.
      subst⁻¹ (λ (ss : List Dwc2TransferStage). Filled total m is_in start base (split_of total m).count a (laid_out ss a))
      (stages_last hcchar m (suc fuel) descs len addr base t (omega arith) h)
      (last_laid descs len addr base t a some h count bytes here whole room))
