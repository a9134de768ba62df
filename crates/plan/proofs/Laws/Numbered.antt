-- The stages of a bulk or interrupt transfer by their numbers: how many there are, each of them field by field, and the toggle after the last. Each
-- law is one induction on the stages that are still to come, over plain numbers.
use Rattle.std.proofs.Common.{◌≡◌, ℕ, zero, suc, ◌+◌, ◌-◌, ◌*◌, ◌/◌, ◌<◌, ◌≤◌, min, max, Bool, List, length, get_or, sym, ap, ◌∙◌, ⊎_elim, mul-le-mul_right, mul_assoc, add-mul, eq-zero-or-pos, zero-mul, arith}
use native.Mathlib.Nat.{mul-add-div_right, zero-div}
use Rattle.words.specs.Words.{packets}
use Rattle.plan.specs.declared.types.Dwc2TransferStage.{Dwc2TransferStage}
use Rattle.plan.specs.Planning.{chunk_of, advanced}
use Rattle.plan.specs.DataStages.{data_stage, stages_from, toggle_after, blank_stage}
use Rattle.plan.proofs.Laws.Split.{packets_whole, packets_exact, chunk_pos, advanced_add}
use Rattle.plan.proofs.Laws.Data.{stages_last, full_left, stages_next}
use Rattle.plan.proofs.Laws.Laid.{either}

-- the packets of a full stage
abbrev full_of : ℕ → ℕ
full_of m = 256 * ((131_071 - (max 1 m - 1)) / max 1 m)

-- a full stage is whole packets
full_whole : (m : ℕ) → 256 * chunk_of m ≡ full_of m * max 1 m
full_whole m = sym (mul_assoc 256 ((131_071 - (max 1 m - 1)) / max 1 m) (max 1 m))

full_packets : (m : ℕ) → m ≤ 65_536 → packets (256 * chunk_of m) m ≡ full_of m
full_packets m small =
    ap (λ (b : ℕ). packets b m) (full_whole m) ∙ packets_exact (full_of m) m (⊎_elim (λ z. absurd (none z)) (λ h. h) (eq-zero-or-pos (full_of m)))
  where
    none : full_of m ≡ 0 → ⊥
    none z = omega (arith, chunk_pos m small, full_whole m, ap (λ (q : ℕ). q * max 1 m) z, zero-mul (max 1 m))

-- so its packets and those of the bytes behind it are counted by themselves
packets_behind : (m b : ℕ) → m ≤ 65_536 → 0 < b → packets (256 * chunk_of m) m + packets b m ≡ packets (256 * chunk_of m + b) m
packets_behind m b small h =
    ap (λ (q : ℕ). q + packets b m) (full_packets m small) ∙ sym (packets_whole (full_of m) b m h) ∙ ap (λ (k : ℕ). packets (k + b) m) (sym (full_whole m))

whole_behind : (m b : ℕ) → m ≤ 65_536 → packets (256 * chunk_of m) m + b / max 1 m ≡ (256 * chunk_of m + b) / max 1 m
whole_behind m b small =
    let pos : 0 < max 1 m = omega arith in
    ap (λ (q : ℕ). q + b / max 1 m) (full_packets m small) ∙ sym (mul-add-div_right pos (full_of m) b) ∙ ap (λ (k : ℕ). (k + b) / max 1 m) (sym (full_whole m))

-- the toggle after the stages still to come is the one before them, flipped by all their packets
pub stages_toggle :
    (hcchar m fuel descs len addr base : ℕ) (t : Bool) → m ≤ 65_536 → 0 < descs → descs ≤ 256 * fuel → (256 < descs → (descs - 1) * chunk_of m < len)
    → toggle_after m t (stages_from hcchar m fuel descs len addr base t) ≡ advanced t (packets len m)
stages_toggle hcchar m zero descs len addr base t small some few full = absurd (omega arith)
stages_toggle hcchar m (suc fuel) descs len addr base t small some few full =
    let k = 256 * chunk_of m in
    either 256 descs
    (λ h. let parts : descs - 1 ≡ descs - 256 - 1 + 256 = omega arith in
    let on : (descs - 1) * chunk_of m ≡ (descs - 256 - 1) * chunk_of m + k = ap (λ (n : ℕ). n * chunk_of m) parts ∙ add-mul (descs - 256 - 1) 256 (chunk_of m) in
    let some_left : k < len = omega (arith, full h) in
    let all : k + (len - k) ≡ len = omega arith in
    ap (toggle_after m t) (stages_next hcchar m fuel descs len addr base t h)
    ∙ stages_toggle hcchar m fuel (descs - 256) (len - k) (addr + k) (base + 256) (advanced t (packets k m)) small (omega arith) (omega arith)
    (λ l. omega (arith, full h))
    ∙ advanced_add t (packets k m) (packets (len - k) m)
    ∙ ap (advanced t) (packets_behind m (len - k) small (omega arith) ∙ ap (λ (l : ℕ). packets l m) all))
    (λ h. ap (toggle_after m t) (stages_last hcchar m (suc fuel) descs len addr base t (omega arith) h))

-- there are as many as it takes to hold the descriptors
pub stages_count :
    (hcchar m fuel descs len addr base : ℕ) (t : Bool) → 0 < descs → descs ≤ 256 * fuel
    → length (stages_from hcchar m fuel descs len addr base t) ≡ packets descs 256
stages_count hcchar m zero descs len addr base t some few = absurd (omega arith)
stages_count hcchar m (suc fuel) descs len addr base t some few =
    let k = 256 * chunk_of m in
    either 256 descs
    (λ h. ap length (stages_next hcchar m fuel descs len addr base t h)
    ∙ ap suc (stages_count hcchar m fuel (descs - 256) (len - k) (addr + k) (base + 256) (advanced t (packets k m)) (omega arith) (omega arith))
    ∙ omega arith)
    (λ h. ap length (stages_last hcchar m (suc fuel) descs len addr base t (omega arith) h) ∙ omega arith)

-- a stage by equal numbers
same_stage :
    (hcchar : ℕ) {n n' l l' a a' b b' : ℕ} {t t' : Bool} → n ≡ n' → l ≡ l' → a ≡ a' → b ≡ b' → t ≡ t'
    → data_stage hcchar n l a b t ≡ data_stage hcchar n' l' a' b' t'
same_stage hcchar p q r s u = λ i. data_stage hcchar (p i) (q i) (r i) (s i) (u i)

-- stage i of those still to come, by what there is to do before the first
abbrev pub numbered : ℕ → ℕ → ℕ → ℕ → ℕ → ℕ → Bool → ℕ → Dwc2TransferStage
numbered hcchar m descs len addr base t i =
    data_stage hcchar (min 256 (descs - 256 * i)) (min (256 * chunk_of m) (len - 256 * i * chunk_of m)) (addr + 256 * i * chunk_of m) (base + 256 * i)
    (advanced t (256 * i * chunk_of m / max 1 m))

first_is :
    (hcchar m descs len addr base : ℕ) (t : Bool) (n l : ℕ) → n ≡ min 256 descs → l ≡ min (256 * chunk_of m) len
    → data_stage hcchar n l addr base t ≡ numbered hcchar m descs len addr base t 0
first_is hcchar m descs len addr base t n l p q =
    let z : 0 * chunk_of m ≡ 0 = zero-mul (chunk_of m) in
    same_stage hcchar (omega arith) (omega arith) (omega arith) (omega arith)
    (sym (ap (λ (k : ℕ). advanced t (k / max 1 m)) z ∙ ap (advanced t) (zero-div (max 1 m))))

next_is :
    (hcchar m descs len addr base : ℕ) (t : Bool) (i : ℕ) → m ≤ 65_536
    → numbered hcchar m (descs - 256) (len - 256 * chunk_of m) (addr + 256 * chunk_of m) (base + 256) (advanced t (packets (256 * chunk_of m) m)) i
    ≡ numbered hcchar m descs len addr base t (suc i)
next_is hcchar m descs len addr base t i small =
    let step : 256 * suc i ≡ 256 + 256 * i = omega arith in
    let on : 256 * suc i * chunk_of m ≡ 256 * chunk_of m + 256 * i * chunk_of m = ap (λ (k : ℕ). k * chunk_of m) step ∙ add-mul 256 (256 * i) (chunk_of m) in
    same_stage hcchar (omega arith) (omega arith) (omega arith) (omega arith)
    (advanced_add t (packets (256 * chunk_of m) m) (256 * i * chunk_of m / max 1 m)
    ∙ ap (advanced t) (whole_behind m (256 * i * chunk_of m) small ∙ ap (λ (k : ℕ). k / max 1 m) (sym on)))

-- each stage still to come has 256 descriptors or what is left, the bytes of these, and the toggle flipped by the packets before it
pub stages_at :
    (hcchar m fuel descs len addr base : ℕ) (t : Bool) (i : ℕ) → m ≤ 65_536 → 256 * i < descs → descs ≤ 256 * fuel → (descs - 1) * chunk_of m ≤ len
    → len ≤ descs * chunk_of m
    → get_or (stages_from hcchar m fuel descs len addr base t) i blank_stage ≡ numbered hcchar m descs len addr base t i
stages_at hcchar m zero descs len addr base t i small h few full fits = absurd (omega arith)
stages_at hcchar m (suc fuel) descs len addr base t zero small h few full fits =
    either 256 descs
    (λ l. let within : 256 * chunk_of m ≤ len = (full_left descs (chunk_of m) len l full).0 in
    ap (λ (ss : List Dwc2TransferStage). get_or ss 0 blank_stage) (stages_next hcchar m fuel descs len addr base t l)
    ∙ first_is hcchar m descs len addr base t 256 (256 * chunk_of m) (omega arith) (omega arith))
    (λ l. let within : len ≤ 256 * chunk_of m = omega (arith, mul-le-mul_right (chunk_of m) l) in
    ap (λ (ss : List Dwc2TransferStage). get_or ss 0 blank_stage) (stages_last hcchar m (suc fuel) descs len addr base t (omega arith) l)
    ∙ first_is hcchar m descs len addr base t descs len (omega arith) (omega arith))
stages_at hcchar m (suc fuel) descs len addr base t (suc i) small h few full fits =
    let l : 256 < descs = omega arith in
    let k = 256 * chunk_of m in
    let parts : descs ≡ descs - 256 + 256 = omega arith in
    let on : descs * chunk_of m ≡ (descs - 256) * chunk_of m + k = ap (λ (n : ℕ). n * chunk_of m) parts ∙ add-mul (descs - 256) 256 (chunk_of m) in
    ap (λ (ss : List Dwc2TransferStage). get_or ss (suc i) blank_stage) (stages_next hcchar m fuel descs len addr base t l)
    ∙ stages_at hcchar m fuel (descs - 256) (len - k) (addr + k) (base + 256) (advanced t (packets k m)) i small (omega arith) (omega arith)
    (full_left descs (chunk_of m) len l full).1 (omega arith)
    ∙ next_is hcchar m descs len addr base t i small
