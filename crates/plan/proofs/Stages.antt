-- The stages of whole bulk and interrupt plans, for every request that is planned and every array that is lent: how many there are, each of them
-- field by field, and the toggle after the last.
use Rattle.std.proofs.Common.{◌≡◌, ℕ, ◌+◌, ◌-◌, ◌*◌, ◌/◌, ◌%◌, ◌<◌, ◌≤◌, min, max, not, eqb, List, length, get_or, sym, refl, ap, ◌∙◌, ap₂, ⊎_elim, mul-le-mul_right, add-mul, eq-zero-or-pos, one-mul, zero-add, arith}
use Rattle.std.specs.Prelude.{Ok, IsOkAnd}
use lib.ListN.{get_or-append}
use Rattle.words.specs.Words.{packets, hctsiz_word}
use Rattle.plan.specs.declared.types.DataRequest.{DataRequest}
use Rattle.plan.specs.declared.types.Dwc2TransferStage.{Dwc2TransferStage}
use Rattle.plan.specs.Planning.{chunk_of, pid_of_toggle, advanced}
use Rattle.plan.specs.DataStages.{size_of, data_hcchar, data_stages, toggle_after, blank_stage, data_answer, planned_data, data_plan}
use Rattle.plan.proofs.Laws.Data.{accepted}
use Rattle.plan.proofs.Laws.Layout.{ends, ends_stage, chunks_within}
use Rattle.plan.proofs.Laws.Numbered.{numbered, stages_toggle, stages_count, stages_at}
use Rattle.plan.proofs.Laws.Split.{empty_is_one_packet, packets_some, parts_below, parts_within, last_within, advanced_odd}
use Rattle.plan.proofs.Theorems.{count_of, bytes_before, before_is}

-- stage i
abbrev pub stage_at : DataRequest → ℕ → Dwc2TransferStage
stage_at r i = get_or (data_stages r) i blank_stage

module _ (r : DataRequest) (a : List ℕ) (e : data_answer r (length a) ≡ Ok tt) where
  -- The plan that is handed back is the one of the stages that the theorems speak of.
  pub plan_is : data_plan r (length a) ≡ Ok (planned_data r)
  plan_is = rw e

  -- ---- the toggle

  -- The toggle after the last stage is the first one flipped by the packets of the whole transfer. Every stage but the last is whole packets, so
  -- the cut into stages adds no packet.
  pub toggle : toggle_after (size_of r) r.toggle.0 (data_stages r) ≡ advanced r.toggle.0 (packets r.len (size_of r))
  toggle =
      let f = accepted r (length a) e in
      stages_toggle (data_hcchar r) (size_of r) 4 (count_of r) r.len r.base 0 r.toggle.0 (omega arith) (packets_some r.len (chunk_of (size_of r)))
      (omega arith)
      (λ h. ⊎_elim (λ z. absurd (empty z h)) (parts_below r.len (chunk_of (size_of r))) (eq-zero-or-pos r.len))
    where
      empty : r.len ≡ 0 → 256 < count_of r → ⊥
      empty z h = omega (arith, ap (λ (l : ℕ). packets l (chunk_of (size_of r))) z, empty_is_one_packet (chunk_of (size_of r)))

  -- It is the toggle that the plan hands back for the next transfer.
  pub toggle_handed_back : IsOkAnd (data_plan r (length a)) (λ p. p.toggle.0 ≡ advanced r.toggle.0 (packets r.len (size_of r)))
  toggle_handed_back = rw e toggle

  -- An empty transfer flips it once. This excludes version two's failure: an empty transfer was counted as no packet, the toggle one behind.
  pub toggle_empty : r.len ≡ 0 → IsOkAnd (data_plan r (length a)) (λ p. p.toggle.0 ≡ not r.toggle.0)
  toggle_empty z =
      rw e
      (toggle
      ∙ advanced_odd r.toggle.0 (packets r.len (size_of r))
      (ap (λ (l : ℕ). packets l (size_of r) % 2) z ∙ ap (λ (n : ℕ). n % 2) (empty_is_one_packet (size_of r))))

  -- ---- the stages

  -- There are as many stages as it takes to hold the descriptors, 256 in each.
  pub stages_number : length (data_stages r) ≡ packets (count_of r) 256
  stages_number =
      let f = accepted r (length a) e in
      stages_count (data_hcchar r) (size_of r) 4 (count_of r) r.len r.base 0 r.toggle.0 (packets_some r.len (chunk_of (size_of r))) (omega arith)

  -- There are four at most, so the plan's table holds them all.
  pub stages_few : length (data_stages r) ≤ 4
  stages_few = let f = accepted r (length a) e in omega (arith, stages_number)

  -- The plan hands back their number, and the stages in their order.
  pub stages_handed_back :
      IsOkAnd
      (data_plan r (length a))
      (λ p. (p.count ≡ length (data_stages r)) × ((i : ℕ) → i < length (data_stages r) → get_or p.stages i blank_stage ≡ stage_at r i))
  stages_handed_back = rw e (refl, λ i h. get_or-append (data_stages r) _ blank_stage i h)

  -- descriptors are left for each stage
  begun : (i : ℕ) → i < length (data_stages r) → 256 * i < count_of r
  begun i h = omega (arith, stages_number, packets_some r.len (chunk_of (size_of r)))

  -- full chunks would hold all the bytes
  bytes_fit : r.len ≤ count_of r * chunk_of (size_of r)
  bytes_fit =
      let f = accepted r (length a) e in
      let c = chunk_of (size_of r) in
      let some : 0 < count_of r = packets_some r.len c in
      let parts : count_of r ≡ count_of r - 1 + 1 = omega arith in
      let all : count_of r * c ≡ (count_of r - 1) * c + 1 * c = ap (λ (n : ℕ). n * c) parts ∙ add-mul (count_of r - 1) 1 c in
      omega (arith, last_within r.len (size_of r) (omega arith), one-mul c)

  -- every stage, field by field
  stage_is : (i : ℕ) → i < length (data_stages r) → stage_at r i ≡ numbered (data_hcchar r) (size_of r) (count_of r) r.len r.base 0 r.toggle.0 i
  stage_is i h =
      let f = accepted r (length a) e in
      stages_at (data_hcchar r) (size_of r) 4 (count_of r) r.len r.base 0 r.toggle.0 i (omega arith) (begun i h) (omega arith)
      (parts_within r.len (chunk_of (size_of r)))
      bytes_fit

  -- Stage i begins at descriptor 256 · i, behind the stages before it: none writes over another's descriptors.
  pub stage_from : (i : ℕ) → i < length (data_stages r) → (stage_at r i).desc_base ≡ 256 * i
  stage_from i h = ap (λ (s : Dwc2TransferStage). s.desc_base) (stage_is i h) ∙ zero-add (256 * i)

  -- It has 256 descriptors, or all that are left where these are fewer.
  pub stage_descs : (i : ℕ) → i < length (data_stages r) → (stage_at r i).descs ≡ min 256 (count_of r - 256 * i)
  stage_descs i h = ap (λ (s : Dwc2TransferStage). s.descs) (stage_is i h)

  -- No stage is empty, and none has more than 256.
  pub stage_sized : (i : ℕ) → i < length (data_stages r) → (0 < (stage_at r i).descs) × ((stage_at r i).descs ≤ 256)
  stage_sized i h = omega (arith, stage_descs i h, begun i h)

  -- Every stage but the last is full.
  pub stage_full : (i : ℕ) → i + 1 < length (data_stages r) → (stage_at r i).descs ≡ 256
  stage_full i h = omega (arith, stage_descs i (omega arith), begun (i + 1) h)

  -- The last has the rest.
  pub stage_rest : (i : ℕ) → i + 1 ≡ length (data_stages r) → (stage_at r i).descs ≡ count_of r - 256 * i
  stage_rest i h = omega (arith, stage_descs i (omega arith), stages_number)

  -- Only the last descriptor of a stage ends one: with `end_read` and `interrupt_read`, only it has end of list and interrupt.
  pub stage_ends :
      (i j : ℕ) → i < length (data_stages r) → j < (stage_at r i).descs → ends ((stage_at r i).desc_base + j) (count_of r) ≡ eqb (j + 1) (stage_at r i).descs
  stage_ends i j h l =
      ap (λ (b : ℕ). ends (b + j) (count_of r)) (stage_from i h)
      ∙ ends_stage (count_of r) i j (omega (arith, stage_descs i h))
      ∙ ap (eqb (j + 1)) (sym (stage_descs i h))

  -- The address of a stage is the base plus the lengths of all descriptors before it: here version one went wrong after a dip.
  pub stage_address : (i : ℕ) → i < length (data_stages r) → (stage_at r i).dma_addr ≡ r.base + bytes_before r (256 * i)
  stage_address i h = ap (λ (s : Dwc2TransferStage). s.dma_addr) (stage_is i h) ∙ ap (λ (x : ℕ). r.base + x) (sym (before_is r (256 * i) (begun i h)))

  -- The bytes of a stage end where the next stage begins.
  pub stage_next : (i : ℕ) → i + 1 < length (data_stages r) → (stage_at r i).dma_addr + (stage_at r i).len ≡ (stage_at r (i + 1)).dma_addr
  stage_next i h =
      let c = chunk_of (size_of r) in
      let now : i < length (data_stages r) = omega arith in
      let step : 256 * (i + 1) ≡ 256 * i + 256 = omega arith in
      let on : 256 * (i + 1) * c ≡ 256 * i * c + 256 * c = ap (λ (k : ℕ). k * c) step ∙ add-mul (256 * i) 256 c in
      omega (
        arith,
        ap (λ (s : Dwc2TransferStage). s.dma_addr) (stage_is i now),
        ap (λ (s : Dwc2TransferStage). s.len) (stage_is i now),
        ap (λ (s : Dwc2TransferStage). s.dma_addr) (stage_is (i + 1) h),
        chunks_within r.len (size_of r) (256 * (i + 1)) (begun (i + 1) h),
      )

  -- Those of the last end where the buffer ends.
  pub stage_last : (i : ℕ) → i + 1 ≡ length (data_stages r) → (stage_at r i).dma_addr + (stage_at r i).len ≡ r.base + r.len
  stage_last i h =
      let c = chunk_of (size_of r) in
      let now : i < length (data_stages r) = omega arith in
      let most : count_of r ≤ 256 * i + 256 = omega (arith, stages_number) in
      omega (
        arith,
        ap (λ (s : Dwc2TransferStage). s.dma_addr) (stage_is i now),
        ap (λ (s : Dwc2TransferStage). s.len) (stage_is i now),
        chunks_within r.len (size_of r) (256 * i) (begun i now),
        bytes_fit,
        mul-le-mul_right c most,
        add-mul (256 * i) 256 c,
      )

  -- The PID of a stage is the first toggle flipped by the packets of the stages before it: each goes on where the one before it stopped.
  pub stage_pid :
      (i : ℕ) → i < length (data_stages r)
      → (stage_at r i).hctsiz ≡ hctsiz_word (pid_of_toggle (advanced r.toggle.0 (bytes_before r (256 * i) / size_of r))) (stage_at r i).descs 0
  stage_pid i h =
      let size : max 1 (size_of r) ≡ size_of r = omega arith in
      ap (λ (s : Dwc2TransferStage). s.hctsiz) (stage_is i h)
      ∙ ap₂ (λ (b m : ℕ). hctsiz_word (pid_of_toggle (advanced r.toggle.0 (b / m))) (min 256 (count_of r - 256 * i)) 0)
      (sym (before_is r (256 * i) (begun i h))) size
      ∙ ap (λ (n : ℕ). hctsiz_word (pid_of_toggle (advanced r.toggle.0 (bytes_before r (256 * i) / size_of r))) n 0) (sym (stage_descs i h))

  -- All stages program the channel alike.
  pub stage_channel : (i : ℕ) → i < length (data_stages r) → (stage_at r i).hcchar ≡ data_hcchar r
  stage_channel i h = ap (λ (s : Dwc2TransferStage). s.hcchar) (stage_is i h)
