-- What a stage leans on, and the bytes that a finished stage moved: document 01, "Planning transfers", and 02, order 1, for the sum.
use Rattle.std.specs.Prelude.{ℕ, zero, suc, ◌+◌, ◌-◌, ◌*◌, ◌<◌, ◌≤◌, min, Bool, true, cond, not, ◌||◌, List, [], ◌∷◌, length, ◌==◌, nat_lt, slice_index, Result, ⊤}
use Rattle.words.specs.declared.descriptor.DmaDescriptor.{DmaDescriptor}
use Rattle.words.specs.Field.{get}
use Rattle.words.specs.Words.{packets, initial_len, chain_status, is_set, packet_size, direction_in, byte_count}
use Rattle.plan.specs.declared.types.Dwc2TransferStage.{Dwc2TransferStage}
use Rattle.plan.specs.declared.refusals.PlanRefusal.{PlanRefusal}
use Rattle.plan.specs.declared.refusals.PlanRefusal.TheVariants.{ShortBuffer, BadEndpoint}
use Rattle.plan.specs.Planning.{chunk_of}
use Rattle.plan.specs.Refusals.{◌⇒◌, first_of, answered, is_short}

-- a chain that a planner makes: at least one descriptor, room for all, full chunks before the last, and no byte beyond the address limit
pub record ChainFits (m descs len addr words : ℕ) : Type 0 where
  pub some : 0 < descs
  pub room : 2 * descs ≤ words
  pub full : (descs - 1) * chunk_of m ≤ len
  pub reach : addr + len ≤ 4_294_967_295

pub record StageFits (s : Dwc2TransferStage) (words : ℕ) : Type 0 where
  pub some : 0 < s.descs
  pub room : 2 * (s.desc_base + s.descs) ≤ words
  pub full : (s.descs - 1) * chunk_of (get packet_size s.hcchar) ≤ s.len
  pub reach : s.dma_addr + s.len ≤ 4_294_967_295

-- a descriptor of a chain
abbrev pub link_of : ℕ → ℕ → ℕ → Bool → Bool → DmaDescriptor
link_of paddr len m is_in last = record { status = chain_status (initial_len len m is_in) last; paddr = paddr }

-- "the smaller of the expected length and rounded count minus remaining (not below 0)"
abbrev pub link_moved : ℕ → ℕ → ℕ → ℕ
link_moved len m status = min len (initial_len len m true - get byte_count status)

-- "The length of an IN stage is the sum, over its descriptors": so many from number `at` on
abbrev pub chain_moved : ℕ → List ℕ → ℕ → ℕ → ℕ → ℕ
chain_moved m array zero at len = 0
chain_moved m array (suc zero) at len = link_moved len m (slice_index array (2 * at))
chain_moved m array (suc (suc n)) at len =
    link_moved (chunk_of m) m (slice_index array (2 * at)) + chain_moved m array (suc n) (at + 1) (len - chunk_of m)

-- "an OUT stage gives its total"
abbrev pub stage_moved : Dwc2TransferStage → List ℕ → ℕ
stage_moved s array =
    cond
    (is_set direction_in s.hcchar)
    (chain_moved (get packet_size s.hcchar) array s.descs s.desc_base s.len)
    s.len

-- a stage that no planner makes: no packet size, too many descriptors or too far back, or other descriptors than its length takes
abbrev pub is_forged : Dwc2TransferStage → Bool
is_forged s =
    (get packet_size s.hcchar == 0)
    || (nat_lt 256 s.descs
    || (nat_lt 1024 (s.desc_base + s.descs) || not (s.descs == packets s.len (chunk_of (get packet_size s.hcchar)))))

-- 17, then 18
abbrev pub stage_answer : Dwc2TransferStage → ℕ → Result ⊤ PlanRefusal
stage_answer s words = first_of (is_short words ⇒ ShortBuffer ∷ is_forged s ⇒ BadEndpoint ∷ [])

abbrev pub stage_length : Dwc2TransferStage → List ℕ → Result ℕ PlanRefusal
stage_length s array = answered (stage_answer s (length array)) (stage_moved s array)
