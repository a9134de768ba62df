-- Bulk and interrupt transfers: document 01, "Planning transfers".
use Rattle.std.specs.Prelude.{ℕ, zero, suc, ◌+◌, ◌-◌, ◌*◌, max, Bool, true, false, cond, List, [], ◌∷◌, ◌++◌, length, replicate, nat_le, nat_lt, slice_set, is_ok, Result, ⊤}
use Rattle.words.specs.declared.types.Direction.{Direction}
use Rattle.words.specs.declared.types.Direction.TheVariants.{Out, In}
use Rattle.words.specs.declared.types.Dwc2EpType.{Dwc2EpType}
use Rattle.words.specs.declared.types.Dwc2EpType.TheVariants.{Bulk, Interrupt}
use Rattle.words.specs.Words.{packets, initial_len, hcchar_word, is_beyond}
use Rattle.ring.specs.declared.speed.Speed.{Speed}
use Rattle.ring.specs.declared.speed.Speed.TheVariants.{High, Full, Low}
use Rattle.plan.specs.declared.toggle.DataToggle.{DataToggle}
use Rattle.plan.specs.declared.types.DataKind.{DataKind}
use Rattle.plan.specs.declared.types.DataKind.TheVariants as kind
use Rattle.plan.specs.declared.types.DataRequest.{DataRequest}
use Rattle.plan.specs.declared.types.Dwc2DataPlan.{Dwc2DataPlan}
use Rattle.plan.specs.declared.types.Dwc2TransferStage.{Dwc2TransferStage}
use Rattle.plan.specs.declared.types.Dwc2StageRole.TheVariants.{Data}
use Rattle.plan.specs.declared.refusals.PlanRefusal.{PlanRefusal}
use Rattle.plan.specs.declared.refusals.PlanRefusal.TheVariants.{ShortBuffer, BadEndpoint, TooManyDescriptors, AddressLimit}
use Rattle.plan.specs.Planning.{chunk_of, split_of, pid_of_toggle, advanced, stage_of, laid_out}
use Rattle.plan.specs.Refusals.{◌⇒◌, first_of, answered, is_short, is_bad}

abbrev pub is_in : Direction → Bool
is_in Out = false
is_in In = true

abbrev pub is_low : Speed → Bool
is_low High = false
is_low Full = false
is_low Low = true

abbrev pub ep_type_of : DataKind → Dwc2EpType
ep_type_of kind.Bulk = Bulk
ep_type_of kind.Interrupt = Interrupt

-- "The odd-frame bit of an interrupt stage is an input."
abbrev pub odd_of : DataKind → Bool → Bool
odd_of kind.Bulk odd = false
odd_of kind.Interrupt odd = odd

-- "Packet size m is the given one, raised to 1"
abbrev pub size_of : DataRequest → ℕ
size_of r = max 1 r.max_packet_size

abbrev pub data_hcchar : DataRequest → ℕ
data_hcchar r =
    hcchar_word
    r.device
    r.endpoint
    r.direction
    (ep_type_of r.kind)
    (size_of r)
    (is_low r.port_speed)
    1
    (odd_of r.kind r.odd_frame)

abbrev pub data_stage : ℕ → ℕ → ℕ → ℕ → ℕ → Bool → Dwc2TransferStage
data_stage hcchar descs len addr base toggle = stage_of Data hcchar (pid_of_toggle toggle) addr base descs len

-- "Stages hold at most 256 descriptors": so many descriptors for so many bytes, from an address, a descriptor and a toggle on, in at most so
-- many stages
unfoldable pub stages_from : ℕ → ℕ → ℕ → ℕ → ℕ → ℕ → ℕ → Bool → List Dwc2TransferStage
stages_from hcchar m zero descs len addr base toggle = []
stages_from hcchar m (suc stages) descs len addr base toggle =
    cond (nat_le descs 256) (data_stage hcchar descs len addr base toggle ∷ [])
    (data_stage hcchar 256 (256 * chunk_of m) addr base toggle
    ∷ stages_from
    hcchar
    m
    stages
    (descs - 256)
    (len - 256 * chunk_of m)
    (addr + 256 * chunk_of m)
    (base + 256)
    (advanced toggle (packets (256 * chunk_of m) m)))

-- at most 1,024 descriptors, so at most four stages
abbrev pub data_stages : DataRequest → List Dwc2TransferStage
data_stages r = stages_from (data_hcchar r) (size_of r) 4 (split_of r.len (size_of r)).count r.len r.base 0 r.toggle.0

-- the toggle after the last stage
abbrev pub toggle_after : ℕ → Bool → List Dwc2TransferStage → Bool
toggle_after m t [] = t
toggle_after m t (s ∷ ss) = toggle_after m (advanced t (packets s.len m)) ss

abbrev pub blank_stage : Dwc2TransferStage
blank_stage = record { role = Data; hcchar = 0; hctsiz = 0; dma_addr = 0; desc_base = 0; descs = 0; len = 0 }

-- a list of stages as a table of four, blank behind them
abbrev pub stage_table : List Dwc2TransferStage → List Dwc2TransferStage
stage_table stages = stages ++ replicate (4 - length stages) blank_stage

-- 17, 18, 20, 11 in this order; an IN length is "rounded up"
abbrev pub data_answer : DataRequest → ℕ → Result ⊤ PlanRefusal
data_answer r words =
    first_of
    (is_short words ⇒ ShortBuffer
    ∷ is_bad r.endpoint r.device r.max_packet_size ⇒ BadEndpoint
    ∷ nat_lt 1024 (split_of r.len (size_of r)).count ⇒ TooManyDescriptors
    ∷ is_beyond r.base (initial_len r.len (size_of r) (is_in r.direction)) ⇒ AddressLimit
    ∷ [])

abbrev pub planned_data : DataRequest → Dwc2DataPlan
planned_data r =
    record {
      toggle = record { 0 = toggle_after (size_of r) r.toggle.0 (data_stages r) };
      count = length (data_stages r);
      stages = stage_table (data_stages r);
    }

abbrev pub data_plan : DataRequest → ℕ → Result Dwc2DataPlan PlanRefusal
data_plan r words = answered (data_answer r words) (planned_data r)

-- a plan without stages
abbrev pub blank_plan : DataToggle → Dwc2DataPlan
blank_plan toggle = record { toggle = toggle; count = 0; stages = stage_table [] }

-- a plan with one stage more, and the toggle behind it
abbrev pub with_stage : ℕ → Dwc2DataPlan → Dwc2TransferStage → Dwc2DataPlan
with_stage m plan s =
    record {
      toggle = record { 0 = advanced plan.toggle.0 (packets s.len m) };
      count = plan.count + 1;
      stages = slice_set plan.stages plan.count s;
    }

-- "Words behind the plan stay as they were"; a refusal leaves all of them
abbrev pub data_array : DataRequest → List ℕ → List ℕ
data_array r array = cond (is_ok (data_answer r (length array))) (laid_out (data_stages r) array) array
