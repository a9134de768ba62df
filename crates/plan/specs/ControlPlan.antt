-- Control transfers: document 01, "Planning transfers"; the setup bytes from USB 2.0, 9.3.
use Rattle.std.specs.Prelude.{ℕ, ◌/◌, ◌%◌, max, Bool, true, false, cond, ◌&&◌, ◌||◌, List, [], ◌∷◌, length, nat_lt, Some, None, is_ok, Result, ⊤}
use Rattle.words.specs.declared.types.Direction.{Direction}
use Rattle.words.specs.declared.types.Direction.TheVariants.{Out, In}
use Rattle.words.specs.declared.types.Dwc2EpType.TheVariants.{Control}
use Rattle.words.specs.declared.types.Dwc2Pid.TheVariants.{Data1, Setup}
use Rattle.words.specs.Field.{bits, bit, ◌≔◌, word}
use Rattle.words.specs.Numbers.{direction_number}
use Rattle.words.specs.Words.{initial_len, hcchar_word, is_beyond}
use Rattle.plan.specs.declared.types.ControlRequest.{ControlRequest}
use Rattle.plan.specs.declared.types.ControlSetup.{ControlSetup}
use Rattle.plan.specs.declared.types.Dwc2ControlPlan.{Dwc2ControlPlan}
use Rattle.plan.specs.declared.types.Dwc2TransferStage.{Dwc2TransferStage}
use Rattle.plan.specs.declared.types.Dwc2StageRole.TheVariants.{ControlSetup as SetupRole, ControlData, ControlStatus}
use Rattle.plan.specs.declared.refusals.PlanRefusal.{PlanRefusal}
use Rattle.plan.specs.declared.refusals.PlanRefusal.TheVariants.{ShortBuffer, BadEndpoint, ControlTooLong, AddressLimit}
use Rattle.plan.specs.declared.types.RequestType.{RequestType}
use Rattle.plan.specs.declared.types.Recipient.{Recipient}
use Rattle.plan.specs.Numbers.{request_type_number, recipient_number}
use Rattle.plan.specs.Planning.{stage_of, laid_out}
use Rattle.plan.specs.Refusals.{◌⇒◌, first_of, answered, is_short, is_bad}
use Rattle.plan.specs.DataStages.{is_in}

-- "Packet size m is the given one, raised to 1 (control: 8 ..)"
abbrev pub control_size : ℕ → ℕ
control_size packet = max 8 packet

abbrev pub opposite : Direction → Direction
opposite In = Out
opposite Out = In

-- "status is DATA1 and opposite to the data, IN when there is none"
abbrev pub status_direction : Bool → Direction → Direction
status_direction true direction = opposite direction
status_direction false direction = In

-- "a status OUT uses the setup address"
abbrev pub status_addr : Direction → ℕ → ℕ → ℕ
status_addr In setup status = status
status_addr Out setup status = setup

-- "Control plans carry no low-speed flag, as in the Rust."
abbrev pub control_hcchar : ℕ → Direction → ℕ → ℕ
control_hcchar device direction m = hcchar_word device 0 direction Control m false 1 false

abbrev pub has_data_stage : ControlRequest → Bool
has_data_stage r = nat_lt 0 r.len

abbrev pub status_way : ControlRequest → Direction
status_way r = status_direction (has_data_stage r) r.direction

abbrev pub setup_stage : ControlRequest → Dwc2TransferStage
setup_stage r = stage_of SetupRole (control_hcchar r.device Out (control_size r.max_packet_size)) Setup r.setup_dma 0 1 8

-- "Control data starts at DATA1"; at most 65,535 bytes are one descriptor
abbrev pub data_stage_of : ControlRequest → Dwc2TransferStage
data_stage_of r =
    stage_of
    ControlData
    (control_hcchar r.device r.direction (control_size r.max_packet_size))
    Data1
    r.data_dma
    1
    1
    r.len

abbrev pub status_stage : ControlRequest → ℕ → Dwc2TransferStage
status_stage r base =
    stage_of
    ControlStatus
    (control_hcchar r.device (status_way r) (control_size r.max_packet_size))
    Data1
    (status_addr (status_way r) r.setup_dma r.status_dma)
    base
    1
    0

-- the stages in the order in which they run
abbrev pub control_stages : ControlRequest → List Dwc2TransferStage
control_stages r =
    cond (has_data_stage r) (setup_stage r ∷ data_stage_of r ∷ status_stage r 2 ∷ []) (setup_stage r ∷ status_stage r 1 ∷ [])

-- 11: "base plus length (IN rounded up ..) .. and likewise for the setup address plus 8 and a used status address plus m; control without data
-- tests no base"
abbrev pub control_beyond : ControlRequest → Bool
control_beyond r =
    is_beyond r.setup_dma 8
    || (has_data_stage r && is_beyond r.data_dma (initial_len r.len (control_size r.max_packet_size) (is_in r.direction))
    || is_in (status_way r) && is_beyond r.status_dma (control_size r.max_packet_size))

-- 19: "control length over 65,535"
abbrev pub is_too_long : ℕ → Bool
is_too_long len = nat_lt 65_535 len

-- 17, 18, 19, 11 in this order
abbrev pub control_answer : ControlRequest → ℕ → Result ⊤ PlanRefusal
control_answer r words =
    first_of
    (is_short words ⇒ ShortBuffer
    ∷ is_bad 0 r.device r.max_packet_size ⇒ BadEndpoint
    ∷ is_too_long r.len ⇒ ControlTooLong
    ∷ control_beyond r ⇒ AddressLimit
    ∷ [])

abbrev pub planned_control : ControlRequest → Dwc2ControlPlan
planned_control r =
    record {
      setup = setup_stage r;
      «data» = cond (has_data_stage r) (Some (data_stage_of r)) None;
      status = cond (has_data_stage r) (status_stage r 2) (status_stage r 1);
    }

abbrev pub control_plan : ControlRequest → ℕ → Result Dwc2ControlPlan PlanRefusal
control_plan r words = answered (control_answer r words) (planned_control r)

abbrev pub control_array : ControlRequest → List ℕ → List ℕ
control_array r array = cond (is_ok (control_answer r (length array))) (laid_out (control_stages r) array) array

-- USB 2.0, table 9-2: bmRequestType is the recipient in bits 0 to 4, the type in 5 to 6, and IN in 7
abbrev pub request_type_byte : RequestType → Recipient → Direction → ℕ
request_type_byte type recipient direction =
    word (bits 0 5 ≔ recipient_number recipient ∷ bits 5 2 ≔ request_type_number type ∷ bit 7 ≔ direction_number direction ∷ [])

-- bmRequestType, bRequest, and wValue, wIndex, wLength with the low byte first
abbrev pub setup_bytes : ControlSetup → Direction → ℕ → List ℕ
setup_bytes s direction len =
    request_type_byte s.request_type s.recipient direction
    ∷ s.request
    ∷ s.value % 256
    ∷ s.value / 256
    ∷ s.index % 256
    ∷ s.index / 256
    ∷ len % 256
    ∷ len / 256
    ∷ []

-- 19 for a length over 65,535, and no bytes then
abbrev pub setup_answer : ℕ → Result ⊤ PlanRefusal
setup_answer len = first_of (is_too_long len ⇒ ControlTooLong ∷ [])

abbrev pub setup_packet : ControlSetup → Direction → ℕ → Result (List ℕ) PlanRefusal
setup_packet s direction len = answered (setup_answer len) (setup_bytes s direction len)
