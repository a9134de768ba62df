-- Planning by numbers (include/dwc2_port.h): what the numbers name, and the answers as numbers.
use Rattle.std.specs.Prelude.{ℕ, Bool, cond, ◌||◌, List, ◌++◌, map, replicate, ◌==◌, nat_lt, is_some, Option, Some, None, Result, Ok, Err}
use Rattle.plan.specs.declared.refusals.PlanRefusal.{PlanRefusal}
use Rattle.plan.specs.declared.split.DmaSplit.{DmaSplit}
use Rattle.plan.specs.declared.types.ControlRequest.{ControlRequest}
use Rattle.plan.specs.declared.types.ControlSetup.{ControlSetup}
use Rattle.plan.specs.declared.types.DataKind.{DataKind}
use Rattle.plan.specs.declared.types.DataKind.TheVariants.{Bulk, Interrupt}
use Rattle.plan.specs.declared.types.DataRequest.{DataRequest}
use Rattle.plan.specs.declared.types.Dwc2ControlPlan.{Dwc2ControlPlan}
use Rattle.plan.specs.declared.types.Dwc2DataPlan.{Dwc2DataPlan}
use Rattle.plan.specs.declared.types.Dwc2StageRole.{Dwc2StageRole}
use Rattle.plan.specs.declared.types.Dwc2StageRole.TheVariants as role
use Rattle.plan.specs.declared.types.Dwc2TransferStage.{Dwc2TransferStage}
use Rattle.plan.specs.declared.types.Recipient.{Recipient}
use Rattle.plan.specs.declared.types.Recipient.TheVariants.{Device, Interface, Endpoint, Other}
use Rattle.plan.specs.declared.types.RequestType.{RequestType}
use Rattle.plan.specs.declared.types.RequestType.TheVariants.{Standard, Class, Vendor, Reserved}
use Rattle.plan.specs.declared.toggle.DataToggle.{DataToggle}
use Rattle.plan.specs.ControlPlan.{control_plan, control_array, setup_packet}
use Rattle.plan.specs.DataStages.{data_plan, data_array}
use Rattle.plan.specs.Numbers.{refusal_number, role_number}
use Rattle.plan.specs.StageLength.{stage_length}
use Rattle.port.specs.declared.planning.PortControlPlan.{PortControlPlan}
use Rattle.port.specs.declared.planning.PortControlRequest.{PortControlRequest}
use Rattle.port.specs.declared.planning.PortDataPlan.{PortDataPlan}
use Rattle.port.specs.declared.planning.PortDataRequest.{PortDataRequest}
use Rattle.port.specs.declared.setup.PortSetupPacket.{PortSetupPacket}
use Rattle.port.specs.declared.planning.PortSplit.{PortSplit}
use Rattle.port.specs.declared.stages.PortStage.{PortStage}
use Rattle.port.specs.declared.ring_sums.PortNumber.{PortNumber}
use Rattle.port.specs.Bytes.{u32_bytes}
use Rattle.port.specs.Sums.{is_bad_speed, is_bad_direction}
use Rattle.port.specs.Tags.{speed_of, direction_of, flag_of, flag_tag}

abbrev pub split_numbers : DmaSplit → PortSplit
split_numbers s = record { count = s.count; chunk = s.chunk; last = s.last }

-- ---- a stage

abbrev pub role_of : ℕ → Dwc2StageRole
role_of n = cond (n == 0) role.Data (cond (n == 1) role.ControlSetup (cond (n == 2) role.ControlData role.ControlStatus))

abbrev pub is_bad_role : ℕ → Bool
is_bad_role n = nat_lt 3 n

abbrev pub stage_numbers : Dwc2TransferStage → PortStage
stage_numbers s =
    record {
      role = role_number s.role;
      hcchar = s.hcchar;
      hctsiz = s.hctsiz;
      dma_addr = s.dma_addr;
      desc_base = s.desc_base;
      descs = s.descs;
      len = s.len;
    }

abbrev pub stage_of : PortStage → Dwc2TransferStage
stage_of s =
    record {
      role = role_of s.role;
      hcchar = s.hcchar;
      hctsiz = s.hctsiz;
      dma_addr = s.dma_addr;
      desc_base = s.desc_base;
      descs = s.descs;
      len = s.len;
    }

abbrev pub blank_numbers : PortStage
blank_numbers = record { role = 0; hcchar = 0; hctsiz = 0; dma_addr = 0; desc_base = 0; descs = 0; len = 0 }

abbrev pub length_number : Result ℕ PlanRefusal → PortNumber
length_number (Ok bytes) = record { refusal = 0; value = bytes }
length_number (Err refusal) = record { refusal = refusal_number refusal; value = 0 }

abbrev pub stage_moved_number : PortStage → List ℕ → PortNumber
stage_moved_number s array = cond (is_bad_role s.role) (record { refusal = 18; value = 0 }) (length_number (stage_length (stage_of s) array))

-- ---- bulk and interrupt

abbrev pub kind_of : ℕ → DataKind
kind_of n = cond (n == 2) Bulk Interrupt

abbrev pub is_bad_kind : ℕ → Bool
is_bad_kind n = nat_lt n 2 || nat_lt 3 n

abbrev pub data_request_of : PortDataRequest → DataRequest
data_request_of r =
    record {
      kind = kind_of r.kind;
      direction = direction_of r.direction;
      port_speed = speed_of r.port_speed;
      device = r.device;
      endpoint = r.endpoint;
      max_packet_size = r.max_packet_size;
      odd_frame = flag_of r.odd_frame;
      toggle = record { 0 = flag_of r.toggle };
      base = r.base;
      len = r.len;
    }

abbrev pub is_bad_data : PortDataRequest → Bool
is_bad_data r = is_bad_kind r.kind || (is_bad_direction r.direction || is_bad_speed r.port_speed)

abbrev pub data_numbers : Dwc2DataPlan → PortDataPlan
data_numbers p =
    record {
      refusal = 0;
      toggle = flag_tag p.toggle.0;
      count = p.count;
      stages = map stage_numbers p.stages;
    }

-- a refusal has no stages
abbrev pub refused_data : ℕ → ℕ → PortDataPlan
refused_data refusal toggle = record { refusal = refusal; toggle = toggle; count = 0; stages = replicate 4 blank_numbers }

-- a plan, or its refusal with the toggle as it came
abbrev pub data_answer_numbers : DataToggle → Result Dwc2DataPlan PlanRefusal → PortDataPlan
data_answer_numbers toggle (Ok p) = data_numbers p
data_answer_numbers toggle (Err refusal) = refused_data (refusal_number refusal) (flag_tag toggle.0)

abbrev pub unnamed_data : PortDataPlan
unnamed_data = refused_data 18 0

abbrev pub data_plan_numbers : PortDataRequest → ℕ → PortDataPlan
data_plan_numbers r words =
    cond (is_bad_data r) unnamed_data (data_answer_numbers (data_request_of r).toggle (data_plan (data_request_of r) words))

abbrev pub data_array_after : PortDataRequest → List ℕ → List ℕ
data_array_after r array = cond (is_bad_data r) array (data_array (data_request_of r) array)

-- ---- control

abbrev pub control_request_of : PortControlRequest → ControlRequest
control_request_of r =
    record {
      direction = direction_of r.direction;
      device = r.device;
      max_packet_size = r.max_packet_size;
      len = r.len;
      setup_dma = r.setup_dma;
      data_dma = r.data_dma;
      status_dma = r.status_dma;
    }

-- a stage that may not be there
abbrev pub some_numbers : Option Dwc2TransferStage → PortStage
some_numbers (Some s) = stage_numbers s
some_numbers None = blank_numbers

abbrev pub control_numbers : Dwc2ControlPlan → PortControlPlan
control_numbers p =
    record {
      refusal = 0;
      has_data = flag_tag (is_some p.«data»);
      setup = stage_numbers p.setup;
      «data» = some_numbers p.«data»;
      status = stage_numbers p.status;
    }

abbrev pub refused_control : ℕ → PortControlPlan
refused_control refusal = record { refusal = refusal; has_data = 0; setup = blank_numbers; «data» = blank_numbers; status = blank_numbers }

abbrev pub control_answer_numbers : Result Dwc2ControlPlan PlanRefusal → PortControlPlan
control_answer_numbers (Ok p) = control_numbers p
control_answer_numbers (Err refusal) = refused_control (refusal_number refusal)

abbrev pub unnamed_control : PortControlPlan
unnamed_control = refused_control 18

abbrev pub control_plan_numbers : PortControlRequest → ℕ → PortControlPlan
control_plan_numbers r words =
    cond (is_bad_direction r.direction) unnamed_control (control_answer_numbers (control_plan (control_request_of r) words))

abbrev pub control_array_after : PortControlRequest → List ℕ → List ℕ
control_array_after r array = cond (is_bad_direction r.direction) array (control_array (control_request_of r) array)

-- ---- the setup packet: USB 2.0, table 9-2

abbrev pub request_type_of : ℕ → RequestType
request_type_of n = cond (n == 0) Standard (cond (n == 1) Class (cond (n == 2) Vendor Reserved))

abbrev pub recipient_of : ℕ → Recipient
recipient_of n = cond (n == 0) Device (cond (n == 1) Interface (cond (n == 2) Endpoint Other))

abbrev pub is_bad_setup : ℕ → ℕ → ℕ → Bool
is_bad_setup type recipient direction = nat_lt 3 type || (nat_lt 3 recipient || is_bad_direction direction)

abbrev pub setup_of : ℕ → ℕ → ℕ → ℕ → ℕ → ControlSetup
setup_of type recipient request value index =
    record { request_type = request_type_of type; recipient = recipient_of recipient; request = request; value = value; index = index }

abbrev pub setup_numbers : Result (List ℕ) PlanRefusal → PortSetupPacket
setup_numbers (Ok bytes) = record { refusal = 0; bytes = bytes }
setup_numbers (Err refusal) = record { refusal = refusal_number refusal; bytes = replicate 8 0 }

abbrev pub unnamed_setup : PortSetupPacket
unnamed_setup = record { refusal = 18; bytes = replicate 8 0 }

-- the packet whose bytes are those of two numbers
abbrev pub setup_words : ℕ → ℕ → ℕ → PortSetupPacket
setup_words refusal first last = record { refusal = refusal; bytes = u32_bytes first ++ u32_bytes last }

abbrev pub setup_packet_numbers : ℕ → ℕ → ℕ → ℕ → ℕ → ℕ → ℕ → PortSetupPacket
setup_packet_numbers type recipient direction request value index len =
    cond (is_bad_setup type recipient direction) unnamed_setup
    (setup_numbers (setup_packet (setup_of type recipient request value index) (direction_of direction) len))
