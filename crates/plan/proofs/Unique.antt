-- Each public function's promise leaves one answer: two that keep it, at the same arguments, are equal. Each line is over the function's own
-- contract, so it fails where the promise is weakened.
use Rattle.std.proofs.Common.{◌≡◌, ℕ, Bool, List, sym, refl, ap, ◌∙◌}
use Rattle.words.proofs.Unique.{Unique, equal, equal_both}
use Rattle.plan.specs.declared.toggle.DataToggle.{DataToggle}
use Rattle.plan.proofs.control
use Rattle.plan.proofs.«data» as data-calls
use Rattle.plan.proofs.refusals
use Rattle.plan.proofs.setup
use Rattle.plan.proofs.split
use Rattle.plan.proofs.stage
use Rattle.plan.proofs.toggle.DataToggle as functions
use Rattle.plan.proofs.types

-- a toggle is its one bit
one_bit : {x y : DataToggle} {b : Bool} → x.0 ≡ b → y.0 ≡ b → x ≡ y
one_bit p q = ap (λ (b : Bool). record { 0 = b }) (p ∙ sym q)

pub packet_count_unique : Unique 0 split.packet_count.Kinds.ps split.packet_count.Kinds.r split.packet_count.Reads.Post
packet_count_unique κs a x y u v = equal refl

pub split_dma_lengths_unique : Unique 0 split.split_dma_lengths.Kinds.ps split.split_dma_lengths.Kinds.r split.split_dma_lengths.Reads.Post
split_dma_lengths_unique κs a x y u v = equal refl

pub data0_unique : Unique 0 functions.data0.Kinds.ps functions.data0.Kinds.r functions.data0.Reads.Post
data0_unique κs a x y u v p q = (one_bit p q, refl)

pub data1_unique : Unique 0 functions.data1.Kinds.ps functions.data1.Kinds.r functions.data1.Reads.Post
data1_unique κs a x y u v p q = (one_bit p q, refl)

pub pid_unique : Unique 0 functions.pid.Kinds.ps functions.pid.Kinds.r functions.pid.Reads.Post
pid_unique κs a x y u v = equal refl

pub advance_unique : Unique 0 functions.advance.Kinds.ps functions.advance.Kinds.r functions.advance.Reads.Post
advance_unique κs a x y u v p q = (one_bit p q, refl)

pub data_stages_unique : Unique 1 data-calls.data_stages.Kinds.ps data-calls.data_stages.Kinds.r data-calls.data_stages.Reads.Post
data_stages_unique κs a x y u v = equal_both (λ (words : List ℕ). (tt, (words, tt)))

pub build_control_plan_unique : Unique 1 control.build_control_plan.Kinds.ps control.build_control_plan.Kinds.r control.build_control_plan.Reads.Post
build_control_plan_unique κs a x y u v = equal_both (λ (words : List ℕ). (tt, (words, tt)))

pub setup_packet_bytes_unique : Unique 0 setup.setup_packet_bytes.Kinds.ps setup.setup_packet_bytes.Kinds.r setup.setup_packet_bytes.Reads.Post
setup_packet_bytes_unique κs a x y u v = equal refl

pub stage_actual_length_unique : Unique 1 stage.stage_actual_length.Kinds.ps stage.stage_actual_length.Kinds.r stage.stage_actual_length.Reads.Post
stage_actual_length_unique κs a x y u v = equal refl

pub refusal_number_unique : Unique 0 refusals.U32FromPlanRefusal.from.Kinds.ps refusals.U32FromPlanRefusal.from.Kinds.r refusals.U32FromPlanRefusal.from.Reads.Post
refusal_number_unique κs a x y u v = equal refl

pub role_number_unique : Unique 0 types.U32FromDwc2StageRole.from.Kinds.ps types.U32FromDwc2StageRole.from.Kinds.r types.U32FromDwc2StageRole.from.Reads.Post
role_number_unique κs a x y u v = equal refl

pub request_type_number_unique : Unique 0 types.U8FromRequestType.from.Kinds.ps types.U8FromRequestType.from.Kinds.r types.U8FromRequestType.from.Reads.Post
request_type_number_unique κs a x y u v p q = equal refl p.0 q.0

pub recipient_number_unique : Unique 0 types.U8FromRecipient.from.Kinds.ps types.U8FromRecipient.from.Kinds.r types.U8FromRecipient.from.Reads.Post
recipient_number_unique κs a x y u v p q = equal refl p.0 q.0

pub ep_type_of_unique : Unique 0 types.Dwc2EpTypeFromDataKind.from.Kinds.ps types.Dwc2EpTypeFromDataKind.from.Kinds.r types.Dwc2EpTypeFromDataKind.from.Reads.Post
ep_type_of_unique κs a x y u v = equal refl
