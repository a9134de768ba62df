-- Each public function's promise leaves one answer, one run of bytes and one content of each lent word: two that keep it, at the same arguments, are
-- equal. Each line is over the function's own contract, so it fails where the promise is weakened.
use Rattle.std.proofs.Common.{ℕ, List, refl}
use Rattle.words.proofs.Unique.{Unique, equal, equal_both, equal_all, equal_three}
use Rattle.port.proofs.calls as calls
use Rattle.port.proofs.planning
use Rattle.port.proofs.requests as requests
use Rattle.port.proofs.ring_sums
use Rattle.port.proofs.setup
use Rattle.port.proofs.stages

pub iso_ring_size_unique : Unique 0 ring_sums.dwc2_iso_ring_size.Kinds.ps ring_sums.dwc2_iso_ring_size.Kinds.r ring_sums.dwc2_iso_ring_size.Reads.Post
iso_ring_size_unique κs a x y u v = equal refl

pub iso_max_xfer_size_unique :
    Unique 0 ring_sums.dwc2_iso_max_xfer_size.Kinds.ps ring_sums.dwc2_iso_max_xfer_size.Kinds.r ring_sums.dwc2_iso_max_xfer_size.Reads.Post
iso_max_xfer_size_unique κs a x y u v = equal refl

pub gcd_unique : Unique 0 ring_sums.dwc2_gcd.Kinds.ps ring_sums.dwc2_gcd.Kinds.r ring_sums.dwc2_gcd.Reads.Post
gcd_unique κs a x y u v = equal refl

pub iso_max_packets_unique : Unique 0 ring_sums.dwc2_iso_max_packets.Kinds.ps ring_sums.dwc2_iso_max_packets.Kinds.r ring_sums.dwc2_iso_max_packets.Reads.Post
iso_max_packets_unique κs a x y u v = equal refl

pub iso_starting_frame_unique :
    Unique 0 ring_sums.dwc2_iso_starting_frame.Kinds.ps ring_sums.dwc2_iso_starting_frame.Kinds.r ring_sums.dwc2_iso_starting_frame.Reads.Post
iso_starting_frame_unique κs a x y u v = equal refl

pub frame_to_desc_idx_unique :
    Unique 0 ring_sums.dwc2_frame_to_desc_idx.Kinds.ps ring_sums.dwc2_frame_to_desc_idx.Kinds.r ring_sums.dwc2_frame_to_desc_idx.Reads.Post
frame_to_desc_idx_unique κs a x y u v = equal refl

pub advance_along_grid_unique :
    Unique 0 ring_sums.dwc2_advance_along_grid.Kinds.ps ring_sums.dwc2_advance_along_grid.Kinds.r ring_sums.dwc2_advance_along_grid.Reads.Post
advance_along_grid_unique κs a x y u v = equal refl

pub iso_schinfo_unique : Unique 0 ring_sums.dwc2_iso_schinfo.Kinds.ps ring_sums.dwc2_iso_schinfo.Kinds.r ring_sums.dwc2_iso_schinfo.Reads.Post
iso_schinfo_unique κs a x y u v = equal refl

pub iso_pid_unique : Unique 0 ring_sums.dwc2_iso_pid.Kinds.ps ring_sums.dwc2_iso_pid.Kinds.r ring_sums.dwc2_iso_pid.Reads.Post
iso_pid_unique κs a x y u v = equal refl

pub next_request_id_unique : Unique 0 ring_sums.dwc2_next_request_id.Kinds.ps ring_sums.dwc2_next_request_id.Kinds.r ring_sums.dwc2_next_request_id.Reads.Post
next_request_id_unique κs a x y u v = equal refl

pub iso_service_frames_unique :
    Unique 0 ring_sums.dwc2_iso_service_frames.Kinds.ps ring_sums.dwc2_iso_service_frames.Kinds.r ring_sums.dwc2_iso_service_frames.Reads.Post
iso_service_frames_unique κs a x y u v = equal refl

pub split_dma_lengths_unique :
    Unique 0 planning.dwc2_split_dma_lengths.Kinds.ps planning.dwc2_split_dma_lengths.Kinds.r planning.dwc2_split_dma_lengths.Reads.Post
split_dma_lengths_unique κs a x y u v = equal refl

pub packet_count_unique : Unique 0 planning.dwc2_packet_count.Kinds.ps planning.dwc2_packet_count.Kinds.r planning.dwc2_packet_count.Reads.Post
packet_count_unique κs a x y u v = equal refl

pub data_stages_unique : Unique 1 planning.dwc2_data_stages.Kinds.ps planning.dwc2_data_stages.Kinds.r planning.dwc2_data_stages.Reads.Post
data_stages_unique κs a x y u v = equal_both (λ (words : List ℕ). (tt, (words, tt)))

pub build_control_plan_unique :
    Unique 1 planning.dwc2_build_control_plan.Kinds.ps planning.dwc2_build_control_plan.Kinds.r planning.dwc2_build_control_plan.Reads.Post
build_control_plan_unique κs a x y u v = equal_both (λ (words : List ℕ). (tt, (words, tt)))

pub stage_actual_length_unique :
    Unique 1 stages.dwc2_stage_actual_length.Kinds.ps stages.dwc2_stage_actual_length.Kinds.r stages.dwc2_stage_actual_length.Reads.Post
stage_actual_length_unique κs a x y u v = equal refl

pub setup_packet_bytes_unique : Unique 0 setup.dwc2_setup_packet_bytes.Kinds.ps setup.dwc2_setup_packet_bytes.Kinds.r setup.dwc2_setup_packet_bytes.Reads.Post
setup_packet_bytes_unique κs a x y u v = equal refl

pub check_unique : Unique 1 calls.dwc2_iso_check.Kinds.ps calls.dwc2_iso_check.Kinds.r calls.dwc2_iso_check.Reads.Post
check_unique κs a x y u v = equal refl

pub reset_unique : Unique 1 calls.dwc2_iso_reset.Kinds.ps calls.dwc2_iso_reset.Kinds.r calls.dwc2_iso_reset.Reads.Post
reset_unique κs a x y u v = equal_both (λ (bytes : List ℕ). (bytes, tt))

pub cancel_unique : Unique 1 calls.dwc2_iso_cancel.Kinds.ps calls.dwc2_iso_cancel.Kinds.r calls.dwc2_iso_cancel.Reads.Post
cancel_unique κs a x y u v = equal_both (λ (bytes : List ℕ). (bytes, (tt, tt)))

pub recover_unique : Unique 2 calls.dwc2_iso_recover.Kinds.ps calls.dwc2_iso_recover.Kinds.r calls.dwc2_iso_recover.Reads.Post
recover_unique κs a x y u v = equal_all (λ (bytes words : List ℕ). (bytes, (words, tt)))

pub poll_unique : Unique 2 calls.dwc2_iso_poll.Kinds.ps calls.dwc2_iso_poll.Kinds.r calls.dwc2_iso_poll.Reads.Post
poll_unique κs a x y u v = equal_all (λ (bytes words : List ℕ). (bytes, (words, (tt, (tt, (tt, tt))))))

pub reclaim_unique : Unique 3 calls.dwc2_iso_reclaim.Kinds.ps calls.dwc2_iso_reclaim.Kinds.r calls.dwc2_iso_reclaim.Reads.Post
reclaim_unique κs a x y u v = equal_three (λ (bytes words results : List ℕ). (bytes, (words, (results, (tt, (tt, (tt, (tt, tt))))))))

pub open_unique : Unique 2 requests.dwc2_iso_open.Kinds.ps requests.dwc2_iso_open.Kinds.r requests.dwc2_iso_open.Reads.Post
open_unique κs a x y u v =
    equal_all (λ (bytes words : List ℕ). (bytes, (words, (tt, (tt, (tt, (tt, (tt, (tt, (tt, (tt, tt)))))))))))

pub submit_unique : Unique 3 requests.dwc2_iso_submit.Kinds.ps requests.dwc2_iso_submit.Kinds.r requests.dwc2_iso_submit.Reads.Post
submit_unique κs a x y u v = equal_all (λ (bytes words : List ℕ). (bytes, (words, (tt, (tt, tt)))))

pub number_from_unique : Unique 0 ring_sums.PortNumberFromOptionU32.from.Kinds.ps ring_sums.PortNumberFromOptionU32.from.Kinds.r ring_sums.PortNumberFromOptionU32.from.Reads.Post
number_from_unique κs a x y u v = equal refl

pub frames_from_unique :
    Unique 0 ring_sums.PortFramesFromOptionIsoServiceFrames.from.Kinds.ps ring_sums.PortFramesFromOptionIsoServiceFrames.from.Kinds.r ring_sums.PortFramesFromOptionIsoServiceFrames.from.Reads.Post
frames_from_unique κs a x y u v = equal refl
