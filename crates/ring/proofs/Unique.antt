-- Each public function's promise leaves one answer: two that keep it, at the same arguments, are equal. Each line is over the function's own
-- contract, so it fails where the promise is weakened.
use Rattle.std.proofs.Common.{ℕ, List, refl}
use Rattle.words.proofs.Unique.{Unique, equal, equal_lent}
use Rattle.ring.proofs.frames
use Rattle.ring.proofs.grid
use Rattle.ring.proofs.pid
use Rattle.ring.proofs.request
use Rattle.ring.proofs.speed
use Rattle.ring.proofs.store

pub iso_ring_size_unique : Unique 0 speed.iso_ring_size.Kinds.ps speed.iso_ring_size.Kinds.r speed.iso_ring_size.Reads.Post
iso_ring_size_unique κs a x y u v = equal refl

pub iso_max_xfer_size_unique : Unique 0 speed.iso_max_xfer_size.Kinds.ps speed.iso_max_xfer_size.Kinds.r speed.iso_max_xfer_size.Reads.Post
iso_max_xfer_size_unique κs a x y u v = equal refl

pub gcd_unique : Unique 0 grid.gcd.Kinds.ps grid.gcd.Kinds.r grid.gcd.Reads.Post
gcd_unique κs a x y u v = equal refl

pub iso_max_packets_unique : Unique 0 grid.iso_max_packets.Kinds.ps grid.iso_max_packets.Kinds.r grid.iso_max_packets.Reads.Post
iso_max_packets_unique κs a x y u v = equal refl

pub advance_along_grid_unique : Unique 0 grid.advance_along_grid.Kinds.ps grid.advance_along_grid.Kinds.r grid.advance_along_grid.Reads.Post
advance_along_grid_unique κs a x y u v = equal refl

pub iso_starting_frame_unique : Unique 0 frames.iso_starting_frame.Kinds.ps frames.iso_starting_frame.Kinds.r frames.iso_starting_frame.Reads.Post
iso_starting_frame_unique κs a x y u v = equal refl

pub frame_to_desc_idx_unique : Unique 0 frames.frame_to_desc_idx.Kinds.ps frames.frame_to_desc_idx.Kinds.r frames.frame_to_desc_idx.Reads.Post
frame_to_desc_idx_unique κs a x y u v = equal refl

pub iso_schinfo_unique : Unique 0 frames.iso_schinfo.Kinds.ps frames.iso_schinfo.Kinds.r frames.iso_schinfo.Reads.Post
iso_schinfo_unique κs a x y u v = equal refl

pub iso_service_frames_unique : Unique 0 frames.iso_service_frames.Kinds.ps frames.iso_service_frames.Kinds.r frames.iso_service_frames.Reads.Post
iso_service_frames_unique κs a x y u v = equal refl

pub iso_pid_unique : Unique 0 pid.iso_pid.Kinds.ps pid.iso_pid.Kinds.r pid.iso_pid.Reads.Post
iso_pid_unique κs a x y u v = equal refl

pub next_request_id_unique : Unique 0 request.next_request_id.Kinds.ps request.next_request_id.Kinds.r request.next_request_id.Reads.Post
next_request_id_unique κs a x y u v = equal refl

pub next_slot_unique : Unique 0 grid.next_slot.Kinds.ps grid.next_slot.Kinds.r grid.next_slot.Reads.Post
next_slot_unique κs a x y u v = equal refl

pub store_packets_unique : Unique 2 store.store_packets.Kinds.ps store.store_packets.Kinds.r store.store_packets.Reads.Post
store_packets_unique κs a x y u v = equal_lent (λ (words : List ℕ). (words, (tt, (tt, (tt, (tt, (tt, (tt, tt))))))))
