-- `iso_max_packets` is the capacity of the speed's ring. The grid has at least one slot, so that one less is a number.
use Rattle.std.proofs.Common.{◌≡◌, ◌/◌, arith}
use Rattle.ring.specs.RingSums.{ring_size, grid_step}
use Rattle.ring.proofs.RingFacts.{ring_size_pos, capacity_more}
use Rattle.ring.proofs.grid.iso_max_packets.Goals as goal

pub overflow_sub-result : goal.overflow_sub-result
overflow_sub-result c =
    let a = c.args in
    let turns : c.iso_ring_size-ring.result / c.grid_step.result ≡ ring_size a.speed / grid_step a.interval (ring_size a.speed) = cc in
    omega (arith, turns, capacity_more a.interval (ring_size a.speed) (ring_size_pos a.speed))
