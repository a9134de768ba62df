-- Sums over the requests in use, request by request, and the room that the ring has for their packets.
use mathlib.Core.Path.{◌≡◌, ◌∙◌, sym, ap}
use mathlib.Core.List.{List, [], ◌∷◌, ◌++◌}
use Prim.Native.Nat.{ℕ, ◌+◌, ◌*◌, ◌/◌, ◌≤◌, ◌<◌, max}
use native.Mathlib.Nat.{zero-add, div-le_self, le_trans, le_of_dvd, le-div_iff_mul-le, mul-le-mul_left}
use native.Mathlib.Omega.{arith}
use lib.ListN.{length, get_or}
use lib.Seq.{slice}
use Rattle.ring.specs.RingSums.{ring_size, grid_step}
use Rattle.ring.specs.declared.speed.Speed.{Speed}
use Rattle.ring.specs.declared.speed.Speed.TheVariants.{High, Full, Low}
use Rattle.ring.specs.Gcd.{gcd}
use Rattle.ring.proofs.Euclid.{gcd_pos, gcd_divides}
use Rattle.ring.proofs.RingFacts.{ring_size_pos, capacity_more}
use Rattle.session.specs.declared.types.IsoConfig.{IsoConfig}
use Rattle.session.specs.declared.types.IsoRequest.{IsoRequest}
use Rattle.session.specs.Session.{blank_request, slots, room, packets_of}
use Rattle.session.proofs.Laws.Lists.{slice_next, slice_past, slice_split}

-- a ring has at most 256 slots, and room is for fewer packets than it has slots
pub ring_few : (speed : Speed) → ring_size speed ≤ 256
ring_few High = omega arith
ring_few Full = omega arith
ring_few Low = omega arith

pub room_below : (cfg : IsoConfig) → room cfg < slots cfg
room_below cfg =
    omega (arith, capacity_more cfg.interval (slots cfg) (ring_size_pos cfg.speed), div-le_self (slots cfg) (grid_step cfg.interval (slots cfg)))

pub room_few : (cfg : IsoConfig) → room cfg ≤ 255
room_few cfg = omega (arith, room_below cfg, ring_few cfg.speed)

-- packets that fit with a whole interval between them fit: the divisor is at most the interval
pub room_fits : (cfg : IsoConfig) (n : ℕ) → (n + 1) * max 1 cfg.interval ≤ slots cfg → n ≤ room cfg
room_fits cfg n h =
    let step : ℕ = max 1 cfg.interval in
    let size : ℕ = max 1 (slots cfg) in
    let some : 0 < step = omega arith in
    let close : gcd step size ≤ step = le_of_dvd some (gcd_divides step size).0 in
    let turns : n + 1 ≤ slots cfg / gcd step size = (le-div_iff_mul-le (gcd_pos step size)).1 (le_trans (mul-le-mul_left (n + 1) close) h) in
    omega arith

-- the packets of a slice: one request more, none left, two parts
pub packets_next :
    (i t : ℕ) (l : List IsoRequest) → i < t → t ≤ length l
    → packets_of (slice i t l) ≡ (get_or l i blank_request).packets + packets_of (slice (i + 1) t l)
packets_next i t l h k = ap packets_of (slice_next i t l blank_request h k)

pub packets_past : (i t : ℕ) (l : List IsoRequest) → t ≤ i → packets_of (slice i t l) ≡ 0
packets_past i t l h = ap packets_of (slice_past i t l h)

pub packets_append : (a b : List IsoRequest) → packets_of (a ++ b) ≡ packets_of a + packets_of b
packets_append [] b = sym (zero-add (packets_of b))
packets_append (r ∷ a) b = omega (arith, packets_append a b)

pub packets_split :
    (done count : ℕ) (l : List IsoRequest) → done ≤ count → count ≤ length l
    → packets_of (slice 0 count l) ≡ packets_of (slice 0 done l) + packets_of (slice done count l)
packets_split done count l h k =
    ap packets_of (slice_split 0 done count l (omega arith) h k) ∙ packets_append (slice 0 done l) (slice done count l)
