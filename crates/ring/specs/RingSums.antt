-- Document 01, "Ring sums", in its order.
use Rattle.std.specs.Prelude.{ℕ, zero, suc, ◌+◌, ◌-◌, ◌*◌, ◌/◌, ◌%◌, ◌^◌, max, Bool, true, false, cond, List, [], ◌∷◌, ◌++◌, length, replicate, ◌==◌, nat_le}
use Rattle.words.specs.declared.types.Direction.{Direction}
use Rattle.words.specs.declared.types.Direction.TheVariants.{Out, In}
use Rattle.words.specs.declared.types.Dwc2Pid.{Dwc2Pid}
use Rattle.words.specs.declared.types.Dwc2Pid.TheVariants.{Data0, Data1, Data2, MData}
use Rattle.ring.specs.Gcd.{gcd}
use Rattle.ring.specs.declared.speed.Speed.{Speed}
use Rattle.ring.specs.declared.speed.Speed.TheVariants.{High, Full, Low}
use Rattle.ring.specs.declared.frames.IsoServiceFrames.{IsoServiceFrames}

-- "low counts as full here"
abbrev pub at_speed : {A : Type 0} → Speed → A → A → A
at_speed High high full = high
at_speed Full high full = full
at_speed Low high full = full

-- "Ring R: 256 slots at high speed, 64 at full"
abbrev pub ring_size : Speed → ℕ
ring_size speed = at_speed speed 256 64

-- "Packet limit 3,072 or 1,023."
abbrev pub packet_limit : Speed → ℕ
packet_limit speed = at_speed speed 3072 1023

-- "g is the greatest common divisor of interval and R", where "an interval of 0 counts as 1"; so does a ring of 0
abbrev pub grid_step : ℕ → ℕ → ℕ
grid_step interval R = gcd (max 1 interval) (max 1 R)

-- "Capacity is R/g − 1."
abbrev pub capacity : ℕ → ℕ → ℕ
capacity interval R = R / grid_step interval R - 1

-- "adds 16 to the raw number if its low three bits are 5 or more, else 8"
abbrev pub microframes_ahead : ℕ → ℕ
microframes_ahead raw = cond (nat_le 5 (raw % 8)) 16 8

-- "Starting frame: high speed adds .. wrapping at 32 bits, then divides by 8. Full speed adds 2, wrapping, and keeps 16 bits."
abbrev pub starting_frame : Speed → ℕ → ℕ
starting_frame speed raw = at_speed speed ((raw + microframes_ahead raw) % 2 ^ 32 / 8) ((raw + 2) % 2 ^ 32 % 2 ^ 16)

-- "Slot of a frame: high speed (frame mod 32) × 8; full speed frame mod 64."
abbrev pub frame_slot : Speed → ℕ → ℕ
frame_slot speed frame = at_speed speed (frame % 32 * 8) (frame % 64)

-- (c − t) mod g, "the inner mod never negative"
abbrev pub grid_gap : ℕ → ℕ → ℕ → ℕ
grid_gap g c t = (c % g + (g - t % g)) % g

-- "Grid: from cursor c and target t, insert at (t + ((c − t) mod g)) mod R"
abbrev pub grid_slot : ℕ → ℕ → ℕ → ℕ → ℕ
grid_slot c t interval R = (t + grid_gap (grid_step interval R) c t) % max 1 R

-- 01, "Submit": "Packet i goes to (insert + i × interval) mod R"
abbrev pub slot_at : ℕ → ℕ → ℕ → ℕ → ℕ
slot_at R insert interval i = (insert + i * interval) % R

-- the slots of n packets, from packet i on
abbrev pub slots_from : ℕ → ℕ → ℕ → ℕ → ℕ → List ℕ
slots_from R insert interval i zero = []
slots_from R insert interval i (suc n) = slot_at R insert interval i ∷ slots_from R insert interval (suc i) n

-- the first n of the bits 0, i, 2i, ..
abbrev pub every_bit : ℕ → ℕ → ℕ
every_bit i zero = 0
every_bit i (suc n) = 2 ^ (n * i) + every_bit i n

-- "SCHINFO at full speed is 255. At high speed it has the bits 0, i, 2i, .. for ceil(8/i) terms."
abbrev pub microframe_bits : ℕ → ℕ
microframe_bits interval = every_bit (max 1 interval) ((8 + (max 1 interval - 1)) / max 1 interval)

abbrev pub schinfo : Speed → ℕ → ℕ
schinfo speed interval = at_speed speed (microframe_bits interval) 255

-- "step by ceil(interval/8) at high speed or interval at full"
abbrev pub frame_step : Speed → ℕ → ℕ
frame_step speed interval = at_speed speed ((max 1 interval + 7) / 8) (max 1 interval)

abbrev pub unless_back : Bool → List ℕ → List ℕ
unless_back true rest = []
unless_back false rest = rest

-- from frame on, by step mod size, "until the first comes again"; no more than fuel entries
unfoldable pub walk : ℕ → ℕ → ℕ → ℕ → ℕ → List ℕ
walk size step first zero frame = []
walk size step first (suc fuel) frame =
    frame ∷ unless_back ((frame + step) % size == first) (walk size step first fuel ((frame + step) % size))

-- "Frame-list entries: begin at start mod 64 .. mod 64, until the first comes again."
unfoldable pub service_frames : ℕ → ℕ → Speed → List ℕ
service_frames start interval speed = walk 64 (frame_step speed interval) (start % 64) 64 (start % 64)

-- the list as a count and 64 bytes, those behind it zero
abbrev pub frame_table : List ℕ → IsoServiceFrames
frame_table frames = record { count = length frames; frames = frames ++ replicate (64 - length frames) 0 }

-- "PID: high-speed IN gives DATA0, DATA1, DATA2 for mult 1, 2, 3", where "mult 0 counts as 1"; above 3 as for 3
abbrev pub pid_in : ℕ → Dwc2Pid
pid_in zero = Data0
pid_in (suc zero) = Data0
pid_in (suc (suc zero)) = Data1
pid_in (suc (suc (suc m))) = Data2

-- "OUT gives DATA0 for mult 1, else MDATA"
abbrev pub pid_out : ℕ → Dwc2Pid
pid_out zero = Data0
pid_out (suc zero) = Data0
pid_out (suc (suc m)) = MData

abbrev pub pid_high : Direction → ℕ → Dwc2Pid
pid_high In mult = pid_in mult
pid_high Out mult = pid_out mult

-- "full speed DATA0"
abbrev pub pid_of : Speed → Direction → ℕ → Dwc2Pid
pid_of High direction mult = pid_high direction mult
pid_of Full direction mult = Data0
pid_of Low direction mult = Data0

-- "The next request number after 2^64 − 1 is 1."
abbrev pub next_number : ℕ → ℕ
next_number id = max 1 ((id + 1) % 2 ^ 64)
