-- The answers of the ring sums by numbers (include/dwc2_port.h): 18 and zeros where a number names nothing.
use Rattle.std.specs.Prelude.{ℕ, Bool, true, false, Option, Some, None, replicate, nat_lt}
use Rattle.ring.specs.declared.frames.IsoServiceFrames.{IsoServiceFrames}
use Rattle.port.specs.declared.ring_sums.PortNumber.{PortNumber}
use Rattle.port.specs.declared.ring_sums.PortFrames.{PortFrames}

abbrev pub is_bad_speed : ℕ → Bool
is_bad_speed speed = nat_lt 2 speed

abbrev pub is_bad_direction : ℕ → Bool
is_bad_direction direction = nat_lt 1 direction

-- the value, unless a number names nothing
abbrev pub number_unless : Bool → ℕ → PortNumber
number_unless true value = record { refusal = 18; value = 0 }
number_unless false value = record { refusal = 0; value = value }

-- the same of a value that may be missing
abbrev pub number_from : Option ℕ → PortNumber
number_from None = number_unless true 0
number_from (Some value) = number_unless false value

abbrev pub frames_unless : Bool → IsoServiceFrames → PortFrames
frames_unless true t = record { refusal = 18; count = 0; frames = replicate 64 0 }
frames_unless false t = record { refusal = 0; count = t.count; frames = t.frames }

abbrev pub frames_from : Option IsoServiceFrames → PortFrames
frames_from None = record { refusal = 18; count = 0; frames = replicate 64 0 }
frames_from (Some t) = frames_unless false t
