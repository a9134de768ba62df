-- Enums as bytes (docs/LAYOUT.md): the number of each case, and the case of each number. A number that names nothing is refused before it is
-- read, so what stands for it here is never seen.
use Rattle.std.specs.Prelude.{ℕ, Bool, true, false, cond, not, ◌&&◌, ◌||◌, Option, Some, None, List, ◌∷◌, drop, ◌==◌, nat_le, nat_lt}
use Rattle.ring.specs.declared.speed.Speed.{Speed}
use Rattle.ring.specs.declared.speed.Speed.TheVariants.{High, Full, Low}
use Rattle.words.specs.Numbers.{fault_bit}
use Rattle.words.specs.declared.types.Direction.{Direction}
use Rattle.words.specs.declared.types.Direction.TheVariants.{Out, In}
use Rattle.words.specs.declared.types.Dwc2TransferFault.{Dwc2TransferFault}
use Rattle.words.specs.declared.types.Dwc2TransferFault.TheVariants as fault
use Rattle.session.specs.declared.types.IsoMode.{IsoMode}
use Rattle.session.specs.declared.types.IsoMode.TheVariants.{Compatible, Guarded}
use Rattle.session.specs.declared.types.TransferStatus.{TransferStatus}
use Rattle.session.specs.declared.types.TransferStatus.TheVariants.{Completed, Error}
use Rattle.session.specs.declared.types.IsoOutcome.{IsoOutcome}
use Rattle.session.specs.declared.types.IsoOutcome.TheVariants as outcome
use Rattle.session.specs.declared.types.IsoHaltReason.{IsoHaltReason}
use Rattle.session.specs.declared.types.IsoHaltReason.TheVariants as reason
use Rattle.port.specs.declared.tags.Tagged.{Tagged}
use Rattle.port.specs.Bytes.{byte_of, u32_of, u32_bytes}

abbrev pub speed_tag : Speed → ℕ
speed_tag High = 0
speed_tag Full = 1
speed_tag Low = 2

abbrev pub speed_of : ℕ → Speed
speed_of tag = cond (tag == 0) High (cond (tag == 1) Full Low)

abbrev pub direction_tag : Direction → ℕ
direction_tag Out = 0
direction_tag In = 1

abbrev pub direction_of : ℕ → Direction
direction_of tag = cond (tag == 0) Out In

abbrev pub mode_tag : IsoMode → ℕ
mode_tag Compatible = 0
mode_tag Guarded = 1

abbrev pub mode_of : ℕ → IsoMode
mode_of tag = cond (tag == 0) Compatible Guarded

abbrev pub status_tag : TransferStatus → ℕ
status_tag Completed = 0
status_tag Error = 1

abbrev pub status_of : ℕ → TransferStatus
status_of tag = cond (tag == 0) Completed Error

-- a yes is 1
abbrev pub flag_tag : Bool → ℕ
flag_tag true = 1
flag_tag false = 0

abbrev pub flag_of : ℕ → Bool
flag_of tag = not (tag == 0)

-- a fault is its bit of HCINT
abbrev pub fault_of : ℕ → Dwc2TransferFault
fault_of kind =
    cond (kind == 2) fault.Ahb
    (cond (kind == 3) fault.Stall
    (cond (kind == 7) fault.Transaction (cond (kind == 8) fault.Babble (cond (kind == 9) fault.FrameOverrun fault.DataToggle))))

abbrev pub is_fault : ℕ → Bool
is_fault kind = kind == 2 || (kind == 3 || (nat_le 7 kind && nat_le kind 10))

-- ---- a tag, with the fault and the interrupt word of those that have them and 0 of the others

abbrev pub tagged : ℕ → ℕ → ℕ → Tagged
tagged tag kind word = record { tag = tag; kind = kind; word = word }

unfoldable pub tagged_bytes : Tagged → List ℕ
tagged_bytes t = t.tag ∷ t.kind ∷ u32_bytes t.word

unfoldable pub tagged_of : List ℕ → Tagged
tagged_of xs = tagged (byte_of xs) (byte_of (drop 1 xs)) (u32_of (drop 2 xs))

abbrev pub outcome_tagged : IsoOutcome → Tagged
outcome_tagged outcome.Done = tagged 0 0 0
outcome_tagged outcome.Disconnected = tagged 1 0 0
outcome_tagged outcome.Cancelled = tagged 2 0 0
outcome_tagged (outcome.Fault kind word) = tagged 3 (fault_bit kind) word
outcome_tagged (outcome.UnexpectedHalt word) = tagged 4 0 word

abbrev pub outcome_of : Tagged → IsoOutcome
outcome_of t =
    cond (t.tag == 0) outcome.Done
    (cond (t.tag == 1) outcome.Disconnected
    (cond (t.tag == 2) outcome.Cancelled
    (cond (t.tag == 3) (outcome.Fault (fault_of t.kind) t.word) (outcome.UnexpectedHalt t.word))))

abbrev pub reason_tagged : IsoHaltReason → Tagged
reason_tagged reason.Cancelled = tagged 1 0 0
reason_tagged (reason.Fault kind word) = tagged 2 (fault_bit kind) word

abbrev pub fatal_tagged : Option IsoHaltReason → Tagged
fatal_tagged None = tagged 0 0 0
fatal_tagged (Some r) = reason_tagged r

abbrev pub fatal_of : Tagged → Option IsoHaltReason
fatal_of t =
    cond (t.tag == 0) None (cond (t.tag == 1) (Some reason.Cancelled) (Some (reason.Fault (fault_of t.kind) t.word)))

-- tags up to `last`; the tag `fault` alone has a fault, and those below it have no word
abbrev pub is_bad_tagged : ℕ → ℕ → Tagged → Bool
is_bad_tagged fault last t =
    nat_lt last t.tag
    || (t.tag == fault && not (is_fault t.kind)
    || (not (t.tag == fault) && not (t.kind == 0) || nat_lt t.tag fault && not (t.word == 0)))
