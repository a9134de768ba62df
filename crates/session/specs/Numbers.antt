-- Document 01's number for each answer of a session call, 0 where the call did what was asked, and the value that comes with it: the new
-- request's number, or the index of the first packet that is too long.
use Rattle.std.specs.Prelude.{ℕ, Option, Some, None, Result, Ok, Err, ⊤}
use Rattle.session.specs.declared.refusal.IsoRefusal.{IsoRefusal}
use Rattle.session.specs.declared.refusal.IsoRefusal.TheVariants as refusal
use Rattle.session.specs.declared.transfer.IsoSubmission.{IsoSubmission}
use Rattle.session.specs.declared.transfer.IsoSubmission.TheVariants.{Accepted, Cut}
use Rattle.session.specs.declared.reply.IsoCompletion.{IsoCompletion}

-- 01's table
abbrev pub refusal_number : IsoRefusal → ℕ
refusal_number refusal.Ending = 1
refusal_number refusal.LowSpeed = 2
refusal_number refusal.NotIsochronous = 3
refusal_number refusal.NoPackets = 4
refusal_number refusal.NoBuffer = 5
refusal_number refusal.OverCapacity = 6
refusal_number refusal.OverCapacityPending = 7
refusal_number refusal.TablesFull = 8
refusal_number (refusal.PacketTooLong index) = 9
refusal_number refusal.LengthsDiffer = 10
refusal_number refusal.AddressLimit = 11
refusal_number refusal.NoChannel = 12
refusal_number refusal.SlotHeld = 13
refusal_number refusal.Unplugged = 14
refusal_number refusal.UnknownRequest = 15
refusal_number refusal.NotEmpty = 16
refusal_number refusal.ShortBuffer = 17
refusal_number refusal.BadRecord = 18

-- "packet too long; gives the first index"
abbrev pub refusal_value : IsoRefusal → ℕ
refusal_value refusal.Ending = 0
refusal_value refusal.LowSpeed = 0
refusal_value refusal.NotIsochronous = 0
refusal_value refusal.NoPackets = 0
refusal_value refusal.NoBuffer = 0
refusal_value refusal.OverCapacity = 0
refusal_value refusal.OverCapacityPending = 0
refusal_value refusal.TablesFull = 0
refusal_value (refusal.PacketTooLong index) = index
refusal_value refusal.LengthsDiffer = 0
refusal_value refusal.AddressLimit = 0
refusal_value refusal.NoChannel = 0
refusal_value refusal.SlotHeld = 0
refusal_value refusal.Unplugged = 0
refusal_value refusal.UnknownRequest = 0
refusal_value refusal.NotEmpty = 0
refusal_value refusal.ShortBuffer = 0
refusal_value refusal.BadRecord = 0

abbrev pub open_number : Result ⊤ IsoRefusal → ℕ
open_number (Ok done) = 0
open_number (Err r) = refusal_number r

-- poll, cancel, reset and recovery
abbrev pub answer_number : Result ⊤ IsoRefusal → ℕ
answer_number (Ok done) = 0
answer_number (Err r) = refusal_number r

-- a cut submission is not refused: its words are the first of those planned, and recovery follows
abbrev pub submit_number : Result IsoSubmission IsoRefusal → ℕ
submit_number (Ok submission) = 0
submit_number (Err r) = refusal_number r

abbrev pub submission_value : IsoSubmission → ℕ
submission_value (Accepted id) = id
submission_value Cut = 0

abbrev pub submit_value : Result IsoSubmission IsoRefusal → ℕ
submit_value (Ok submission) = submission_value submission
submit_value (Err r) = refusal_value r

-- "not yet" is not refused; a completed request comes with its total length and its packets
abbrev pub reclaim_number : Result (Option IsoCompletion) IsoRefusal → ℕ
reclaim_number (Ok completion) = 0
reclaim_number (Err r) = refusal_number r

abbrev pub completion_length : Option IsoCompletion → ℕ
completion_length (Some c) = c.actual_length
completion_length None = 0

abbrev pub completion_packets : Option IsoCompletion → ℕ
completion_packets (Some c) = c.packets
completion_packets None = 0

abbrev pub reclaim_length : Result (Option IsoCompletion) IsoRefusal → ℕ
reclaim_length (Ok completion) = completion_length completion
reclaim_length (Err r) = 0

abbrev pub reclaim_packets : Result (Option IsoCompletion) IsoRefusal → ℕ
reclaim_packets (Ok completion) = completion_packets completion
reclaim_packets (Err r) = 0
