-- The invariant: the slots still to be cleared, cleared on the ring as it is now, give the goal.
use Rattle.std.proofs.Common.{◌≡◌, length}
use lib.Seq.{slice}
use Rattle.session.specs.Settle.{slots_cleared}
use Rattle.port.specs.Places.{plans_of}
use Rattle.port.proofs.drain.clear_slots_at.Given as goal

abbrev pub invariant-loop-i : goal.invariant-loop-i
invariant-loop-i l =
    (length l.ring ≡ length l.initial.ring)
    × (slots_cleared (slice l.i l.to (plans_of l.bytes)) l.ring ≡ slots_cleared (slice l.from l.to (plans_of l.bytes)) l.initial.ring)
