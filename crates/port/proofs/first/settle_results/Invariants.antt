-- The invariant: the results still to write, written into the lent ones as they are now, give the goal, and so for the bytes moved.
use Rattle.std.proofs.Common.{◌≡◌, ◌+◌, ◌*◌, ◌≤◌, map, length}
use lib.Seq.{slice, sets}
use Rattle.session.specs.Settle.{settled_plan, moved_total}
use Rattle.session.specs.Reclaim.{result_word}
use Rattle.port.specs.Places.{plans_of}
use Rattle.port.proofs.first.settle_results.Given as goal

abbrev pub invariant-loop-i : goal.invariant-loop-i
invariant-loop-i l =
    (length l.results ≡ length l.initial.results) × (l.sum ≤ 65535 * l.i)
    × (l.sum + moved_total (map (settled_plan l.direction l.ring) (slice l.i l.n (plans_of l.bytes)))
    ≡ moved_total (map (settled_plan l.direction l.ring) (slice 0 l.n (plans_of l.bytes))))
    × (sets l.results l.i (map result_word (map (settled_plan l.direction l.ring) (slice l.i l.n (plans_of l.bytes))))
    ≡ sets l.initial.results 0 (map result_word (map (settled_plan l.direction l.ring) (slice 0 l.n (plans_of l.bytes)))))
