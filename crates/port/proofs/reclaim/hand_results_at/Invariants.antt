-- The invariant: the results still to write, written into the lent ones as they are now, give the goal.
use Rattle.std.proofs.Common.{◌≡◌, ◌+◌, map, length}
use lib.Seq.{slice, sets}
use Rattle.session.specs.Reclaim.{result_word}
use Rattle.port.specs.Places.{plans_of}
use Rattle.port.proofs.reclaim.hand_results_at.Given as goal

abbrev pub invariant-loop-at : goal.invariant-loop-at
invariant-loop-at l =
    (length l.results ≡ length l.initial.results)
    × (sets l.results l.at (map result_word (slice (l.from + l.at) l.to (plans_of l.bytes))) ≡ sets l.initial.results 0 (map result_word (slice l.from l.to (plans_of l.bytes))))
