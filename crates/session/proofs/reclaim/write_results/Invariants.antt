-- The results still to write, written into the lent ones as they are now, give the goal.
use Rattle.std.proofs.Common.{◌≡◌, map, drop}
use Rattle.std.proofs.lemmas.List.Edits.{sets}
use Rattle.session.specs.Reclaim.{result_word}
use Rattle.session.proofs.reclaim.write_results.Given as goal

abbrev pub invariant-loop-i : goal.invariant-loop-i
invariant-loop-i l = sets l.results l.i (map result_word (drop l.i l.plans)) ≡ sets l.initial.results 0 (map result_word l.plans)
