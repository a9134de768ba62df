-- A row adds at most one.
use Rattle.std.proofs.Common.{◌≤◌}
use Rattle.story.proofs.row.rows.Given as goal

abbrev pub invariant-loop-row : goal.invariant-loop-row
invariant-loop-row g l = l.wrong ≤ l.row-index
