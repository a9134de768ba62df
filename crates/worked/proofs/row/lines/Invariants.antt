-- A line adds at most one.
use Rattle.std.proofs.Common.{◌≤◌}
use Rattle.worked.proofs.row.lines.Given as goal

abbrev pub invariant-loop-line : goal.invariant-loop-line
invariant-loop-line g l = l.wrong ≤ l.line-index
