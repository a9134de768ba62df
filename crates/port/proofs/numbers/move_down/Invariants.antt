-- The invariant: what is left to move, moved in the bytes as they are now, gives the goal.
use Rattle.std.proofs.Common.{◌≡◌, ◌+◌, ◌*◌}
use lib.Seq.{slice, sets}
use Rattle.port.proofs.numbers.move_down.Given as goal

abbrev pub invariant-loop-k : goal.invariant-loop-k
invariant-loop-k l =
    sets l.bytes (l.into + 16 * l.k) (slice (l.from + 16 * l.k) (l.from + l.n) l.bytes)
    ≡ sets l.initial.bytes l.into (slice l.from (l.from + l.n) l.initial.bytes)
