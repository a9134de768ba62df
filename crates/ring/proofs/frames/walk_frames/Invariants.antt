-- What is written so far stands before the rest of the walk.
use Rattle.std.proofs.Common.{◌<◌}
use Rattle.ring.proofs.Walk.{Written}
use Rattle.ring.proofs.frames.walk_frames.Given as goal

abbrev pub invariant-loop-i : goal.invariant-loop-i
invariant-loop-i l = (l.frame < 64) × Written l.step l.first l.i l.frame l.frames
