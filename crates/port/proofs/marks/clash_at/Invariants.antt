-- The invariant: a slot is marked, or a pending plan still to be passed has it, just where a pending plan has it.
use Rattle.std.proofs.Common.{◌≡◌, ℕ, ◌+◌, ◌-◌, ◌<◌, ◌≤◌, false, ◌||◌, length, get_or}
use lib.Seq.{slice}
use Rattle.session.specs.Way.{is_held}
use Rattle.port.specs.Layout.{session_of}
use Rattle.port.proofs.marks.clash_at.Given as goal

abbrev pub invariant-loop-j : goal.invariant-loop-j
invariant-loop-j l =
    (l.all - l.pending ≤ l.j) × (length l.held ≡ 256)
    × ((k : ℕ) → k < 256
    → (get_or l.held k false || is_held (slice ((l.all - l.pending) + (l.j - (l.all - l.pending))) l.all (session_of l.bytes).plans) k)
    ≡ is_held (slice (l.all - l.pending) l.all (session_of l.bytes).plans) k)
