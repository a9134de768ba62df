-- The invariant: the bytes hold the session with other requests, and the outcome put into what is still to do of them gives the goal.
use Rattle.std.proofs.Common.{◌≡◌, ◌≤◌, map, length}
use lib.Seq.{slice, sets}
use Rattle.session.specs.End.{with_outcome}
use Rattle.port.specs.Layout.{session_of}
use Rattle.port.specs.Places.{requests_of, with_requests, Left}
use Rattle.port.proofs.end.fail_at.Given as goal

abbrev pub invariant-loop-i : goal.invariant-loop-i
invariant-loop-i l =
    (l.i ≤ l.to) × (length l.bytes ≡ length l.initial.bytes)
    × Left l.initial.bytes l.bytes (with_requests (session_of l.initial.bytes) (requests_of l.bytes))
    × (sets (requests_of l.bytes) l.i (map (with_outcome l.outcome) (slice l.i l.to (requests_of l.bytes)))
    ≡ sets (requests_of l.initial.bytes) l.from (map (with_outcome l.outcome) (slice l.from l.to (requests_of l.initial.bytes))))
