-- The invariant: the requests passed, with those before the first one with the number of what is left, are those before the first of all.
use Rattle.std.proofs.Common.{◌≡◌, ◌+◌}
use lib.Seq.{slice}
use Rattle.session.specs.Cancel.{place_of}
use Rattle.port.specs.Layout.{session_of}
use Rattle.port.proofs.cancel.place_at.Given as goal

abbrev pub invariant-loop-i : goal.invariant-loop-i
invariant-loop-i l =
    l.i + place_of l.id (slice l.i l.count (session_of l.bytes).requests) ≡ place_of l.id (slice 0 l.count (session_of l.bytes).requests)
