-- The invariant: the sum so far and the packets of the requests still to be counted are those of all.
use Rattle.std.proofs.Common.{◌≡◌, ◌+◌, ◌*◌, ◌≤◌}
use lib.Seq.{slice}
use Rattle.session.specs.Session.{packets_of}
use Rattle.port.specs.Places.{requests_of}
use Rattle.port.proofs.drain.packets_before.Given as goal

abbrev pub invariant-loop-i : goal.invariant-loop-i
invariant-loop-i l =
    (l.sum ≤ 65535 * l.i) × (l.sum + packets_of (slice l.i l.end (requests_of l.bytes)) ≡ packets_of (slice 0 l.end (requests_of l.bytes)))
