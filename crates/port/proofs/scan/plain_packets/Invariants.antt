-- The invariant: what is put together is below none of the numbers passed; where it is small, a bad entry is among those still to be looked at
-- exactly if one is in use, and the sum so far and the packets of the others are the packets of all.
use Rattle.std.proofs.Common.{◌≡◌, ◌+◌, ◌-◌, ◌*◌, ◌≤◌, drop}
use lib.Seq.{slice}
use Rattle.session.specs.Session.{packets_of}
use Rattle.port.specs.Layout.{any_of}
use Rattle.port.specs.Places.{requests_of}
use Rattle.port.specs.Scan.{is_bad_request_entry}
use Rattle.port.proofs.scan.plain_packets.Given as goal

abbrev pub invariant-loop-i : goal.invariant-loop-i
invariant-loop-i l =
    l.words ≤ 254
    → (any_of is_bad_request_entry 20 (l.n - l.i) (drop (40 + 20 * l.i) l.bytes) ≡ any_of is_bad_request_entry 20 l.n (drop 40 l.bytes))
    × (l.sum ≤ 255 * l.i)
    × (l.sum + packets_of (slice l.i l.n (requests_of l.bytes)) ≡ packets_of (slice 0 l.n (requests_of l.bytes)))
