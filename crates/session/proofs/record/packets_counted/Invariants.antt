-- What is left holds a bad one exactly if all do, and its packets and the sum so far are the packets of all.
use Rattle.std.proofs.Common.{◌≡◌, ◌+◌, ◌*◌, ◌≤◌, drop}
use Rattle.session.specs.Session.{packets_of}
use Rattle.session.specs.Record.{any_bad_request}
use Rattle.session.proofs.record.packets_counted.Given as goal

abbrev pub invariant-loop-request : goal.invariant-loop-request
invariant-loop-request l =
    (any_bad_request (drop l.request-index l.requests) ≡ any_bad_request l.requests)
    × (l.sum + packets_of (drop l.request-index l.requests) ≡ packets_of l.requests)
    × (l.sum ≤ 65535 * l.request-index)
