-- The requests passed have the outcome, those ahead are as they came.
use Rattle.std.proofs.Common.{◌≡◌, map, take, drop, ◌++◌}
use Rattle.session.specs.End.{with_outcome}
use Rattle.session.proofs.end.fail_requests.Given as goal

abbrev pub invariant-loop-request : goal.invariant-loop-request
invariant-loop-request l =
    l.requests ≡ map (with_outcome l.outcome) (take l.request-index l.initial.requests) ++ drop l.request-index l.initial.requests
