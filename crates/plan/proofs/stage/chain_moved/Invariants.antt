-- The invariant: what has been counted, with what is still to be counted, gives the goal; what has been counted is at most the length of
-- the descriptors passed.
use Rattle.std.proofs.Common.{◌≡◌, ◌+◌, ◌*◌, ◌≤◌}
use Rattle.plan.specs.StageLength.{chain_moved}
use Rattle.plan.proofs.Laws.Chains.{moved_from}
use Rattle.plan.proofs.stage.chain_moved.Given as goal

abbrev pub invariant-loop-i : goal.invariant-loop-i
invariant-loop-i l =
    (l.total ≤ l.i * l.chunk)
    × (l.total + moved_from l.mps l.chunk l.array l.base l.stage.descs l.stage.len l.i ≡ chain_moved l.mps l.array l.stage.descs l.base l.stage.len)
