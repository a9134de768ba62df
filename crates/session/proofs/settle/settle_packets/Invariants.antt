-- The plans passed are settled, those ahead as they came.
use Rattle.std.proofs.Common.{◌≡◌, map, take, drop, ◌++◌}
use Rattle.session.specs.Settle.{settled_plan}
use Rattle.session.proofs.settle.settle_packets.Given as goal

abbrev pub invariant-loop-plan : goal.invariant-loop-plan
invariant-loop-plan l =
    l.packets ≡ map (settled_plan l.direction l.ring) (take l.plan-index l.initial.packets) ++ drop l.plan-index l.initial.packets
