-- The slots still to clear, cleared in the ring as it is now, give the goal.
use Rattle.std.proofs.Common.{◌≡◌, drop}
use Rattle.session.specs.Settle.{slots_cleared}
use Rattle.session.proofs.settle.clear_slots.Given as goal

abbrev pub invariant-loop-plan : goal.invariant-loop-plan
invariant-loop-plan l = slots_cleared (drop l.plan-index l.plans) l.ring ≡ slots_cleared l.plans l.initial.ring
