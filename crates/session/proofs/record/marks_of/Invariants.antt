-- None of the plans passed is bad, and a slot is marked just where one of them has it.
use Rattle.std.proofs.Common.{ℕ, ◌≡◌, ◌<◌, false, length, get_or, take}
use Rattle.session.specs.Record.{any_bad_plan}
use Rattle.session.specs.Way.{is_held}
use Rattle.session.proofs.record.marks_of.Given as goal

abbrev pub invariant-loop-plan : goal.invariant-loop-plan
invariant-loop-plan l =
    (length l.held ≡ 256) × ((k : ℕ) → k < 256 → get_or l.held k false ≡ is_held (take l.plan-index l.plans) k)
    × (any_bad_plan l.limit l.slots (take l.plan-index l.plans) ≡ false)
