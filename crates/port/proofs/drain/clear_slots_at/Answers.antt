-- The invariant: the slots still to be cleared, cleared on the ring as it is now, give the goal.
use Rattle.std.proofs.Common.{ℕ, ◌+◌, ◌*◌, set, ap, ◌∙◌, arith, length-set}
use Rattle.session.proofs.Laws.Settled.{cleared_next}
use Rattle.port.specs.Places.{plans_of}
use Rattle.port.proofs.Laws.Placed.{plans_many}
use Rattle.port.proofs.drain.clear_slots_at.Goals as goal

pub loop-i-preserved : goal.loop-i-preserved
loop-i-preserved c =
    let a = c.args in
    let now = c.loop-i in
    let plans = plans_of a.bytes.now in
    let at = 2 * c.slot_at.result in
    let zero-at = ap (λ (n : ℕ). set (set now.ring (2 * n) 0) (2 * n + 1) 0) c.slot_at.ensures in (
      length-set (set now.ring at 0) (at + 1) 0 ∙ length-set now.ring at 0 ∙ now.invariant.0,
      cleared_next now.i a.to plans now.ring _ (omega arith) (omega (arith, plans_many a.bytes.now)) zero-at ∙ now.invariant.1,
    )
