-- The invariant: the bytes hold the session with other requests, and the outcome put into what is still to do of them gives the goal. The measure
-- is how many requests are left.
use Rattle.std.proofs.Common.{◌∙◌, arith}
use Rattle.port.proofs.Laws.Steps.{turn_held, turn_left}
use Rattle.port.proofs.end.fail_at.Goals as goal

pub loop-i-preserved : goal.loop-i-preserved
loop-i-preserved c =
    let a = c.args in
    let now = c.loop-i in
    let next = c.put_outcome.new.bytes in (
      omega arith,
      c.put_outcome.auto.bytes ∙ now.invariant.1,
      turn_held a.bytes.now now.bytes next a.outcome now.i a.to c.requires.0
          now.invariant.2 (omega arith) c.requires.3 c.put_outcome.ensures,
      turn_left a.bytes.now now.bytes next a.outcome now.i a.to c.requires.0
          now.invariant.2 (omega arith) c.requires.3 c.put_outcome.ensures
          ∙ now.invariant.3,
    )
