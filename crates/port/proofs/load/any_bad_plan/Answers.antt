-- One turn of the walk, and its end.
use Rattle.std.proofs.Common.{◌*◌, ◌+◌, drop, ◌∙◌, arith}
use Rattle.port.specs.Layout.{is_bad_plan_bytes}
use Rattle.port.proofs.Laws.Tables.{any_first, any_found, any_on, any_end}
use Rattle.port.proofs.load.any_bad_plan.Goals as goal

pub loop-i-init : goal.loop-i-init
loop-i-init c = any_first is_bad_plan_bytes 7 c.args.m (drop 1320 c.args.bytes.now)

pub returns-then-is_bad_plan_at : goal.returns-then-is_bad_plan_at
returns-then-is_bad_plan_at c =
    any_found is_bad_plan_bytes 7 c.args.m c.loop-i.i (1320 + 7 * c.loop-i.i) c.args.bytes.now (omega arith) c.is_bad_plan_at.ensures c.if-is_bad_plan_at.true
    ∙ c.loop-i.invariant

pub loop-i-preserved : goal.loop-i-preserved
loop-i-preserved c =
    any_on is_bad_plan_bytes 7 c.args.m c.loop-i.i 1320 c.args.bytes.now (omega arith) c.is_bad_plan_at.ensures c.if-is_bad_plan_at.false ∙ c.loop-i.invariant

pub returns : goal.returns
returns c = any_end is_bad_plan_bytes 7 c.args.m c.loop-i.i (drop (1320 + 7 * c.loop-i.i) c.args.bytes.now) (omega arith) ∙ c.loop-i.invariant
