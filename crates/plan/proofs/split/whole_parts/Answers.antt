-- `whole_parts` counts the parts: those that the length fills, one more for a rest, and one where there is none.
use Rattle.std.proofs.Common.{arith}
use Rattle.plan.proofs.Laws.Split.{parts_ceil}
use Rattle.plan.proofs.split.whole_parts.Goals as goal

pub returns : goal.returns
returns c = omega (arith, parts_ceil c.args.len c.args.part c.requires)
