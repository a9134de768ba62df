-- A stage that is not refused has a chain that fits, by which an IN stage is counted.
use Rattle.std.proofs.Common.{length, arith}
use Rattle.plan.proofs.Laws.Chains.{planned_fits}
use Rattle.plan.proofs.stage.stage_moved.Goals as goal

pub chain_moved-requires : goal.chain_moved-requires
chain_moved-requires c = planned_fits c.args.stage (length c.args.array.now) (omega arith) c.requires
