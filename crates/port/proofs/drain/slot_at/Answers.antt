-- The slot of a plan stands 2 bytes into its entry.
use Rattle.std.proofs.Common.{◌∙◌}
use Rattle.port.proofs.Laws.Walks.{slot_there}
use Rattle.port.proofs.drain.slot_at.Goals as goal

pub returns : goal.returns
returns c = c.u16_at.ensures ∙ slot_there c.args.bytes.now c.args.i c.requires.1
