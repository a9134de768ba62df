-- The number of packets of a request stands 12 bytes into its entry.
use Rattle.std.proofs.Common.{◌∙◌, arith}
use Rattle.port.proofs.Laws.Walks.{packets_there}
use Rattle.port.proofs.drain.packets_at.Goals as goal

pub returns : goal.returns
returns c = (
  c.u16_at.ensures ∙ packets_there c.args.bytes.now c.args.i c.requires.1,
  omega (arith, c.u16_at.type_inv),
)
