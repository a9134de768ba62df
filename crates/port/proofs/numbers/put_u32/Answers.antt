-- The library's bytes of the number are the layout's.
use Rattle.std.proofs.Common.{ap, ◌∙◌, arith}
use lib.Seq.{sets}
use Rattle.port.proofs.Laws.Numbers.{u32_written}
use Rattle.port.proofs.numbers.put_u32.Goals as goal

pub returns : goal.returns
returns c = c.put.ensures ∙ ap (sets c.args.bytes.now c.args.at) (c.to_le_bytes.ensures ∙ u32_written c.args.x (omega arith))
