-- The byte at an offset is the first one of the rest from there.
use Rattle.port.proofs.Laws.Numbers.{byte_at}
use Rattle.port.proofs.numbers.byte_at.Goals as goal

pub returns : goal.returns
returns c = byte_at c.args.bytes.now c.args.at
