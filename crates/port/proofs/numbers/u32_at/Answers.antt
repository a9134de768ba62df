-- The library's number of the bytes read is the layout's.
use Rattle.std.proofs.Common.{drop, ap, ◌∙◌}
use Rattle.std.specs.Int.{w32, from_le_bytes}
use Rattle.port.proofs.Laws.Numbers.{u32_read}
use Rattle.port.proofs.numbers.u32_at.Goals as goal

pub returns : goal.returns
returns c = c.from_le_bytes.ensures ∙ ap (from_le_bytes w32) c.part.ensures ∙ u32_read (drop c.args.at c.args.bytes.now)
