-- The library's number of the bytes read is the layout's.
use Rattle.std.proofs.Common.{drop, ap, ◌∙◌}
use Rattle.std.specs.Int.{w16, from_le_bytes}
use Rattle.port.proofs.Laws.Numbers.{u16_read}
use Rattle.port.proofs.numbers.u16_at.Goals as goal

pub returns : goal.returns
returns c = c.from_le_bytes.ensures ∙ ap (from_le_bytes w16) c.part.ensures ∙ u16_read (drop c.args.at c.args.bytes.now)
