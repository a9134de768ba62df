-- The library's number of the bytes read is the layout's.
use Rattle.std.proofs.Common.{drop, ap, ◌∙◌}
use Rattle.std.specs.Int.{w64, from_le_bytes}
use Rattle.port.proofs.Laws.Numbers.{u64_read}
use Rattle.port.proofs.numbers.u64_at.Goals as goal

pub returns : goal.returns
returns c = c.from_le_bytes.ensures ∙ ap (from_le_bytes w64) c.part.ensures ∙ u64_read (drop c.args.at c.args.bytes.now)
