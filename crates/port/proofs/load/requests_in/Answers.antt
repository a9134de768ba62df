-- The count that stands in the bytes, or the size of the table, whichever is less.
use Rattle.std.proofs.Common.{ℕ, min, ap, ◌∙◌}
use Rattle.port.proofs.Laws.Walks.{count_there}
use Rattle.port.proofs.load.requests_in.Goals as goal

pub returns : goal.returns
returns c = c.min.ensures ∙ ap (λ (n : ℕ). min n 64) (c.u16_at.ensures ∙ count_there c.args.bytes.now)
