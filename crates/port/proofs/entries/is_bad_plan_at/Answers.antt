-- The status alone can be bad: its test is the test of the entry.
use Rattle.port.proofs.Laws.Entries.{bad_plan_at}
use Rattle.port.proofs.entries.is_bad_plan_at.Goals as goal

pub returns : goal.returns
returns c = bad_plan_at c.args.bytes.now c.args.at c.byte_at.result c.byte_at.ensures
