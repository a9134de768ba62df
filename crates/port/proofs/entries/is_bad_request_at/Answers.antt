-- The outcome alone can be bad: its test is the test of the entry.
use Rattle.port.proofs.Laws.Entries.{bad_request_at}
use Rattle.port.proofs.entries.is_bad_request_at.Goals as goal

pub returns : goal.returns
returns c =
    let a = c.args in
    bad_request_at a.bytes.now a.at c.tagged_at.result c.is_bad_tagged.result c.tagged_at.ensures c.is_bad_tagged.ensures
