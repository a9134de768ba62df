-- Fields written one behind the other: one law says that together they are its bytes.
use Rattle.port.proofs.Laws.Entries.{tagged_put}
use Rattle.port.proofs.entries.put_tagged.Goals as goal

pub returns : goal.returns
returns c =
    let a = c.args in
    tagged_put a.bytes.now a.at a.t c.put.ensures c.put_u32.ensures
