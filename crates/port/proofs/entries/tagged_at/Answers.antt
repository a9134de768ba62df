-- Three fields read one behind the other: one law says that together they are the tagged number.
use Rattle.port.proofs.Laws.Entries.{tagged_at}
use Rattle.port.proofs.entries.tagged_at.Goals as goal

pub returns : goal.returns
returns c =
    let a = c.args in
    tagged_at a.bytes.now a.at c.byte_at.result c.byte_at-2.result c.u32_at.result
    c.byte_at.ensures c.byte_at-2.ensures c.u32_at.ensures
