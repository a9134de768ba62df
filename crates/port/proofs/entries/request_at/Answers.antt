-- Fields read one behind the other: one law says that together they are the request.
use Rattle.port.proofs.Laws.Entries.{request_at_lem}
use Rattle.port.proofs.entries.request_at.Goals as goal

pub returns : goal.returns
returns c =
    let a = c.args in
    request_at_lem a.bytes.now a.at c.u64_at.result c.u16_at.result
    c.u32_at.result c.tagged_at.result c.from.result c.u64_at.ensures
    c.u16_at.ensures c.u32_at.ensures c.tagged_at.ensures c.from.ensures
