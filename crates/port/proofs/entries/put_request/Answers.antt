-- Fields written one behind the other: one law says that together they are the request's bytes.
use Rattle.port.proofs.Laws.Entries.{request_put}
use Rattle.port.proofs.entries.put_request.Goals as goal

pub returns : goal.returns
returns c =
    let a =
    c.args in
    request_put a.bytes.now a.at a.request c.from.result
    c.put_u64.ensures
    c.put_u32.ensures
    c.put_u16.ensures c.from.ensures
    c.put_tagged.ensures
