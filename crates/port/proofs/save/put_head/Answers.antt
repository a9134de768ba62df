-- Fields written one behind the other: one law says that together they are the head's bytes.
use Rattle.port.proofs.Laws.Head.{head_put}
use Rattle.port.proofs.save.put_head.Goals as goal

pub returns : goal.returns
returns c =
    let early =
    c in
    let a = early.args in
    head_put a.bytes.now a.head
    early.flag_tag.ensures
    early.put.ensures
    early.put_u64.ensures
    c.put_u32.ensures
    c.put_u16.ensures
    c.put_u16-2.ensures c.put_u16-3.ensures
