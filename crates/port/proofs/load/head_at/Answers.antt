-- The head's fields as they are read: one law says that together they are the head of the bytes.
use Rattle.port.proofs.Laws.Head.{head_at}
use Rattle.port.proofs.load.head_at.Goals as goal

pub returns : goal.returns
returns c =
    head_at c.args.bytes.now c.u64_at.ensures
    c.byte_at.ensures c.u16_at.ensures c.u32_at.ensures
    c.u16_at-2.ensures c.u16_at-3.ensures
