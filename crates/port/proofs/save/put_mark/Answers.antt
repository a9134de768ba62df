-- Two stores, one behind the other: one law says that together they are the mark.
use Rattle.port.proofs.Laws.Head.{mark_put}
use Rattle.port.proofs.save.put_mark.Goals as goal

pub returns : goal.returns
returns c =
    mark_put c.args.bytes.now
    c.put.ensures c.put_u16.ensures
