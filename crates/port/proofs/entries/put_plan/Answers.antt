-- Fields written one behind the other: one law says that together they are the plan's bytes.
use Rattle.port.proofs.Laws.Entries.{plan_put}
use Rattle.port.proofs.entries.put_plan.Goals as goal

pub returns : goal.returns
returns c =
    let a =
    c.args in
    plan_put a.bytes.now a.at a.plan c.status_tag.result
    c.put_u16.ensures
    c.put_u16-2.ensures
    c.put_u16-3.ensures c.status_tag.ensures
    c.put.ensures
