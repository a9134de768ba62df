-- Fields read one behind the other: one law says that together they are the plan.
use Rattle.port.proofs.Laws.Entries.{plan_at}
use Rattle.port.proofs.entries.plan_at.Goals as goal

pub returns : goal.returns
returns c =
    let a = c.args in
    plan_at a.bytes.now a.at c.u16_at.result c.u16_at-2.result
    c.u16_at-3.result c.byte_at.result c.status_of.result c.u16_at.ensures
    c.u16_at-2.ensures c.u16_at-3.ensures c.byte_at.ensures c.status_of.ensures
