-- The first four bytes of the settled plan stand there already: one law says that with the three written they are its seven.
use Rattle.std.proofs.Common.{arith}
use Rattle.port.proofs.Laws.Settling.{plan_settled}
use Rattle.port.proofs.drain.settle_plan_at.Goals as goal

pub returns : goal.returns
returns c =
    let start = c in
    let a = start.args in
    let planned = c.u16_at in
    let moved = c.moved_length-actual in
    let tag = c.error_tag in
    let settled =
    plan_settled a.bytes.now a.at
    (λ i. omega (arith, c.slice_known-1.given i))
    start.requires a.direction a.status planned.result moved.result tag.result planned.ensures moved.ensures
    c.put_u16.ensures tag.ensures
    c.put.ensures in
    (settled.0, omega arith, settled.1)
