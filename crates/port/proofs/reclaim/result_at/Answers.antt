-- A plan of the layout has a status of 0 or 1, so that the sum fits and the status stands for its own bit.
use Rattle.std.proofs.Common.{arith}
use Rattle.port.proofs.Laws.Entries.{status_few, result_is}
use Rattle.port.proofs.reclaim.result_at.Goals as goal

pub overflow_add-result-2 : goal.overflow_add-result-2
overflow_add-result-2 c =
    let start = c in
    let a = start.args in
    omega (arith, c.u16_at.type_inv, c.u16_at-2.type_inv, status_few a.bytes.now a.at c.byte_at-failed.ensures start.requires.1)

pub returns : goal.returns
returns c =
    let start = c in
    let a = start.args in
    result_is a.bytes.now a.at c.byte_at-failed.ensures start.requires.1 c.u16_at.ensures c.u16_at-2.ensures
