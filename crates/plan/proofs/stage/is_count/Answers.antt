-- Without bytes there is one part, and there is no count of none; else the count is the one that both tests let through.
use Rattle.std.proofs.Common.{pos_of_ne-zero}
use Rattle.plan.proofs.Laws.Split.{count_by}
use Rattle.plan.proofs.stage.is_count.Goals as goal

pub returns : goal.returns
returns c =
    let a = c.args in
    count_by a.len a.part a.count c.requires (pos_of_ne-zero c.if-len-eq0.false) (pos_of_ne-zero c.if-count-eq0.false)
