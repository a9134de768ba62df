-- `plan_data` lays out one stage after the other. The invariant: what is still to do, at the array and the plan now, gives what was to do at
-- first; with the bounds of its numbers, so that no sum wraps and every stage fits.
use Rattle.std.proofs.Common.{◌≡◌, length}
use Rattle.plan.specs.Planning.{laid_out}
use Rattle.plan.proofs.Laws.Data.{ahead, with_stages, Sized}
use Rattle.plan.proofs.data.plan_data.Given as goal

abbrev pub invariant-loop-i : goal.invariant-loop-i
invariant-loop-i l =
    Sized l.request l.hcchar l.m l.count l.most (length l.initial.array)
    × (length l.array ≡ length l.initial.array)
    × (l.plan.count ≡ l.i)
    × (laid_out (ahead l.hcchar l.m l.most l.plan l.count l.request.len l.request.base l.i) l.array
    ≡ laid_out (ahead l.hcchar l.m l.most l.initial.plan l.count l.request.len l.request.base 0) l.initial.array)
    × (with_stages l.m l.plan (ahead l.hcchar l.m l.most l.plan l.count l.request.len l.request.base l.i)
    ≡ with_stages l.m l.initial.plan (ahead l.hcchar l.m l.most l.initial.plan l.count l.request.len l.request.base 0))
