-- The chain's sum is the definition's.
use Rattle.std.proofs.Common.{◌≡◌, ◌∙◌, rules}
use Rattle.std.specs.List.{sum_by}
use Rattle.session.specs.declared.types.IsoPacketPlan.{IsoPacketPlan}
use Rattle.session.proofs.Laws.Tables.{moved_sum}
use Rattle.session.proofs.settle.moved_total.Goals as goal

pub returns : goal.returns
returns c =
    let ps = c.args.plans.now in
    let sum : c.sum.result ≡ sum_by (λ (p : IsoPacketPlan). p.actual) ps = search rules in
    sum ∙ moved_sum ps
