-- The chain's sum is the definition's.
use Rattle.std.proofs.Common.{◌≡◌, ◌∙◌, rules}
use Rattle.std.specs.List.{sum_by}
use Rattle.session.specs.declared.types.IsoRequest.{IsoRequest}
use Rattle.session.proofs.Laws.Tables.{packets_sum}
use Rattle.session.proofs.tables.packets_of.Goals as goal

pub returns : goal.returns
returns c =
    let rs = c.args.requests.now in
    let sum : c.sum.result ≡ sum_by (λ (r : IsoRequest). r.packets) rs = search rules in
    sum ∙ packets_sum rs
