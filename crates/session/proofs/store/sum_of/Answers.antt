-- The sum of the definition is std's.
use Rattle.std.proofs.Common.{◌≡◌, ◌∙◌, refl, sym, rules}
use Rattle.std.proofs.iter.runs.Sources.{sums}
use Rattle.std.specs.List.{sum_by}
use Rattle.std.proofs.lemmas.List.Recursion.{is_sum_by}
use Rattle.session.specs.Way.{sum}
use Rattle.session.proofs.store.sum_of.Goals as goal

pub returns : goal.returns
returns c =
    let L = c.args.lengths.now in
    let by : c.sum.result ≡ sum_by (λ x. x) L = search (rules, sums) in
    by ∙ sym (is_sum_by sum (λ x. x) refl (λ _ _. refl) L)
