-- The first long packet of the definition is the place that std's `position` answers.
use Rattle.std.proofs.Common.{ℕ, ◌∙◌, refl, sym, ap, cond, ltb, length, Some, None, arith, rules, tests}
use Rattle.std.proofs.lemmas.Iterator.{YieldsList-from_slice}
use Rattle.std.proofs.lemmas.Iterator.Search.{position_from_yields_List}
use Rattle.std.proofs.lemmas.List.Recursion.{is_position_or_len}
use Rattle.session.specs.Way.{first_long}
use Rattle.session.proofs.store.first_long.Goals as goal

pub returns : goal.returns
returns c =
    let L = c.args.lengths.now in
    let limit = c.args.limit in
    position_from_yields_List (ltb limit) _ _ c.position.result c.position.ensures.ran (YieldsList-from_slice L cc) (λ x b q k. search (rules, tests))
    ∙ ap (λ (n : ℕ). cond (ltb n (length L)) (Some n) None) (sym (is_position_or_len (first_long limit) (ltb limit) refl (λ x xs. ap (cond (ltb limit x) 0) (omega arith)) L))
