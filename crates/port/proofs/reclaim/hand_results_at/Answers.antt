-- The invariant: the results still to write, written into the lent ones as they are now, give the goal.
use Rattle.std.proofs.Common.{◌≡◌, ℕ, ◌+◌, ◌∷◌, map, set, sym, ap, ◌∙◌, arith, length-set}
use lib.Seq.{slice, sets}
use Rattle.session.specs.Session.{blank_plan}
use Rattle.session.specs.Reclaim.{result_word}
use Rattle.session.proofs.Laws.Lists.{write_next}
use Rattle.port.specs.Places.{plans_of}
use Rattle.port.proofs.Laws.Placed.{plan_there, plans_many}
use Rattle.port.proofs.reclaim.hand_results_at.Goals as goal

pub loop-at-preserved : goal.loop-at-preserved
loop-at-preserved c =
    let a = c.args in
    let now = c.loop-at in
    let xs = a.bytes.now in
    let i = a.from + now.at in
    let v = c.result_at.result in
    let word = c.result_at.ensures ∙ ap result_word (plan_there xs i blank_plan (omega arith)) in
    let on : a.from + (now.at + 1) ≡ i + 1 = omega arith in (
      length-set now.results now.at v ∙ now.invariant.0,
      ap (λ (k : ℕ). sets (set now.results now.at v) (now.at + 1) (map result_word (slice k a.to (plans_of xs)))) on
          ∙ write_next (map result_word) now.at i a.to (plans_of xs) blank_plan now.results v (omega arith) (omega (arith, plans_many xs))
          (λ rest. ap (λ (x : ℕ). x ∷ map result_word rest) (sym word))
          ∙ now.invariant.1,
    )
