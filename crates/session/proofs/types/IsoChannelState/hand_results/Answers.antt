-- The results that were written are those of the request.
use Rattle.std.proofs.Common.{◌≡◌, ◌∙◌, ap, true, List, map, arith, rules, tests}
use Rattle.std.proofs.lemmas.List.Edits.{sets}
use Rattle.session.specs.declared.types.IsoPacketPlan.{IsoPacketPlan}
use Rattle.session.specs.Reclaim.{is_done, request_of, result_word}
use Rattle.session.proofs.Laws.Handed.{handed_by}
use Rattle.session.proofs.Laws.Tables.{part}
use Rattle.session.proofs.types.IsoChannelState.hand_results.Goals as goal

pub returns-then-eq : goal.returns-then-eq
returns-then-eq c =
    let a = c.args in
    let from = c.plans_begin-from in
    let to = c.plans_end-to in
    let done : is_done (request_of a.at a.self.now).outcome ≡ true = search (rules, tests) in
    handed_by a.at a.self.now from.result to.result from.ensures to.ensures.0 a.results.now c.write_results.new.results
    done
    (c.write_results.ensures
    ∙ ap (λ (ps : List IsoPacketPlan). sets a.results.now 0 (map result_word ps))
    (part from.result to.result a.self.now.plans (omega (arith, from.ensures, to.ensures.1))))
