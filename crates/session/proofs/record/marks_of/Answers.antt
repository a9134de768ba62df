-- None of the plans passed is bad, and a slot is marked just where one of them has it.
use Rattle.std.proofs.Common.{refl, sym, ap, ap₂, ◌∙◌, ℕ, Bool, true, false, ◌||◌, eqb, List, take, get_or, set, take_all}
use Rattle.std.proofs.Math.Seq.{take-suc}
use Rattle.std.proofs.lemmas.List.Folds.{list_any_more, list_any_at}
use Rattle.std.proofs.lemmas.List.Recursion.{or_push}
use native.Mathlib.Numerals.{add-one}
use lib.ListN.{length-set, get_or-replicate}
use Rattle.session.specs.declared.types.IsoPacketPlan.{IsoPacketPlan}
use Rattle.session.specs.Session.{blank_plan}
use Rattle.session.specs.Record.{is_bad_plan, any_bad_plan}
use Rattle.session.specs.Way.{is_held}
use Rattle.session.proofs.Laws.Held.{mark_set}
use Rattle.session.proofs.record.marks_of.Goals as goal

pub loop-plan-init : goal.loop-plan-init
loop-plan-init c = (refl, (λ k h. get_or-replicate 256 k false false h), refl)

pub returns-then-is_bad_plan : goal.returns-then-is_bad_plan
returns-then-is_bad_plan c =
    let a = c.args in
    list_any_at (is_bad_plan a.limit a.slots) a.plans.now c.loop-plan.plan-index blank_plan c.loop-plan-test.true
    (sym c.is_bad_plan.ensures ∙ c.if-is_bad_plan.true)

pub loop-plan-preserved : goal.loop-plan-preserved
loop-plan-preserved c =
    let a = c.args in
    let plans = a.plans.now in
    let now = c.loop-plan in
    let i = now.plan-index in
    let plan = get_or plans i blank_plan in
    let good = sym c.is_bad_plan.ensures ∙ c.if-is_bad_plan.false in (
      length-set now.held plan.desc_index true ∙ now.invariant.0,
      (λ k h.
          let held : List IsoPacketPlan → Bool = (λ ps. is_held ps k) in
          mark_set now.held (set now.held plan.desc_index true) plan.desc_index k h now.invariant.0 refl
          ∙ ap (λ (b : Bool). b || eqb plan.desc_index k) (now.invariant.1 k h)
          ∙ sym (or_push held (λ (p : IsoPacketPlan). eqb p.desc_index k) refl (λ _ _. refl) (take i plans) plan)
          ∙ sym (ap held (ap (λ (n : ℕ). take n plans) (add-one i) ∙ take-suc plans i blank_plan c.loop-plan-test.true))),
      list_any_more (is_bad_plan a.limit a.slots) plans i blank_plan c.loop-plan-test.true ∙ ap₂ (λ (x y : Bool). x || y) now.invariant.2 good,
    )

pub returns : goal.returns
returns c =
    let a = c.args in
    let now = c.loop-plan in
    let whole = take_all now.plan-index a.plans.now c.loop-plan-test.false in (
      sym (ap (any_bad_plan a.limit a.slots) whole) ∙ now.invariant.2,
      λ k h. now.invariant.1 k h ∙ ap (λ (ps : List IsoPacketPlan). is_held ps k) whole,
    )
