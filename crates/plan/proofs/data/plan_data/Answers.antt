-- `plan_data` lays out one stage after the other: a turn gives what the laws of `Laws.Data` say of it.
use Rattle.std.proofs.Common.{◌≡◌, ℕ, ◌+◌, ◌*◌, List, [], length, sym, refl, ap, ap₂, ◌∙◌, arith}
use mathlib.Core.Path.{subst⁻¹}
use Rattle.plan.specs.declared.types.Dwc2DataPlan.{Dwc2DataPlan}
use Rattle.plan.specs.declared.types.Dwc2TransferStage.{Dwc2TransferStage}
use Rattle.plan.specs.Planning.{split_of, laid_out}
use Rattle.plan.specs.StageLength.{StageFits}
use Rattle.plan.specs.DataStages.{size_of, data_hcchar, data_stage, data_stages, stages_from}
use Rattle.plan.proofs.Laws.Data.{ahead, ahead_all, ahead_none, with_stages, turn, stages_within, planned_is, stages_few, stage_fits, sized}
use Rattle.plan.proofs.data.plan_data.Goals as goal

pub overflow_mul-before : goal.overflow_mul-before
overflow_mul-before c = let w = stages_within _ _ _ _ _ _ c.loop-i.i c.loop-i.invariant.0 (omega arith) in omega arith

pub overflow_add-over : goal.overflow_add-over
overflow_add-over c = let w = stages_within _ _ _ _ _ _ c.loop-i.i c.loop-i.invariant.0 (omega arith) in omega arith

pub overflow_sub-request : goal.overflow_sub-request
overflow_sub-request c = stages_within _ _ _ _ _ _ c.loop-i.i c.loop-i.invariant.0 (omega arith)

pub build_stage_descs-requires : goal.build_stage_descs-requires
build_stage_descs-requires c =
    let l = c.loop-i in
    let h = c.data_hcchar-hcchar.result in
    let addr = c.args.request.base + l.i * (c.split_dma_lengths-split.result.chunk * 256) in
    subst⁻¹
    (λ (s : Dwc2TransferStage). StageFits s (length l.array))
    (c.data_stage-stage.ensures ∙ ap₂ (λ (d n : ℕ). data_stage h d n addr (l.i * 256) l.plan.toggle.0) c.min.ensures c.min-in-loop-i.ensures)
    (stage_fits _ _ _ _ _ _ l.i l.invariant.0 (omega arith) l.array l.plan.toggle.0 l.invariant.1)

pub add_stage-requires : goal.add_stage-requires
add_stage-requires c = let s = c.loop-i.invariant.0 in omega arith

pub loop-i-init : goal.loop-i-init
loop-i-init c = (
  sized c.args.request c.data_hcchar-hcchar.result c.size_of-m.result c.split_dma_lengths-split.result (length c.args.array.now) c.requires
      c.data_hcchar-hcchar.ensures c.size_of-m.ensures c.split_dma_lengths-split.ensures,
  refl,
  ap (λ (p : Dwc2DataPlan). p.count) c.blank_plan-plan.ensures,
  refl,
  refl,
)

pub loop-i-preserved : goal.loop-i-preserved
loop-i-preserved c =
    let l = c.loop-i in
    let s = l.invariant.0 in
    let h = c.data_hcchar-hcchar.result in
    let addr = c.args.request.base + l.i * (c.split_dma_lengths-split.result.chunk * 256) in
    let more : c.add_stage.new.plan.count ≡ l.plan.count + 1 = ap (λ (p : Dwc2DataPlan). p.count) c.add_stage.ensures in
    let step =
    turn _ _ _ _ _ _ l.i s (omega arith) l.plan c.add_stage.new.plan c.data_stage-stage.result l.array c.build_stage_descs.new.array l.invariant.2
    (c.data_stage-stage.ensures ∙ ap₂ (λ (d n : ℕ). data_stage h d n addr (l.i * 256) l.plan.toggle.0) c.min.ensures c.min-in-loop-i.ensures)
    c.build_stage_descs.ensures
    c.add_stage.ensures in (
      s,
      c.build_stage_descs.auto.array ∙ l.invariant.1,
      omega arith,
      step.0 ∙ l.invariant.3,
      step.1 ∙ l.invariant.4,
    )

-- what was to do at first is the plan's stages, and nothing is left of it
pub returns : goal.returns
returns c =
    let l = c.loop-i in
    let r = c.args.request in
    let s = l.invariant.0 in
    let h = c.data_hcchar-hcchar.result in
    let m = c.size_of-m.result in
    let split = c.split_dma_lengths-split.result in
    let most = split.chunk * 256 in
    let split_is : split ≡ split_of r.len (size_of r) = c.split_dma_lengths-split.ensures ∙ ap (split_of r.len) c.size_of-m.ensures in
    let start : ahead h m most c.blank_plan-plan.result split.count r.len r.base 0 ≡ data_stages r =
    ap (λ (p : Dwc2DataPlan). ahead h m most p split.count r.len r.base 0) c.blank_plan-plan.ensures
    ∙ ahead_all h m most split.count r.len r.base r.toggle s.some
    ∙ (λ j. stages_from (c.data_hcchar-hcchar.ensures j) (c.size_of-m.ensures j) 4 (split_is j).count r.len r.base 0 r.toggle.0) in
    let done : [] ≡ ahead h m most l.plan split.count r.len r.base l.i = sym (ahead_none h m most split.count r.len r.base l.i l.plan (omega arith)) in (
      ap (with_stages m l.plan) done
          ∙ l.invariant.4
          ∙ (λ j. with_stages (c.size_of-m.ensures j) (c.blank_plan-plan.ensures j) (start j))
          ∙ planned_is (size_of r) r.toggle (data_stages r)
          (stages_few (data_hcchar r) (size_of r) 4 (split_of r.len (size_of r)).count r.len r.base 0 r.toggle.0),
      ap (λ (ss : List Dwc2TransferStage). laid_out ss l.array) done
          ∙ l.invariant.3
          ∙ ap (λ (ss : List Dwc2TransferStage). laid_out ss c.args.array.now) start,
    )
