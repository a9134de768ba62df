-- The invariant: a slot is marked, or a pending plan still to be passed has it, just where a pending plan has it.
use Rattle.std.proofs.Common.{◌≡◌, ℕ, ◌+◌, ◌-◌, ◌<◌, ◌≤◌, true, false, ◌||◌, length, get_or, set, replicate, refl, ap, ◌∙◌, ap₂, arith, length-set}
use mathlib.Core.Path.{subst⁻¹}
use lib.Seq.{slice}
use Rattle.session.specs.declared.types.IsoPacketPlan.{IsoPacketPlan}
use Rattle.session.specs.Session.{blank_plan}
use Rattle.session.specs.Way.{is_held, pending_plans}
use Rattle.session.proofs.Laws.Sums.{ring_few, packets_split}
use Rattle.session.proofs.Laws.Held.{clash_marked, marks_first, marks_all, mark_set, mark_pending}
use Rattle.port.specs.Layout.{session_of}
use Rattle.port.proofs.Laws.Placed.{plan_there, plans_many}
use Rattle.port.proofs.Laws.Walks.{sound_there}
use Rattle.port.proofs.marks.clash_at.Goals as goal

pub loop-j-init : goal.loop-j-init
loop-j-init c =
    let a = c.args in
    let l = (session_of a.bytes.now).plans in
    let from = a.all - a.pending in
    let first : from + (c.saturating_sub-j.result - from) ≡ from + (0 - from) = omega (arith, c.saturating_sub-j.ensures) in (
      omega (arith, c.saturating_sub-j.ensures),
      refl,
      λ k h. ap (λ (n : ℕ). get_or (replicate 256 false) k false || is_held (slice n a.all l) k) first ∙ marks_first from a.all l k h,
    )

pub bounds-held-plan : goal.bounds-held-plan
bounds-held-plan c =
    let good = sound_there c.args.bytes.now c.requires.1 in
    let within : c.args.all ≤ 1024 = omega (arith, good.all_few, c.requires.2) in
    let here : c.plan_at-plan.result ≡ get_or (session_of c.args.bytes.now).plans
    c.loop-j.j blank_plan = let start = c in
    let now = c.loop-j in
    let xs = start.args.bytes.now in
    c.plan_at-plan.ensures ∙ plan_there xs now.j blank_plan (omega (arith, within, c.loop-j-test.true)) in
    let slot_below : c.plan_at-plan.result.desc_index < 256 = let start = c in
    let s = session_of start.args.bytes.now in
    let in_use = good.plan c.loop-j.j (omega (arith, start.requires.2)) in
    subst⁻¹ (λ (p : IsoPacketPlan). p.desc_index < 256) here (omega (arith, in_use.slot, ring_few s.cfg.speed)) in
    omega (arith, slot_below, c.loop-j.invariant.1)

pub loop-j-preserved : goal.loop-j-preserved
loop-j-preserved c =
    let good = sound_there c.args.bytes.now c.requires.1 in
    let within : c.args.all ≤ 1024 = omega (arith, good.all_few, c.requires.2) in
    let here : c.plan_at-plan.result ≡ get_or (session_of c.args.bytes.now).plans
    c.loop-j.j blank_plan = let start = c in
    let now = c.loop-j in
    let xs = start.args.bytes.now in
    c.plan_at-plan.ensures ∙ plan_there xs now.j blank_plan (omega (arith, within, c.loop-j-test.true)) in
    let a = c.args in
    let l = (session_of a.bytes.now).plans in
    let now = c.loop-j in
    let from = a.all - a.pending in
    let slot = c.plan_at-plan.result.desc_index in
    let at = ap (λ (p : IsoPacketPlan). p.desc_index) here in
    let less : now.j < a.all = omega arith in
    let fits : a.all ≤ length l = omega
    (arith, within, plans_many a.bytes.now) in (
      omega arith,
      simp length-set now.invariant.1,
      λ k h. mark_pending now.held (set now.held slot true) l from now.j a.all slot k now.invariant.0 less fits at
          (mark_set now.held (set now.held slot true) slot k h now.invariant.1 refl)
          ∙ now.invariant.2 k h,
    )

pub returns : goal.returns
returns c =
    let good = sound_there c.args.bytes.now c.requires.1 in
    let pending_in : c.args.pending ≤ c.args.all = let s = session_of c.args.bytes.now in
    let g = good in
    omega (
      arith,
      c.requires.2,
      c.requires.3,
      packets_split s.head.done s.head.count s.requests g.done_in (omega (arith, g.requests_long, g.count_in)),
    ) in
    λ few.
    let start = c in
    let a = start.args in
    let s = session_of a.bytes.now in
    let now = c.loop-j in
    let from = a.all - a.pending in
    let same : (k : ℕ) → k < 256 → get_or now.held k false ≡ is_held (pending_plans s) k =
    λ k h.
    marks_all now.held s.plans (from + (now.j - from)) a.all k (omega (arith, now.invariant.0, pending_in))
    ∙ now.invariant.2 k h
    ∙ ap₂ (λ (n p : ℕ). is_held (slice (n - p) n s.plans) k) start.requires.2 start.requires.3 in
    c.clash.ensures ∙ clash_marked a.cfg now.held (pending_plans s) same a.insert a.n
