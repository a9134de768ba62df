-- The invariant: the bytes hold, in the place of those at the beginning, the session with its plans as they are now; what is left to settle of them
-- gives the settled table, what is left to add gives the sum, and the slots of those left are in the ring.
use Rattle.std.proofs.Common.{◌≡◌, ℕ, ◌+◌, ◌*◌, ◌<◌, ◌≤◌, length, get_or, drop, refl, ap, ◌∙◌, le_trans, lt_of_lt_of_le, zero-add, arith}
use native.Mathlib.Nat.{min-le_right}
use lib.Seq.{slice}
use Rattle.session.specs.Session.{blank_plan, packets_of}
use Rattle.session.specs.Settle.{settled_by, settled_plan}
use Rattle.session.specs.declared.types.IsoPacketPlan.{IsoPacketPlan}
use Rattle.port.specs.Layout.{plan_of, session_of, requests_in}
use Rattle.port.specs.Places.{requests_of, plans_of}
use Rattle.port.proofs.Canonical.{loaded_left}
use Rattle.port.proofs.Laws.Placed.{plan_there, plans_many}
use Rattle.port.proofs.Laws.Walks.{plan_turn}
use Rattle.port.proofs.Laws.Settling.{slots_turn, plans_turn, sum_turn}
use Rattle.port.proofs.drain.settle_plans_at.Goals as goal

pub loop-i-init : goal.loop-i-init
loop-i-init c =
    let start = c in
    let xs = start.args.bytes.now in (
      refl,
      omega arith,
      loaded_left xs start.requires.0 (λ i. omega (arith, c.slice_known-1.given i)),
      refl,
      zero-add _,
      start.requires.3,
    )

pub loop-i-preserved : goal.loop-i-preserved
loop-i-preserved c =
    let within : c.args.to ≤ 1024 = let xs = c.args.bytes.now in le_trans c.requires.2 (min-le_right (packets_of (slice 0 (requests_in (session_of xs)) (requests_of xs))) 1024) in
    let start = c in
    let a = start.args in
    let now = c.loop-i in
    let slot = c.slot_at in
    let after = c.settle_plan_at-sum in
    let xs = a.bytes.now in
    let plans = plans_of now.bytes in
    let here = get_or plans now.i blank_plan in
    let ring = a.ring.now in
    let f = settled_plan a.direction ring in
    let less : now.i < a.to = omega arith in
    let below : now.i < 1024 = omega (arith, within) in
    let many : a.to ≤ length plans = omega (arith, within, plans_many now.bytes) in
    let word = get_or ring (2 * slot.result) 0 in
    let v = settled_by a.direction (plan_of (drop (1320 + 7 * now.i) now.bytes)) word in
    let ev : v ≡ f here =
    ap (λ (p : IsoPacketPlan). settled_by a.direction p word) (plan_there now.bytes now.i blank_plan below)
    ∙ ap (λ (n : ℕ). settled_by a.direction here (get_or ring (2 * n) 0)) slot.ensures in
    let turn = plan_turn xs start.requires.0 (session_of xs) now.i v (lt_of_lt_of_le less start.requires.2) now.invariant.2 after.ensures.2 in (
      after.auto.bytes ∙ now.invariant.0,
      omega arith,
      turn.1,
      plans_turn f now.i a.to plans less many turn.0 ev ∙ now.invariant.3,
      sum_turn f now.i a.to plans less many turn.0 ev now.sum after.result after.ensures.0 ∙ now.invariant.4,
      slots_turn now.i a.to plans ring v turn.0 now.invariant.5,
    )
