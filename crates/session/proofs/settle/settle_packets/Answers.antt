-- One plan more is settled.
use Rattle.std.proofs.Common.{◌∙◌, ap, set, get_or, arith}
use Rattle.std.proofs.lemmas.List.{get_or_default}
use Rattle.std.proofs.lemmas.List.Edits.{map_over_more}
use Rattle.session.specs.declared.types.IsoPacketPlan.{IsoPacketPlan}
use Rattle.session.specs.Session.{blank_plan}
use Rattle.session.specs.Settle.{settled_plan}
use Rattle.session.proofs.settle.settle_packets.Goals as goal

pub loop-plan-preserved : goal.loop-plan-preserved
loop-plan-preserved c =
    let now = c.loop-plan in
    let old : IsoPacketPlan = get_or now.packets now.plan-index blank_plan in
    ap (λ (p : IsoPacketPlan). set now.packets now.plan-index p) c.settled_plan.ensures
    ∙ map_over_more (settled_plan c.args.direction c.args.ring.now) c.args.packets.now now.packets now.plan-index old (omega arith) now.invariant (get_or_default now.packets now.plan-index blank_plan old (omega arith))
