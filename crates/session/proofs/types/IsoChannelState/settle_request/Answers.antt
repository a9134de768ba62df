-- Settling is its definition at what the calls answer.
use Rattle.std.proofs.Common.{◌≡◌, ◌≤◌, ◌∙◌, ap, ℕ, List, length, get_or, set, arith}
use Rattle.session.specs.declared.types.IsoOutcome.TheVariants.{Done}
use Rattle.session.specs.declared.types.IsoPacketPlan.{IsoPacketPlan}
use Rattle.session.specs.declared.types.IsoChannelState.{IsoChannelState}
use Rattle.session.specs.Session.{blank_request}
use Rattle.session.specs.Settle.{oldest_from, oldest_to, moved_total, one_more, slots_cleared}
use Rattle.session.specs.Reclaim.{plans_begin, plans_end}
use Rattle.session.proofs.Laws.Record.{held_sound}
use Rattle.session.proofs.Laws.Settled.{oldest_in, ring_by_lem, settled_by_lem}
use Rattle.session.proofs.Laws.Tables.{part}
use Rattle.session.proofs.types.IsoChannelState.settle_request.Goals as goal

pub returns : goal.returns
returns c =
    let a = c.args in
    let s = held_sound a.self c.well_formed.0 c.requires.0 in
    let at = c.from-at.ensures in
    let from = c.plans_begin-from in
    let to = c.plans_end-to in
    let begins : from.result ≡ oldest_from a.self = from.ensures ∙ ap (λ (n : ℕ). plans_begin n a.self) at in
    let ends : to.result ≡ oldest_to a.self = to.ensures.0 ∙ ap (λ (n : ℕ). plans_end n a.self) at in
    let forward : from.result ≤ to.result = omega (arith, from.ensures, to.ensures.1) in
    let plans = c.settle_plans-plans in
    let fits : oldest_to a.self ≤ length a.self.plans = omega (arith, s.plans_long, s.all_few, oldest_in a.self s c.requires.1) in
    let sum = c.moved_total.ensures ∙ ap moved_total (part from.result to.result plans.result forward) in
    let cleared =
    c.clear_slots.ensures ∙ ap (λ (ps : List IsoPacketPlan). slots_cleared ps a.ring.now) (part from.result to.result a.self.plans forward) in
    let built : ℕ → IsoChannelState =
    λ n. record {
      cfg = a.self.cfg;
      head = one_more a.self.head;
      fatal = a.self.fatal;
      requests =
          set a.self.requests n (record {
            id = (get_or a.self.requests n blank_request).id;
            packets = (get_or a.self.requests n blank_request).packets;
            actual_length = c.moved_total.result;
            outcome = Done;
          });
      plans = plans.result;
    } in (
      ap built at ∙ settled_by_lem a.self a.ring.now from.result to.result begins ends c.moved_total.result plans.result fits plans.ensures sum,
      ring_by_lem a.self a.ring.now from.result to.result begins ends c.clear_slots.new.ring cleared,
    )
