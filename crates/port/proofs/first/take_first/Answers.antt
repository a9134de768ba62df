-- Taking out is settling and removing at what the walks leave: all that moves is in use, and covers what settling would have written.
use Rattle.std.proofs.Common.{◌≡◌, ◌≤◌, List, map, length, sym, refl, ap, ◌∙◌, arith}
use lib.Seq.{sets}
use Rattle.session.specs.declared.types.IsoPacketPlan.{IsoPacketPlan}
use Rattle.session.specs.Settle.{moved_total}
use Rattle.session.specs.Reclaim.{result_word, plans_end}
use Rattle.session.proofs.Laws.Settled.{ring_by_lem}
use Rattle.port.specs.Tags.{direction_of}
use Rattle.port.specs.Layout.{session_of}
use Rattle.port.proofs.Laws.Calls.{long_enough}
use Rattle.port.proofs.Laws.Closing.{closed_layout, requests_used}
use Rattle.port.proofs.Laws.First.{first_from, first_to, first_settled, first_results, first_taken}
use Rattle.port.proofs.Laws.Settling.{SlotsIn, slots_in}
use Rattle.port.proofs.Laws.Walks.{sound_there, count_there, direction_there}
use Rattle.port.proofs.first.take_first.Goals as goal

pub settle_results-total-requires : goal.settle_results-total-requires
settle_results-total-requires c =
    let long : 8488 ≤ length c.args.bytes.now = long_enough c.args.bytes.now refl c.requires.0.0 in
    let good = sound_there c.args.bytes.now c.requires.0.1 in
    let few : c.args.n ≤ 255 = omega (arith, c.requires.3, (good.request 0 (omega (arith, c.requires.2))).few) in
    let slots : SlotsIn 0 c.args.n (session_of c.args.bytes.now).plans c.args.ring.now = slots_in (session_of c.args.bytes.now) c.args.ring.now 0 c.args.n good (omega (arith, c.requires.4, c.requires.5)) c.requires.6 in
    let start = c in
    (long, omega (arith, few), omega (arith, few, start.requires.7), slots)

pub clear_slots_at-requires : goal.clear_slots_at-requires
clear_slots_at-requires c =
    let long : 8488 ≤ length c.args.bytes.now = long_enough c.args.bytes.now refl c.requires.0.0 in
    let good = sound_there c.args.bytes.now c.requires.0.1 in
    let few : c.args.n ≤ 255 = omega (arith, c.requires.3, (good.request 0 (omega (arith, c.requires.2))).few) in
    let slots : SlotsIn 0 c.args.n (session_of c.args.bytes.now).plans c.args.ring.now = slots_in (session_of c.args.bytes.now) c.args.ring.now 0 c.args.n good (omega (arith, c.requires.4, c.requires.5)) c.requires.6 in
    let start = c
    in (long, omega (arith, few), slots)

pub close_requests_at-requires : goal.close_requests_at-requires
close_requests_at-requires c =
    let good = sound_there c.args.bytes.now c.requires.0.1 in
    let ends : c.args.n ≡ plans_end 0 (session_of c.args.bytes.now) = omega (arith, c.requires.3) in
    let count_is : c.u16_at-count.result ≡ (session_of c.args.bytes.now).head.count = c.u16_at-count.ensures ∙ count_there c.args.bytes.now in
    let start = c in
    let a = start.args in
    let head = (session_of a.bytes.now).head in (
      closed_layout a.bytes.now 0 0 a.n a.all {head = head} start.requires.0.0 good.count_in refl refl ends start.requires.4
          c.close_plans_at.ensures,
      omega arith,
      omega (
        arith,
        count_is,
        requests_used a.bytes.now 0 0 a.n a.all {head = head} start.requires.0.0 good.count_in refl refl ends start.requires.4
            c.close_plans_at.ensures,
      ),
    )

pub overflow_sub-count : goal.overflow_sub-count
overflow_sub-count c =
    let count_is : c.u16_at-count.result ≡ (session_of c.args.bytes.now).head.count = c.u16_at-count.ensures ∙ count_there c.args.bytes.now in
    omega (
      arith,
      count_is,
      c.requires.2,
    )

pub returns : goal.returns
returns c =
    let good = sound_there c.args.bytes.now c.requires.0.1 in
    let count_is : c.u16_at-count.result ≡ (session_of c.args.bytes.now).head.count = c.u16_at-count.ensures ∙ count_there c.args.bytes.now in
    let direction_is : c.direction_of-direction.result ≡ (session_of c.args.bytes.now).cfg.direction = c.direction_of-direction.ensures ∙ ap direction_of c.byte_at.ensures ∙ direction_there c.args.bytes.now in
    let start = c in
    let a = start.args in
    let xs = a.bytes.now in
    let s = session_of xs in
    let ring = a.ring.now in
    let g = good in
    let settled = first_settled s ring g start.requires.1 start.requires.2 start.requires.3 direction_is
    in (
      c.settle_results-total.ensures.0 ∙ ap moved_total settled,
      first_taken xs ring start.requires.0.0 g start.requires.1 start.requires.2 start.requires.3 start.requires.4 start.requires.5 count_is
          c.close_plans_at.ensures c.close_requests_at.ensures c.put_u16.ensures,
      ring_by_lem s ring 0 a.n (sym (first_from s ring g start.requires.1 start.requires.2 start.requires.3))
          (sym (first_to s ring g start.requires.1 start.requires.2 start.requires.3)) _ c.clear_slots_at.ensures,
      first_results s ring g start.requires.1 start.requires.2 start.requires.3 a.results.now
          (c.settle_results-total.ensures.1 ∙ ap (λ (l : List IsoPacketPlan). sets a.results.now 0 (map result_word l)) settled),
    )
