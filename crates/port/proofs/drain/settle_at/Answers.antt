-- Settling is its definition at what the loops answer.
use Rattle.std.proofs.Common.{◌≡◌, ◌<◌, ◌≤◌, length, refl, ap, ◌∙◌, arith}
use Rattle.session.specs.Session.{all_packets}
use Rattle.session.proofs.Laws.Settled.{oldest_in}
use Rattle.session.specs.declared.types.IsoHead.{IsoHead}
use Rattle.port.specs.Tags.{direction_of}
use Rattle.port.specs.Layout.{session_of}
use Rattle.port.proofs.Laws.Calls.{long_enough}
use Rattle.port.proofs.Laws.Walks.{sound_there, direction_there, plans_in_lem}
use Rattle.port.proofs.Laws.Settling.{slots_in, slots_left, ring_settled, bytes_settled}
use Rattle.port.proofs.Laws.Placed.{head_there}
use Rattle.port.proofs.drain.settle_at.Goals as goal

pub settle_plans_at-total-requires : goal.settle_plans_at-total-requires
settle_plans_at-total-requires c =
    let good = sound_there c.args.bytes.now c.requires.0.1 in
    let ends : c.args.to ≤ all_packets (session_of c.args.bytes.now) = omega (arith, c.requires.3, oldest_in (session_of c.args.bytes.now) good c.requires.1) in
    let start = c in
    let a = start.args in
    let s = session_of a.bytes.now in
    let g = good in (
      start.requires.0.0,
      omega (arith, start.requires.2, start.requires.3),
      omega (arith, ends, plans_in_lem s g.count_in g.all_few),
      slots_in s a.ring.now a.from a.to g ends start.requires.4,
    )

pub clear_slots_at-requires : goal.clear_slots_at-requires
clear_slots_at-requires c =
    let long : 8488 ≤ length c.args.bytes.now = long_enough c.args.bytes.now refl c.requires.0.0 in
    let good = sound_there c.args.bytes.now c.requires.0.1 in
    let ends : c.args.to ≤ all_packets (session_of c.args.bytes.now) = omega (arith, c.requires.3, oldest_in (session_of c.args.bytes.now) good c.requires.1) in
    let direction_is : c.direction_of-direction.result ≡ (session_of
    c.args.bytes.now).cfg.direction = c.direction_of-direction.ensures
    ∙ ap direction_of c.byte_at.ensures
    ∙ direction_there c.args.bytes.now in
    let start = c in
    let a = start.args in
    let way = c in
    let plans = c.settle_plans_at-total in (
      omega (arith, long, plans.auto.bytes),
      omega (arith, ends, good.all_few),
      slots_left a.bytes.now a.ring.now a.from a.to way.direction_of-direction.result start.requires.0.0 good start.requires.1
          start.requires.2
          start.requires.3 direction_is plans.ensures.1 a.ring.now start.requires.4,
    )

pub request_at-request-requires : goal.request_at-request-requires
request_at-request-requires c =
    let long : 8488 ≤ length c.args.bytes.now = long_enough c.args.bytes.now refl c.requires.0.0 in
    let good = sound_there c.args.bytes.now c.requires.0.1 in
    let head_is : c.head_at-head.result ≡ (session_of c.args.bytes.now).head = c.head_at-head.ensures ∙ head_there c.args.bytes.now in
    let in_use : c.head_at-head.result.done < 64 = omega (
      arith,
      ap (λ (h : IsoHead). h.done) head_is,
      c.requires.1,
      good.count_in,
    ) in
    omega (
      arith,
      long,
      c.settle_plans_at-total.auto.bytes,
      in_use,
    )

pub put_request-requires : goal.put_request-requires
put_request-requires c =
    let long : 8488 ≤ length c.args.bytes.now = long_enough c.args.bytes.now refl c.requires.0.0 in
    let good = sound_there c.args.bytes.now c.requires.0.1 in
    let head_is : c.head_at-head.result ≡ (session_of c.args.bytes.now).head = c.head_at-head.ensures ∙ head_there c.args.bytes.now in
    let in_use : c.head_at-head.result.done < 64 = omega (
      arith,
      ap (λ (h : IsoHead). h.done) head_is,
      c.requires.1,
      good.count_in,
    ) in
    omega (
      arith,
      long,
      c.settle_plans_at-total.auto.bytes,
      in_use,
    )

pub one_more-requires : goal.one_more-requires
one_more-requires c =
    let good = sound_there c.args.bytes.now c.requires.0.1 in
    let head_is : c.head_at-head.result ≡ (session_of c.args.bytes.now).head = c.head_at-head.ensures ∙ head_there c.args.bytes.now in
    let in_use : c.head_at-head.result.done < 64 = omega (
      arith,
      ap (λ (h : IsoHead). h.done) head_is,
      c.requires.1,
      good.count_in,
    ) in
    in_use

pub returns : goal.returns
returns c =
    let good = sound_there c.args.bytes.now c.requires.0.1 in
    let head_is : c.head_at-head.result ≡ (session_of c.args.bytes.now).head = c.head_at-head.ensures ∙ head_there c.args.bytes.now in
    let direction_is : c.direction_of-direction.result ≡ (session_of
    c.args.bytes.now).cfg.direction = c.direction_of-direction.ensures
    ∙ ap direction_of c.byte_at.ensures
    ∙ direction_there c.args.bytes.now in
    let start =
    c in
    let a = start.args in
    let xs = a.bytes.now in
    let way =
    c in
    let dir = way.direction_of-direction.result in
    let ed = direction_is in
    let plans =
    c.settle_plans_at-total.ensures in
    let head =
    head_is in (
      bytes_settled xs a.ring.now a.from a.to dir start.requires.0.0 good start.requires.1 start.requires.2 start.requires.3 ed
          plans.1 head
          plans.0
          c.request_at-request.ensures
          c.put_request.ensures c.one_more.ensures
          c.put_head.ensures,
      ring_settled xs a.ring.now a.from a.to dir start.requires.0.0 good start.requires.1 start.requires.2 start.requires.3 ed plans.1
          c.clear_slots_at.ensures,
    )
