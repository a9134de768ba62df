-- Removing is its definition at what the two walks leave: all that moves is in use, and the plans that moved leave the layout as it is.
use Rattle.std.proofs.Common.{◌≡◌, ◌≤◌, sym, ap, ◌∙◌, arith}
use lib.Seq.{slice}
use Rattle.session.specs.declared.types.IsoHead.{IsoHead}
use Rattle.session.specs.Session.{packets_of}
use Rattle.port.specs.Layout.{session_of}
use Rattle.port.specs.Places.{requests_of}
use Rattle.port.proofs.Laws.Closing.{closed_layout, requests_used, bytes_removed}
use Rattle.port.proofs.Laws.Placed.{head_there}
use Rattle.port.proofs.Laws.Walks.{sound_there}
use Rattle.port.proofs.reclaim.remove_at.Goals as goal

pub close_requests_at-requires : goal.close_requests_at-requires
close_requests_at-requires c =
    let good = sound_there c.args.bytes.now c.requires.0.1 in
    let head_is : c.head_at-head.result ≡ (session_of c.args.bytes.now).head = c.head_at-head.ensures ∙ head_there c.args.bytes.now in
    let all_is : c.args.all ≡ packets_of
    (slice 0 c.head_at-head.result.count (requests_of c.args.bytes.now)) = let start = c in
    start.requires.4 ∙ ap (λ (h : IsoHead). packets_of (slice 0 h.count (requests_of start.args.bytes.now))) (sym head_is) in
    let count_in : c.head_at-head.result.count ≤ 64 = omega (arith, ap (λ (h : IsoHead). h.count) head_is, good.count_in) in
    let start = c in
    let a = start.args in
    let plans = c.close_plans_at in
    let eh = head_is in (
      closed_layout a.bytes.now a.at a.from a.to a.all start.requires.0.0 good.count_in eh start.requires.2 start.requires.3
          all_is plans.ensures,
      omega arith,
      requests_used a.bytes.now a.at a.from a.to a.all start.requires.0.0 good.count_in eh start.requires.2 start.requires.3
          all_is plans.ensures,
    )

pub one_less-requires : goal.one_less-requires
one_less-requires c =
    let good = sound_there c.args.bytes.now c.requires.0.1 in
    let head_is : c.head_at-head.result ≡ (session_of c.args.bytes.now).head = c.head_at-head.ensures ∙ head_there c.args.bytes.now in
    let start = c in
    let eh = head_is in (
      omega (arith, ap (λ (h : IsoHead). h.done) eh, start.requires.1),
      omega (arith, ap (λ (h : IsoHead). h.count) eh, start.requires.1, good.done_in),
    )

pub returns : goal.returns
returns c =
    let good = sound_there c.args.bytes.now c.requires.0.1 in
    let head_is : c.head_at-head.result ≡ (session_of c.args.bytes.now).head = c.head_at-head.ensures ∙ head_there c.args.bytes.now in
    let all_is : c.args.all ≡ packets_of
    (slice 0 c.head_at-head.result.count (requests_of c.args.bytes.now)) = let start = c in
    start.requires.4 ∙ ap (λ (h : IsoHead). packets_of (slice 0 h.count (requests_of start.args.bytes.now))) (sym head_is) in
    let count_in : c.head_at-head.result.count ≤ 64 = omega (arith, ap (λ (h : IsoHead). h.count) head_is, good.count_in) in
    let start = c in
    let a = start.args in
    let eh = head_is in
    let plans = c.close_plans_at in
    let requests = c.close_requests_at in
    bytes_removed a.bytes.now a.at a.from a.to a.all start.requires.0.0 good.count_in eh start.requires.2 start.requires.3
    all_is
    plans.ensures requests.ensures c.one_less.ensures c.put_head.ensures
