-- The first request taken in one, or looked and looked again at the one place.
use Rattle.std.proofs.Common.{ap, ◌∙◌, sym, refl, arith}
use Rattle.session.specs.declared.types.IsoHead.{IsoHead}
use Rattle.port.proofs.Laws.Calls.{long_enough}
use Rattle.port.proofs.Laws.Placed.{head_there}
use Rattle.port.proofs.Laws.Reclaiming.{place_there, long_results, looked_layout, looked_good, looked_all, done_in_place, first_in_place}
use Rattle.port.proofs.Laws.Walks.{sound_there}
use Rattle.port.proofs.reclaim.reclaim_good.Goals as goal

pub place_at-at-requires : goal.place_at-at-requires
place_at-at-requires c =
    let xs = c.args.bytes.now in
    let good = sound_there xs c.requires.0.1 in
    let count = ap (λ (h : IsoHead). h.count) (c.head_at-head.ensures ∙ head_there xs) in
    (long_enough xs refl c.requires.0.0, omega (arith, count, good.count_in))

pub returns-then-is_first_only : goal.returns-then-is_first_only
returns-then-is_first_only c =
    let a = c.args in
    let xs = a.bytes.now in
    let good = sound_there xs c.requires.0.1 in
    let place = place_there xs a.id c.head_at-head.ensures c.place_at-at.ensures in
    let told = c.is_first_only.ensures c.if-is_first_only.true in
    let left = c.reclaim_first.ensures in
    first_in_place xs a.ring.now a.results.now a.id a.event good c.requires.2 c.requires.0.1 (sym told.0 ∙ place) told.1 left.0 left.1 left.2 left.3

pub look_again_at-answer-requires : goal.look_again_at-answer-requires
look_again_at-answer-requires c =
    let a = c.args in
    let xs = a.bytes.now in
    let good = sound_there xs c.requires.0.1 in
    let place = place_there xs a.id c.head_at-head.ensures c.place_at-at.ensures in
    let act = c.look_at-look.ensures.0 in (
      (
        looked_layout xs a.ring.now a.results.now a.id a.event c.requires.0.0 good place act,
        looked_good xs a.ring.now a.results.now a.id a.event c.requires.0.0 good place act,
      ),
      long_results xs a.ring.now a.results.now c.requires.2,
      c.requires.1 ∙ sym (looked_all xs a.ring.now a.results.now a.id a.event c.requires.0.0 good place act),
    )

pub returns : goal.returns
returns c =
    let a = c.args in
    let xs = a.bytes.now in
    let good = sound_there xs c.requires.0.1 in
    let place = place_there xs a.id c.head_at-head.ensures c.place_at-at.ensures in
    let look = c.look_at-look.ensures in
    let again = c.look_again_at-answer.ensures in
    done_in_place xs a.ring.now a.results.now a.id a.event c.requires.0.0 good place look.0 c.requires.2 c.requires.0.1 look.1 again.0 again.1 again.2
    c.reclaim_port.ensures
