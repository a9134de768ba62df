-- The invariant: the results still to write, written into the lent ones as they are now, give the goal, and so for the bytes moved. The measure is how
-- many plans are left.
use Rattle.std.proofs.Common.{◌≡◌, ℕ, ◌+◌, ◌*◌, ◌<◌, ◌≤◌, List, ◌∷◌, map, length, get_or, sym, ap, ◌∙◌, ap₂, arith, length-set}
use Rattle.words.specs.Words.{is_packet_error, moved_length}
use Rattle.session.specs.declared.types.IsoPacketPlan.{IsoPacketPlan}
use Rattle.session.specs.Session.{blank_plan}
use Rattle.session.specs.Settle.{status_of, settled_plan, moved_total}
use Rattle.session.specs.Reclaim.{error_bit, result_word}
use Rattle.session.proofs.Laws.Lists.{slice_next, write_next}
use Rattle.port.specs.Places.{plans_of}
use Rattle.port.proofs.Laws.Placed.{plans_many}
use Rattle.port.proofs.Laws.Walks.{planned_there}
use Rattle.port.proofs.first.settle_results.Goals as goal

pub loop-i-preserved : goal.loop-i-preserved
loop-i-preserved c =
    let a = c.args in
    let now = c.loop-i in
    let ring = a.ring.now in
    let plans = plans_of a.bytes.now in
    let here = get_or plans now.i blank_plan in
    let f = settled_plan a.direction ring in
    let less : now.i < a.n = omega arith in
    let many : a.n ≤ length plans = omega (arith, plans_many a.bytes.now) in
    let status = get_or ring (2 * c.slot_at.result) 0 in
    let status_is = ap (λ (n : ℕ). get_or ring (2 * n) 0) c.slot_at.ensures in
    let planned_is = c.u16_at-planned.ensures ∙ planned_there a.bytes.now now.i (omega arith) in
    let moved : moved_length a.direction c.u16_at-planned.result status ≡ (f here).actual =
    ap₂ (λ (m n : ℕ). moved_length a.direction m n) planned_is status_is in
    let word : c.settled_word.result ≡ result_word (f here) =
    c.settled_word.ensures
    ∙ ap₂ (λ (m n : ℕ). moved_length a.direction m n + 4096 * m + error_bit (status_of (is_packet_error n))) planned_is status_is in
    let next = slice_next now.i a.n plans blank_plan less many in
    let on = ap (λ (l : List IsoPacketPlan). moved_total (map f l)) next in (
      length-set now.results now.i c.settled_word.result ∙ now.invariant.0,
      omega (arith, c.moved_length.type_inv),
      omega (arith, on, moved, c.moved_length.ensures, now.invariant.2),
      write_next (λ (l : List IsoPacketPlan). map result_word (map f l)) now.i now.i a.n plans blank_plan now.results
          c.settled_word.result less many (λ rest. ap (λ (x : ℕ). x ∷ map result_word (map f rest)) (sym word))
          ∙ now.invariant.3,
    )
