-- `submit_parts` acts by its way: what its functions answer for the way are the parts of the submission, in every session that was asked.
use mathlib.Core.Path.{◌≡◌, refl, ◌∙◌, subst}
use mathlib.Core.Bool.{false}
use Rattle.std.proofs.Common.{rules}
use Rattle.session.specs.Record.{is_bad_record}
use Rattle.std.specs.Option.{unwrap_or}
use Rattle.session.specs.declared.transfer.SubmitScan.{SubmitScan}
use Rattle.session.specs.Scan.{whole, Found, none_asked}
use Rattle.session.proofs.Laws.Scans.{asked_found}
use Rattle.session.proofs.Laws.Submits.{ring_parted, parted}
use Rattle.session.proofs.submit.submit_parts.Goals as goal

pub returns : goal.returns
returns c = λ requests plans w.
    let a =
    c.args in
    let s = whole a.cfg a.head a.fatal requests plans in
    let L = a.lengths.now in
    let ring = a.ring.now in
    let way = c.submit_way-way.result in
    let scan = c.unwrap_or_default-found.result in
    let is : unwrap_or a.scan none_asked ≡ scan = search rules in
    let asked : is_bad_record s ≡ false → Found s a.transfer L ring scan = λ good. subst (λ (x : SubmitScan). Found s a.transfer L ring x) is (asked_found s a.transfer L ring a.scan w good) in
    let way_is =
    c.submit_way-way.ensures.0 requests
    plans w in (
      parted s a.transfer L ring scan way asked way_is _
          c.slot_after-slot.result refl refl
          c.slots_of-slots.ensures
          c.step_of-step.ensures
          c.added_packets-n.ensures
          c.slot_after-slot.ensures c.answer_of.ensures
          c.start_if.ensures c.head_after.ensures,
      c.store_by.ensures
          ∙ ring_parted s a.transfer L ring scan way asked way_is,
    )
