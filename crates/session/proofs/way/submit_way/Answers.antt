-- `submit_way` is its definition, in every session that was asked: each way out knows the tests before it.
use Rattle.std.proofs.Common.{◌∙◌, sym, ap, subst, ℕ, ◌≤◌, length, arith}
use Rattle.session.specs.Session.{ring_words}
use Rattle.session.specs.Scan.{whole, Asked}
use Rattle.session.specs.Way.{long_at}
use Rattle.session.proofs.Laws.Ways.{entry_is, refuse_way, long_way, spend_way, gated_way}
use Rattle.session.proofs.way.submit_way.Goals as goal

pub returns-in-Err : goal.returns-in-Err
returns-in-Err c =
    let a = c.args in
    let L = a.lengths.now in
    let ring = a.ring.now in
    let long : ring_words a.cfg ≤ length ring = omega (arith, c.if-ring-ring_words.false, c.ring_words.ensures.0) in (
      λ requests plans w.
          let s = whole a.cfg a.head a.fatal requests plans in
          let asked = subst (Asked s a.transfer L ring) c.in-Some.is w in
          refuse_way s a.transfer L ring
          (entry_is s a.transfer L ring long asked.0 (sym c.in-Err.is ∙ c.entry_refusal.ensures.0 requests plans L ring asked)),
      λ g. absurd g,
    )

pub returns-in-Some-first_long : goal.returns-in-Some-first_long
returns-in-Some-first_long c =
    let a = c.args in
    let L = a.lengths.now in
    let ring = a.ring.now in
    let long : ring_words a.cfg ≤ length ring = omega (arith, c.if-ring-ring_words.false, c.ring_words.ensures.0) in (
      λ requests plans w.
          let s = whole a.cfg a.head a.fatal requests plans in
          let asked = subst (Asked s a.transfer L ring) c.in-Some.is w in
          long_way s a.transfer L ring
          (entry_is s a.transfer L ring long asked.0 (sym c.in_default-entry_refusal.is ∙ c.entry_refusal.ensures.0 requests plans L ring asked))
          (sym c.in-Some-first_long.is ∙ c.first_long.ensures ∙ ap (λ (k : ℕ). long_at k L) c.iso_max_xfer_size.ensures),
      λ g. absurd g,
    )

pub returns-in-Err-spend_refusal : goal.returns-in-Err-spend_refusal
returns-in-Err-spend_refusal c =
    let a = c.args in
    let L = a.lengths.now in
    let ring = a.ring.now in
    let long : ring_words a.cfg ≤ length ring = omega (arith, c.if-ring-ring_words.false, c.ring_words.ensures.0) in (
      λ requests plans w.
          let s = whole a.cfg a.head a.fatal requests plans in
          let asked = subst (Asked s a.transfer L ring) c.in-Some.is w in
          spend_way s a.transfer L ring
          (entry_is s a.transfer L ring long asked.0 (sym c.in_default-entry_refusal.is ∙ c.entry_refusal.ensures.0 requests plans L ring asked))
          (sym c.in_default-first_long.is ∙ c.first_long.ensures ∙ ap (λ (k : ℕ). long_at k L) c.iso_max_xfer_size.ensures)
          (sym (sym c.in-Err-spend_refusal.is ∙ c.spend_refusal.ensures.0 a.cfg a.fatal requests plans ring asked.1)),
      λ g. absurd g,
    )

pub returns : goal.returns
returns c =
    let a = c.args in
    let L = a.lengths.now in
    let ring = a.ring.now in
    let long : ring_words a.cfg ≤ length ring = omega (arith, c.if-ring-ring_words.false, c.ring_words.ensures.0) in (
      λ requests plans w.
          let s = whole a.cfg a.head a.fatal requests plans in
          let asked = subst (Asked s a.transfer L ring) c.in-Some.is w in
          gated_way s a.transfer L ring
          (entry_is s a.transfer L ring long asked.0 (sym c.in_default-entry_refusal.is ∙ c.entry_refusal.ensures.0 requests plans L ring asked))
          (sym c.in_default-first_long.is ∙ c.first_long.ensures ∙ ap (λ (k : ℕ). long_at k L) c.iso_max_xfer_size.ensures)
          (sym (sym c.in_default-spend_refusal.is ∙ c.spend_refusal.ensures.0 a.cfg a.fatal requests plans ring asked.1))
          c.gate_way.ensures,
      λ g.
          let entry = c.entry_refusal.ensures.1 c.in_default-entry_refusal.is in
          (entry.0, entry.1, long, c.spend_refusal.ensures.1 c.in_default-spend_refusal.is),
    )
