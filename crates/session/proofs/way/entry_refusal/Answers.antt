-- Where no test refused, none of the definition holds.
use Rattle.std.proofs.Common.{◌≡◌, ◌∙◌, sym, ap, ℕ, Bool, ◌+◌, ◌-◌, not, false, ◌||◌, ◌&&◌, eqb, ltb, leb, arith, rules, tests}
use borrow.Author.Tests.{ltb-false, leb-false}
use Rattle.session.specs.Session.{room, all_packets, has_reason}
use Rattle.session.specs.Scan.{whole}
use Rattle.session.specs.Way.{is_low, is_over, room_checks}
use Rattle.session.proofs.Laws.Sums.{room_few}
use Rattle.session.proofs.Laws.Record.{good_sums}
use Rattle.words.proofs.Laws.Tests.{neither}
use Rattle.session.proofs.Laws.Checks.{◌and◌, none_first}
use Rattle.session.proofs.Laws.Ways.{full_test}
use Rattle.session.proofs.way.entry_refusal.Goals as goal

pub returns : goal.returns
returns c =
    let a = c.args in
    let n = a.n in
    let t = a.transfer in (
      λ requests plans lengths ring w.
          let s = whole a.cfg a.head a.fatal requests plans in
          let over : is_over s n ≡ false =
          ap (λ (p : ℕ). ltb (room a.cfg) (p + n)) (sym w.1.pending) ∙ sym c.is_over_with-over.ensures ∙ c.if-over.false in
          let full : (ltb 64 (a.head.count + 1) || ltb 1024 (all_packets s + n)) ≡ false = sym (full_test a.head.count (all_packets s) n (good_sums s w.0).0)
          ∙ ap (λ (k : ℕ). leb 64 a.head.count || ltb k n) (ap (λ (x : ℕ). 1024 - x) (sym w.1.all) ∙ sym c.saturating_sub.ensures)
          ∙ c.if-head-n.false in
          let r1 : has_reason a.fatal ≡ false = search (rules, tests) in
          let r2 : is_low a.cfg.speed ≡ false = search (rules, tests) in
          let r3 : not t.isochronous ≡ false = search (rules, tests) in
          let r4 : eqb n 0 ≡ false = search (rules, tests) in
          let r5 : not t.has_buffer ≡ false = search (rules, tests) in
          sym (none_first (room_checks s t n) (r1 and r2 and r3 and r4 and r5 and ap (λ (b : Bool). b && eqb a.head.done a.head.count) over and over and full and tt)),
      λ z. (omega (arith, ltb-false (room a.cfg) (a.scan.pending + n) (sym c.is_over_with-over.ensures ∙ c.if-over.false), room_few a.cfg), leb-false 64 a.head.count (neither (leb 64 a.head.count) (ltb c.saturating_sub.result n) c.if-head-n.false).0),
    )
