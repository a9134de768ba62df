-- One turn past a good entry, and the end of the walk.
use Rattle.std.proofs.Common.{◌≡◌, ℕ, ◌+◌, ◌*◌, ◌/◌, ◌%◌, ltb, leb, drop, sym, ap, ◌∙◌, arith, ltb-true, leb-true}
use Rattle.port.specs.Scan.{is_bad_plan_entry}
use Rattle.port.proofs.Laws.Kept.{both}
use Rattle.port.proofs.Laws.Sounds.{good_packet}
use Rattle.port.proofs.Laws.Tables.{any_step, any_end}
use Rattle.port.proofs.scan.are_unsettled.Goals as goal

pub loop-i-preserved : goal.loop-i-preserved
loop-i-preserved c =
    let a = c.args in
    let l = c.loop-i in
    let xs = a.bytes.now in
    let now = c.joined-words.ensures in
    let behind : 1319 + 7 * l.i + 1 ≡ 1320 + 7 * l.i = omega arith in
    λ below short.
    let good =
    good_packet xs (λ i. omega (arith, c.type_inv.bytes i)) (1319 + 7 * l.i) a.limit a.slots (omega (arith, c.ranges.slots.fits)) c.u64_at.ensures
    (omega (arith, below, now.1)) (omega (arith, short, now.3))
    ∙ ap (λ (k : ℕ). is_bad_plan_entry a.limit a.slots (drop k xs)) behind in
    any_step (is_bad_plan_entry a.limit a.slots) 7 a.to l.i 1320 xs (omega arith) (sym good)
    ∙ l.invariant (omega (arith, below, now.0)) (omega (arith, short, now.2))

pub returns : goal.returns
returns c =
    let a = c.args in
    let l = c.loop-i in
    let most = 16777216 * c.from.result in
    λ e.
    let two = both (ltb l.words most) (leb (l.words / 256 % 65536) c.from-2.result) e in
    let below = ltb-true l.words most two.0 in
    let short = leb-true (l.words / 256 % 65536) c.from-2.result two.1 in
    sym (any_end (is_bad_plan_entry a.limit a.slots) 7 a.to l.i (drop (1320 + 7 * l.i) a.bytes.now) (omega arith)
    ∙ l.invariant (omega (arith, below, c.from.ensures)) (omega (arith, short, c.from-2.ensures)))
