-- One turn of the walk, and its end.
use Rattle.std.proofs.Common.{◌≡◌, ℕ, Bool, false, true, ◌||◌, ◌+◌, ◌-◌, ◌*◌, drop, refl, ap, ◌∙◌, arith}
use mathlib.Core.Bool.{or_assoc}
use Rattle.port.specs.Layout.{any_of}
use Rattle.port.specs.Scan.{is_bad_plan_entry}
use Rattle.port.proofs.Laws.Tables.{any_by, any_end}
use Rattle.port.proofs.scan.any_bad_packet.Goals as goal

pub loop-i-preserved : goal.loop-i-preserved
loop-i-preserved c =
    let a = c.args in
    let l = c.loop-i in
    let xs = a.bytes.now in
    let bad = is_bad_plan_entry a.limit a.slots in
    let here = c.is_bad_packet-bad.result in
    let on : 1320 + 7 * (l.i + 1) ≡ 1320 + 7 * l.i + 7 = omega arith in
    or_assoc l.bad here (any_of bad 7 (a.to - (l.i + 1)) (drop (1320 + 7 * (l.i + 1)) xs))
    ∙ ap (λ (k : ℕ). l.bad || (here || any_of bad 7 (a.to - (l.i + 1)) (drop k xs))) on
    ∙ ap (λ (b : Bool). l.bad || b) (any_by bad 7 a.to l.i (1320 + 7 * l.i) xs here c.loop-i-test.true c.is_bad_packet-bad.ensures)
    ∙ l.invariant

last : (b : Bool) {rest : Bool} → false ≡ rest → b ≡ (b || rest)
last true e = refl
last false e = e

pub returns : goal.returns
returns c =
    let a = c.args in
    let l = c.loop-i in
    last l.bad (any_end (is_bad_plan_entry a.limit a.slots) 7 a.to l.i (drop (1320 + 7 * l.i) a.bytes.now) c.loop-i-test.false) ∙ l.invariant
