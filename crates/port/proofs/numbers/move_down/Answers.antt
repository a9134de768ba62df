-- Sixteen bytes that moved are a step of the run; what is left is moved by the library.
use Rattle.std.proofs.Common.{◌≡◌, ◌≤◌, ℕ, ◌+◌, ◌*◌, ◌/◌, length, ap, ◌∙◌, arith}
use lib.Seq.{slice, sets}
use Rattle.port.proofs.Laws.Runs.{slice_take, moved_on, moved_rest}
use Rattle.port.proofs.numbers.move_down.Goals as goal

pub loop-k-preserved : goal.loop-k-preserved
loop-k-preserved c =
    let a = c.args in
    let l = c.loop-k in
    let at = a.from + 16 * l.k in
    let fits : at + 16 ≤ length l.bytes = omega (arith, c.loop-k-test.true, l.auto.bytes, c.requires.1) in
    let end : at + 16 ≡ a.from + (16 * l.k + 16) = omega arith in
    let some = c.part-some.ensures ∙ slice_take at 16 l.bytes (omega (arith, fits)) ∙ ap (λ (t : ℕ). slice at t l.bytes) end in
    let next = c.put.new.bytes in
    let on : 16 * (l.k + 1) ≡ 16 * l.k + 16 = omega arith in
    ap (λ (j : ℕ). sets next (a.into + j) (slice (a.from + j) (a.from + a.n) next)) on
    ∙ moved_on a.into a.from a.n (16 * l.k) 16 l.bytes c.requires.0 (omega (arith, c.loop-k-test.true)) (omega (arith, l.auto.bytes, c.requires.1))
    (c.put.ensures ∙ ap (sets l.bytes (a.into + 16 * l.k)) some)
    ∙ l.invariant

pub returns : goal.returns
returns c =
    let a = c.args in
    let l = c.loop-k in
    let all : a.n / 16 * 16 ≡ 16 * l.k = omega (arith, c.loop-k-test.false, l.auto.k-end) in
    c.copy_within.ensures.after
    ∙ moved_rest a.into a.from a.n (a.n / 16 * 16) l.bytes c.requires.0 (omega arith) (omega (arith, l.auto.bytes, c.requires.1))
    (ap (λ (j : ℕ). sets l.bytes (a.into + j) (slice (a.from + j) (a.from + a.n) l.bytes)) all ∙ l.invariant)
