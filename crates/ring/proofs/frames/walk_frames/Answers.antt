-- Each turn writes the first entry of what is left of the walk, and the loop ends where the walk does.
use Rattle.std.proofs.Common.{◌≡◌, ℕ, subst, arith}
use Rattle.ring.proofs.Walk.{Written, written_more, written_whole, written_all}
use Rattle.ring.proofs.frames.walk_frames.Goals as goal

pub returns-then-frame-first : goal.returns-then-frame-first
returns-then-frame-first c =
    let a = c.args in
    let now = c.loop-i in
    rw (c.from.ensures) (written_whole a.step a.first now.i now.frame now.frames c.loop-i-test.true now.invariant.1
    (rw (← c.from-in-loop-i.ensures) c.if-frame-first.true))

pub loop-i-preserved : goal.loop-i-preserved
loop-i-preserved c =
    let a = c.args in
    let now = c.loop-i in (
      omega arith,
      rw (c.from.ensures, c.from-in-loop-i.ensures) (written_more a.step a.first now.i now.frame now.frames c.loop-i-test.true now.invariant.1
          (rw (← c.from-in-loop-i.ensures) c.if-frame-first.false)),
    )

pub returns : goal.returns
returns c =
    let now = c.loop-i in
    let all : now.i ≡ 64 = omega arith in
    written_all c.args.step c.args.first now.frame now.frames (subst (λ (n : ℕ). Written c.args.step c.args.first n now.frame now.frames) all now.invariant.1)
