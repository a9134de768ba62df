-- Each way out is the definition at the tests that led there; only the last one writes, and writes the cursor.
use Rattle.std.proofs.Common.{◌≡◌, ℕ, Bool, not, ◌||◌, eqb, List, sym, refl, ap, ◌∙◌, arith}
use Rattle.session.specs.declared.types.IsoHead.{IsoHead}
use Rattle.session.specs.Session.{has_reason}
use Rattle.session.specs.Poll.{reset_reply}
use Rattle.session.proofs.Laws.Replies.{reset_bad, reset_full, reset_done}
use Rattle.port.specs.Layout.{session_of}
use Rattle.port.proofs.Laws.Steps.{cursor_here, stays, becomes}
use Rattle.port.proofs.Laws.Placed.{head_there, ending_there}
use Rattle.port.proofs.reset.reset_at.Goals as goal

-- what the code tests, by the head that was read and whether a reason stands, is what the definition tests
some_is :
    (xs : List ℕ) {h : IsoHead} {ending b : Bool} → h ≡ (session_of xs).head → ending ≡ has_reason (session_of xs).fatal → (not (eqb h.count 0) || ending) ≡ b
    → not (not (eqb (session_of xs).head.count 0) || has_reason (session_of xs).fatal) ≡ not b
some_is xs {h} eh er e =
    ap not
    (sym
    (ap (λ (x : Bool). not (eqb h.count 0) || x) er
    ∙ ap (λ (k : IsoHead). not (eqb k.count 0) || has_reason (session_of xs).fatal) eh)
    ∙ e)

pub returns-then-bad : goal.returns-then-bad
returns-then-bad c =
    let xs = c.args.bytes.now in
    stays xs (λ i. omega (arith, c.slice_known-1.given i)) c.requires.0 (reset_reply (session_of xs))
    (reset_bad (session_of xs) (sym c.requires.1 ∙ c.if-bad.true)) refl c.reply_refused.ensures

pub returns-then-head-is_some : goal.returns-then-head-is_some
returns-then-head-is_some c =
    let xs = c.args.bytes.now in
    stays xs (λ i. omega (arith, c.slice_known-1.given i)) c.requires.0 (reset_reply (session_of xs))
    (reset_full (session_of xs) (sym c.requires.1 ∙ c.if-bad.false)
    (some_is xs (c.head_at-head.ensures ∙ head_there xs) (ending_there xs c.reason_at.ensures c.is_some.ensures) c.if-head-is_some.true)) refl
    c.reply_refused-then-head-is_some.ensures

pub returns : goal.returns
returns c =
    let xs = c.args.bytes.now in
    let s = session_of xs in
    becomes xs (reset_reply s)
    (reset_done s (sym c.requires.1 ∙ c.if-bad.false)
    (some_is xs (c.head_at-head.ensures ∙ head_there xs) (ending_there xs c.reason_at.ensures c.is_some.ensures) c.if-head-is_some.false))
    c.reply_port.ensures
    (cursor_here xs (λ i. omega (arith, c.slice_known-1.given i)) c.requires.0 0 c.put_u16.ensures)
