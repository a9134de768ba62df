-- Each way out is the definition at the tests that led there; one writes a request's outcome, one the reason.
use Rattle.std.proofs.Common.{◌≡◌, ℕ, ◌<◌, ◌≤◌, false, ltb, List, length, sym, refl, ap, ◌∙◌, subst, lt_of_lt_of_le, arith, le-ltb, lt-ltb}
use mathlib.Core.Path.{subst⁻¹}
use native.Mathlib.Nat.{min-le_right}
use lib.Seq.{slice}
use Rattle.session.specs.declared.types.IsoHead.{IsoHead}
use Rattle.session.specs.declared.types.IsoOutcome.TheVariants as outcome
use Rattle.session.specs.Record.{is_bad_record}
use Rattle.session.specs.Cancel.{place_of, request_at, with_cancelled, cancelled}
use Rattle.session.proofs.Laws.Record.{sound}
use Rattle.session.proofs.Laws.Replies.{cancel_bad, cancel_completed, cancel_unknown, cancel_again, cancel_halt}
use Rattle.port.specs.Layout.{session_of, requests_in}
use Rattle.port.proofs.Laws.Calls.{long_enough}
use Rattle.port.proofs.Laws.Left.{left_is}
use Rattle.port.proofs.Laws.Steps.{outcome_here, stays, becomes}
use Rattle.port.proofs.Laws.Walks.{requests_in_lem}
use Rattle.port.proofs.Laws.Placed.{head_there, ending_there, requests_many, plans_many}
use Rattle.port.proofs.cancel.cancel_at.Goals as goal

-- the place that was found, by the head that was read: what the definition asks of it
found_is :
    (xs : List ℕ) (id : ℕ) {h : IsoHead} {at : ℕ} → h ≡ (session_of xs).head
    → (ltb at h.done ≡ ltb (place_of id (slice 0 h.count (session_of xs).requests)) h.done)
    × (ltb at h.count ≡ ltb (place_of id (slice 0 h.count (session_of xs).requests)) h.count)
    × (at < h.done → at ≡ place_of id (slice 0 h.count (session_of xs).requests))
    → (ltb (request_at id (session_of xs)) (session_of xs).head.done ≡ ltb at h.done)
    × (ltb (request_at id (session_of xs)) (session_of xs).head.count ≡ ltb at h.count)
    × (at < h.done → at ≡ request_at id (session_of xs))
found_is xs id {h} {at} e here =
    subst (λ (k : IsoHead).
    let place = place_of id (slice 0 k.count (session_of xs).requests) in
    (ltb place k.done ≡ ltb at h.done) × (ltb place k.count ≡ ltb at h.count) × (at < h.done → at ≡ place)) e (sym here.0, sym here.1, here.2)

-- a place before the first pending request is in use
in_use :
    (xs : List ℕ) {h : IsoHead} {at : ℕ} → h ≡ (session_of xs).head → is_bad_record (session_of xs) ≡ false → at < h.done → at < requests_in (session_of xs)
in_use xs {h} {at} e fine below =
    let good = sound (session_of xs) (requests_many xs) (plans_many xs) fine in
    let done : h.done ≡ (session_of xs).head.done = ap (λ (k : IsoHead). k.done) e in
    subst⁻¹ (λ (n : ℕ). at < n) (requests_in_lem (session_of xs) good.count_in) (omega (arith, done, below, good.done_in))

few : (xs : List ℕ) {h : IsoHead} {at : ℕ} → h ≡ (session_of xs).head → is_bad_record (session_of xs) ≡ false → at < h.done → at < 64
few xs e fine below = lt_of_lt_of_le (in_use xs e fine below) (min-le_right (session_of xs).head.count 64)

pub returns-then-bad : goal.returns-then-bad
returns-then-bad c =
    let s = session_of c.args.bytes.now in
    stays c.args.bytes.now (λ i. omega (arith, c.slice_known-1.given i)) c.requires.0 (cancelled s c.args.id)
    (cancel_bad s c.args.id (sym c.requires.1 ∙ c.if-bad.true)) refl c.reply_refused.ensures

pub found_at-at-requires : goal.found_at-at-requires
found_at-at-requires c =
    let xs = c.args.bytes.now in
    let good = sound (session_of xs) (requests_many xs) (plans_many xs) (sym c.requires.1 ∙ c.if-bad.false) in (
      long_enough xs refl c.requires.0,
      subst⁻¹ (λ (h : IsoHead). h.count ≤ 64) (c.head_at-head.ensures ∙ head_there xs) good.count_in,
    )

pub put_outcome-requires : goal.put_outcome-requires
put_outcome-requires c =
    let xs = c.args.bytes.now in
    let below = few xs (c.head_at-head.ensures ∙ head_there xs) (sym c.requires.1 ∙ c.if-bad.false) c.if-at-head.true in
    let enough : 8488 ≤ length xs = long_enough xs refl c.requires.0 in
    omega (arith, below)

pub returns-then-at-head : goal.returns-then-at-head
returns-then-at-head c =
    let xs = c.args.bytes.now in
    let id = c.args.id in
    let s = session_of xs in
    let fine = sym c.requires.1 ∙ c.if-bad.false in
    let head_is = c.head_at-head.ensures ∙ head_there xs in
    let found = found_is xs id head_is c.found_at-at.ensures in
    becomes xs (cancelled s id)
    (cancel_completed s id fine (found.0 ∙ lt-ltb c.found_at-at.result c.head_at-head.result.done c.if-at-head.true)) c.reply_port.ensures
    (left_is
    (outcome_here xs (λ i. omega (arith, c.slice_known-1.given i)) c.requires.0 c.found_at-at.result outcome.Cancelled
    (in_use xs head_is fine c.if-at-head.true) (few xs head_is fine c.if-at-head.true) c.put_outcome.ensures)
    (ap (λ (n : ℕ). with_cancelled n s) (found.2 c.if-at-head.true)))

pub returns-then-at-head-2 : goal.returns-then-at-head-2
returns-then-at-head-2 c =
    let xs = c.args.bytes.now in
    let id = c.args.id in
    let s = session_of xs in
    let at = c.found_at-at.result in
    let head = c.head_at-head.result in
    let found = found_is xs id (c.head_at-head.ensures ∙ head_there xs) c.found_at-at.ensures in
    stays xs (λ i. omega (arith, c.slice_known-1.given i)) c.requires.0 (cancelled s id)
    (cancel_unknown s id (sym c.requires.1 ∙ c.if-bad.false) (found.0 ∙ le-ltb at head.done c.if-at-head.false) (found.1 ∙ le-ltb at head.count c.if-at-head-2.true))
    refl c.reply_refused-then-at-head-2.ensures

pub returns-then-is_some : goal.returns-then-is_some
returns-then-is_some c =
    let xs = c.args.bytes.now in
    let id = c.args.id in
    let s = session_of xs in
    let at = c.found_at-at.result in
    let head = c.head_at-head.result in
    let found = found_is xs id (c.head_at-head.ensures ∙ head_there xs) c.found_at-at.ensures in
    let reason_is = ending_there xs c.reason_at.ensures c.is_some.ensures in
    stays xs (λ i. omega (arith, c.slice_known-1.given i)) c.requires.0 (cancelled s id)
    (cancel_again s id (sym c.requires.1 ∙ c.if-bad.false) (found.0 ∙ le-ltb at head.done c.if-at-head.false) (found.1 ∙ lt-ltb at head.count c.if-at-head-2.false)
    (sym reason_is ∙ c.if-is_some.true)) refl c.reply_port-then-is_some.ensures

pub returns : goal.returns
returns c =
    let xs = c.args.bytes.now in
    let id = c.args.id in
    let s = session_of xs in
    let at = c.found_at-at.result in
    let head = c.head_at-head.result in
    let found = found_is xs id (c.head_at-head.ensures ∙ head_there xs) c.found_at-at.ensures in
    let reason_is = ending_there xs c.reason_at.ensures c.is_some.ensures in
    becomes xs (cancelled s id)
    (cancel_halt s id (sym c.requires.1 ∙ c.if-bad.false) (found.0 ∙ le-ltb at head.done c.if-at-head.false) (found.1 ∙ lt-ltb at head.count c.if-at-head-2.false)
    (sym reason_is ∙ c.if-is_some.false)) c.reply_port-2.ensures c.halt_at.ensures
