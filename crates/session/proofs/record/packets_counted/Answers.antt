-- One turn takes one request from what is left.
use Rattle.std.proofs.Common.{◌≡◌, ℕ, suc, ◌+◌, ◌<◌, Bool, cond, Some, None, ◌||◌, List, ◌∷◌, drop, length, get_or, sym, ap, ◌∙◌, arith, drop-cons, drop_of_length-le}
use Rattle.session.specs.declared.types.IsoRequest.{IsoRequest}
use Rattle.session.specs.Session.{blank_request, packets_of}
use Rattle.session.specs.Record.{any_bad_request}
use Rattle.session.proofs.record.packets_counted.Goals as goal

-- the first of those that are left, and the rest
first : (rs : List IsoRequest) (i : ℕ) → i < length rs → drop i rs ≡ get_or rs i blank_request ∷ drop (i + 1) rs
first rs i h =
    let on : suc i ≡ i + 1 = omega arith in
    drop-cons rs i blank_request h ∙ ap (λ (k : ℕ). get_or rs i blank_request ∷ drop k rs) on

pub returns-then-is_bad_request-clause-counted : goal.returns-then-is_bad_request-clause-counted
returns-then-is_bad_request-clause-counted c =
    let rs = c.args.requests.now in
    let l = c.loop-request in
    let i = l.request-index in
    let rest = any_bad_request (drop (i + 1) rs) in
    let found = ap (λ (b : Bool). b || rest) (sym c.if-is_bad_request.true ∙ c.is_bad_request.ensures)
    ∙ sym (ap any_bad_request (first rs i c.loop-request-test.true)) ∙ l.invariant.0 in
    ap (λ (b : Bool). cond b None (Some (packets_of rs))) found

pub loop-request-preserved : goal.loop-request-preserved
loop-request-preserved c =
    let rs = c.args.requests.now in
    let l = c.loop-request in
    let i = l.request-index in
    let left = first rs i c.loop-request-test.true in
    let rest = any_bad_request (drop (i + 1) rs) in
    let good = sym c.if-is_bad_request.false ∙ c.is_bad_request.ensures in
    let sum = ap packets_of left in (
      ap (λ (b : Bool). b || rest) good ∙ sym (ap any_bad_request left) ∙ l.invariant.0,
      omega (arith, sum, c.from-sum.ensures, l.invariant.1),
      omega (arith, c.from-sum.ensures, l.invariant.2),
    )

pub returns-clause-counted : goal.returns-clause-counted
returns-clause-counted c =
    let rs = c.args.requests.now in
    let l = c.loop-request in
    let none = drop_of_length-le rs {i = l.request-index} c.loop-request-test.false in
    let all : l.sum ≡ packets_of rs = omega (arith, ap packets_of none, l.invariant.1) in
    ap Some all ∙ ap (λ (b : Bool). cond b None (Some (packets_of rs))) (sym (ap any_bad_request none) ∙ l.invariant.0)
