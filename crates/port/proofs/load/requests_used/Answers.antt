-- One turn of the walk, and its end.
use Rattle.std.proofs.Common.{◌≡◌, ℕ, ◌+◌, ◌*◌, Bool, cond, Some, None, get_or, drop, ap, ◌∙◌, arith}
use lib.Seq.{slice}
use Rattle.session.specs.Session.{blank_request, packets_of}
use Rattle.session.proofs.Laws.Sums.{packets_next, packets_past}
use Rattle.port.specs.Bytes.{u16_of}
use Rattle.port.specs.Layout.{is_bad_request_bytes}
use Rattle.port.specs.Places.{requests_of}
use Rattle.port.proofs.Laws.Placed.{requests_many}
use Rattle.port.proofs.Laws.Tables.{any_found, any_on, any_end}
use Rattle.port.proofs.Laws.Walks.{packets_there}
use Rattle.port.proofs.load.requests_used.Goals as goal

pub returns-then-is_bad_request_at : goal.returns-then-is_bad_request_at
returns-then-is_bad_request_at c =
    let l = c.loop-i in
    let found =
    any_found is_bad_request_bytes 20 c.args.n l.i (40 + 20 * l.i) c.args.bytes.now (omega arith)
    (c.is_bad_request_at.ensures ∙ ap (λ (k : ℕ). is_bad_request_bytes (drop (40 + 20 * k) c.args.bytes.now)) c.from.ensures) c.if-is_bad_request_at.true
    ∙ l.invariant.1 in
    ap (λ (b : Bool). cond b None (Some (packets_of (slice 0 c.args.n (requests_of c.args.bytes.now))))) found

pub loop-i-preserved : goal.loop-i-preserved
loop-i-preserved c =
    let a = c.args in
    let l = c.loop-i in
    let xs = a.bytes.now in
    let rest = any_on is_bad_request_bytes 20 a.n l.i 40 xs (omega arith)
    (c.is_bad_request_at.ensures ∙ ap (λ (k : ℕ). is_bad_request_bytes (drop (40 + 20 * k) xs)) c.from.ensures) c.if-is_bad_request_at.false in
    let place : 40 + 20 * c.from.result + 12 ≡ 52 + 20 * l.i = omega (arith, c.from.ensures) in
    let here : c.u16_at.result ≡ (get_or (requests_of xs) l.i blank_request).packets =
    c.u16_at.ensures ∙ ap (λ (k : ℕ). u16_of (drop k xs)) place ∙ packets_there xs l.i (omega arith) in
    let next = packets_next l.i a.n (requests_of xs) (omega arith) (omega (arith, requests_many xs)) in
    (omega (arith, c.u16_at.type_inv), rest ∙ l.invariant.1, omega (arith, next, here, l.invariant.2))

pub returns : goal.returns
returns c =
    let a = c.args in
    let l = c.loop-i in
    let xs = a.bytes.now in
    let all : l.sum ≡ packets_of (slice 0 a.n (requests_of xs)) = omega (arith, packets_past l.i a.n (requests_of xs) (omega arith), l.invariant.2) in
    let none = any_end is_bad_request_bytes 20 a.n l.i (drop (40 + 20 * l.i) xs) (omega arith) ∙ l.invariant.1 in
    ap Some all ∙ ap (λ (b : Bool). cond b None (Some (packets_of (slice 0 a.n (requests_of xs))))) none
