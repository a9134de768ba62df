-- A request that has the number ends the walk, and any other is passed.
use Rattle.std.proofs.Common.{ℕ, ◌≤◌, eqb, length, sym, ap, ◌∙◌, arith, eq-eqb, ne_eqb}
use Rattle.session.specs.Cancel.{place_of}
use Rattle.session.proofs.Laws.Lists.{slice_past}
use Rattle.session.proofs.Laws.Replies.{place_here, place_next}
use Rattle.port.specs.Layout.{session_of}
use Rattle.port.proofs.Laws.Placed.{requests_many}
use Rattle.port.proofs.Laws.Walks.{id_there}
use Rattle.port.proofs.cancel.place_at.Goals as goal

pub returns-then-u64_at-id : goal.returns-then-u64_at-id
returns-then-u64_at-id c =
    let a = c.args in
    let i = c.loop-i.i in
    let requests = (session_of a.bytes.now).requests in
    let within : a.count ≤ length requests = omega (arith, c.requires.1, requests_many a.bytes.now) in
    let this = sym (ap (λ (k : ℕ). eqb k a.id) (c.u64_at.ensures ∙ id_there a.bytes.now i (omega arith))) ∙ eq-eqb c.u64_at.result a.id c.if-u64_at-id.true in
    omega (arith, c.loop-i.invariant, place_here a.id i a.count requests (omega arith) within this)

pub loop-i-preserved : goal.loop-i-preserved
loop-i-preserved c =
    let a = c.args in
    let i = c.loop-i.i in
    let requests = (session_of a.bytes.now).requests in
    let within : a.count ≤ length requests = omega (arith, c.requires.1, requests_many a.bytes.now) in
    let other = sym (ap (λ (k : ℕ). eqb k a.id) (c.u64_at.ensures ∙ id_there a.bytes.now i (omega arith))) ∙ ne_eqb c.u64_at.result a.id c.if-u64_at-id.false in
    omega (arith, c.loop-i.invariant, place_next a.id i a.count requests (omega arith) within other)

pub returns : goal.returns
returns c =
    let l = (session_of c.args.bytes.now).requests in
    omega (arith, c.loop-i.invariant, ap (place_of c.args.id) (slice_past c.loop-i.i c.args.count l (omega arith)))
