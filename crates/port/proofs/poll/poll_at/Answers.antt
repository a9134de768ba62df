-- Each arm knows the way, and there the definitions are the arm's own.
use Rattle.std.proofs.Common.{Option, ◌≡◌, sym, refl, ◌∙◌, ap₂, arith}
use Rattle.session.specs.declared.types.IsoHaltReason.{IsoHaltReason}
use Rattle.session.specs.declared.types.IsoHead.{IsoHead}
use Rattle.session.specs.Poll.{way_of, poll_way}
use Rattle.port.specs.Layout.{session_of}
use Rattle.port.proofs.Laws.Kept.{Octets}
use Rattle.port.proofs.Laws.Steps.{same_bytes, acted}
use Rattle.port.proofs.Laws.Placed.{head_there, reason_there}
use Rattle.port.proofs.poll.poll_at.Goals as goal

pub returns-in-Nothing : goal.returns-in-Nothing
returns-in-Nothing c =
    let octets : Octets c.args.bytes.now = (λ i. omega (arith, c.slice_known-1.given i)) in
    let way_is : c.way_of.result
    ≡ poll_way (session_of c.args.bytes.now)
    c.args.event = let start = c in
    let xs = start.args.bytes.now in
    c.way_of.ensures
    ∙ ap₂ (λ (h : IsoHead) (f : Option IsoHaltReason). way_of h f start.args.event)
    (c.head_at-head.ensures ∙ head_there xs) (c.reason_at-fatal.ensures ∙ reason_there xs) in
    let start = c in
    let xs = start.args.bytes.now in
    let ring = start.args.ring.now in
    acted xs ring {w = poll_way (session_of xs) start.args.event}
    (sym c.in-Nothing.is ∙ way_is) c.said.ensures.0 c.said.ensures.1
    (same_bytes xs octets
    start.requires.0.0) refl

pub returns-in-End : goal.returns-in-End
returns-in-End c =
    let way_is : c.way_of.result
    ≡ poll_way (session_of c.args.bytes.now)
    c.args.event = let start = c in
    let xs = start.args.bytes.now in
    c.way_of.ensures
    ∙ ap₂ (λ (h : IsoHead) (f : Option IsoHaltReason). way_of h f start.args.event)
    (c.head_at-head.ensures ∙ head_there xs) (c.reason_at-fatal.ensures ∙ reason_there xs) in
    let start = c in
    let xs =
    start.args.bytes.now in
    let ring =
    start.args.ring.now in
    acted xs ring {w = poll_way (session_of xs)
    start.args.event}
    (sym c.in-End.is
    ∙ way_is) c.said-in-End.ensures.0 c.said-in-End.ensures.1
    c.end_at.ensures.0 c.end_at.ensures.1

pub returns-in-Halt : goal.returns-in-Halt
returns-in-Halt c =
    let way_is : c.way_of.result
    ≡ poll_way (session_of c.args.bytes.now)
    c.args.event = let start = c in
    let xs = start.args.bytes.now in
    c.way_of.ensures
    ∙ ap₂ (λ (h : IsoHead) (f : Option IsoHaltReason). way_of h f start.args.event)
    (c.head_at-head.ensures ∙ head_there xs) (c.reason_at-fatal.ensures ∙ reason_there xs) in
    let start = c in
    let xs = start.args.bytes.now in
    let ring = start.args.ring.now in
    acted xs ring {w = poll_way (session_of xs)
    start.args.event}
    (sym c.in-Halt.is ∙ way_is)
    c.said-in-Halt.ensures.0 c.said-in-Halt.ensures.1
    c.halt_at.ensures refl

pub returns-in-Wait : goal.returns-in-Wait
returns-in-Wait c =
    let octets : Octets c.args.bytes.now = (λ i. omega (arith, c.slice_known-1.given i)) in
    let way_is : c.way_of.result
    ≡ poll_way (session_of c.args.bytes.now)
    c.args.event = let start = c in
    let xs = start.args.bytes.now in
    c.way_of.ensures
    ∙ ap₂ (λ (h : IsoHead) (f : Option IsoHaltReason). way_of h f start.args.event)
    (c.head_at-head.ensures ∙ head_there xs) (c.reason_at-fatal.ensures ∙ reason_there xs) in
    let start = c in
    let xs = start.args.bytes.now in
    let ring = start.args.ring.now in
    acted xs ring {w = poll_way (session_of xs) start.args.event}
    (sym c.in-Wait.is ∙ way_is) c.said-in-Wait.ensures.0 c.said-in-Wait.ensures.1
    (same_bytes xs octets
    start.requires.0.0) refl

pub returns-in-Settle : goal.returns-in-Settle
returns-in-Settle c =
    let way_is : c.way_of.result
    ≡ poll_way (session_of c.args.bytes.now)
    c.args.event = let start = c in
    let xs = start.args.bytes.now in
    c.way_of.ensures
    ∙ ap₂ (λ (h : IsoHead) (f : Option IsoHaltReason). way_of h f start.args.event)
    (c.head_at-head.ensures ∙ head_there xs) (c.reason_at-fatal.ensures ∙ reason_there xs) in
    let start = c in
    let xs =
    start.args.bytes.now in
    let ring =
    start.args.ring.now in
    acted xs ring {w = poll_way (session_of xs)
    start.args.event}
    (sym c.in-Settle.is
    ∙ way_is) c.said-in-Settle.ensures.0 c.said-in-Settle.ensures.1
    c.drain_at.ensures.0 c.drain_at.ensures.1
