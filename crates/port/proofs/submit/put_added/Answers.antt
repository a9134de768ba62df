-- None added: the bytes hold the session that they held. Some: each part written is one step of a law.
use Rattle.std.proofs.Common.{arith}
use Rattle.session.specs.Parts.{Fitting}
use Rattle.port.specs.Layout.{session_of}
use Rattle.port.proofs.Laws.Kept.{Octets}
use Rattle.port.proofs.Laws.Submits.{none_put, some_put}
use Rattle.port.proofs.submit.put_added.Goals as goal

pub returns-then-parts-eq0 : goal.returns-then-parts-eq0
returns-then-parts-eq0 c =
    let octets : Octets c.args.bytes.now = (λ i. omega (arith, c.slice_known-1.given i)) in
    none_put c.args.bytes.now octets c.requires.0
    c.args.lengths.now c.args.parts (omega (arith, c.if-parts-eq0.true))
    c.requires.4

pub returns : goal.returns
returns c =
    let octets : Octets c.args.bytes.now = (λ i. omega (arith, c.slice_known-1.given i)) in
    let fit : Fitting (session_of c.args.bytes.now) c.args.parts c.args.lengths.now = c.requires.3 (omega (arith, c.if-parts-eq0.false)) in
    some_put c.args.bytes.now
    octets
    c.requires.0
    c.args.lengths.now
    c.args.parts
    (omega (arith, c.if-parts-eq0.false))
    fit
    c.requires.1
    c.put_packets.ensures c.new_request-request.ensures
    c.put_request.ensures
