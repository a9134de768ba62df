-- Where one is bad nothing is counted.
use Rattle.std.proofs.Common.{cond, Some, None, Bool, sym, ap, ◌∙◌}
use lib.Seq.{slice}
use Rattle.session.specs.Session.{packets_of}
use Rattle.port.specs.Places.{requests_of}
use Rattle.port.specs.Scan.{is_bad_request_entry}
use Rattle.port.proofs.Laws.Tables.{any_places}
use Rattle.port.proofs.scan.requests_checked.Goals as goal

pub returns-in-Some : goal.returns-in-Some
returns-in-Some c =
    let xs = c.args.bytes.now in
    let said = c.in-Some.ensures in
    ap Some said.1 ∙ ap (λ (b : Bool). cond b None (Some (packets_of (slice 0 c.args.n (requests_of xs))))) (sym said.0)

pub returns-then-any_bad_entry : goal.returns-then-any_bad_entry
returns-then-any_bad_entry c =
    let xs = c.args.bytes.now in
    let found = any_places is_bad_request_entry 20 c.args.n 40 xs c.any_bad_entry.ensures in
    ap (λ (b : Bool). cond b None (Some (packets_of (slice 0 c.args.n (requests_of xs))))) (sym c.if-any_bad_entry.true ∙ found)

pub returns : goal.returns
returns c =
    let xs = c.args.bytes.now in
    let found = any_places is_bad_request_entry 20 c.args.n 40 xs c.any_bad_entry.ensures in
    ap Some c.packets_before.ensures
    ∙ ap (λ (b : Bool). cond b None (Some (packets_of (slice 0 c.args.n (requests_of xs))))) (sym c.if-any_bad_entry.false ∙ found)
