-- With none completed, a place that has the number is below the count, and so is the first with it. Any other answer is that of the walk.
use Rattle.std.proofs.Common.{◌≡◌, ℕ, ◌+◌, ◌*◌, ◌<◌, ◌≤◌, ltb, List, drop, get_or, sym, ◌∙◌, arith, le-ltb, lt-ltb}
use lib.Seq.{slice}
use Rattle.session.specs.Session.{blank_request}
use Rattle.session.specs.Cancel.{place_of}
use Rattle.port.specs.Bytes.{u64_of}
use Rattle.port.specs.Layout.{session_of}
use Rattle.port.proofs.Laws.InUse.{place_reached}
use Rattle.port.proofs.Laws.Placed.{requests_many}
use Rattle.port.proofs.Laws.Walks.{id_there}
use Rattle.port.proofs.cancel.found_at.Goals as goal

likely :
    (xs : List ℕ) (id done count : ℕ) {behind last read : ℕ} → count ≤ 64 → done ≡ 0 → behind < last → last ≡ count → read ≡ u64_of (drop (40 + 20 * behind) xs)
    → read ≡ id
    → (ltb behind done ≡ ltb (place_of id (slice 0 count (session_of xs).requests)) done)
    × (ltb behind count ≡ ltb (place_of id (slice 0 count (session_of xs).requests)) count)
    × (behind < done → behind ≡ place_of id (slice 0 count (session_of xs).requests))
likely xs id done count {behind} few none less ends there same =
    let requests = (session_of xs).requests in
    let in_use : behind < count = omega (arith, less, ends) in
    let this : (get_or requests behind blank_request).id ≡ id = sym (id_there xs behind (omega (arith, in_use, few))) ∙ sym there ∙ same in
    let reached = place_reached id behind count requests in_use (omega (arith, few, requests_many xs)) this in
    let place = place_of id (slice 0 count requests) in (
      le-ltb behind done (omega (arith, none)) ∙ sym (le-ltb place done (omega (arith, none))),
      lt-ltb behind count in_use ∙ sym (lt-ltb place count (omega (arith, in_use, reached))),
      λ below. absurd (omega (arith, none, below)),
    )

pub returns-then-u64_at-id : goal.returns-then-u64_at-id
returns-then-u64_at-id c =
    let a = c.args in
    likely a.bytes.now a.id a.done a.count c.requires.1 c.if-done-eq0.true c.if-behind-from.true c.from.ensures c.u64_at-then-behind-from.ensures
    c.if-u64_at-id.true
