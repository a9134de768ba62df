-- The bytes of the entries move down, and so do the entries; where none is to move, the bytes are as they were.
use Rattle.std.proofs.Common.{List, sym, refl, ap, arith}
use Rattle.session.specs.declared.types.IsoPacketPlan.{IsoPacketPlan}
use Rattle.session.proofs.Laws.Lists.{write_past}
use Rattle.port.specs.Layout.{session_of}
use Rattle.port.specs.Places.{plans_of, with_plans}
use Rattle.port.proofs.Canonical.{loaded_left}
use Rattle.port.proofs.Laws.Closing.{plans_moved}
use Rattle.port.proofs.Laws.Kept.{Octets}
use Rattle.port.proofs.Laws.Left.{left_is}
use Rattle.port.proofs.reclaim.close_plans_at.Goals as goal

pub returns-then-from-to : goal.returns-then-from-to
returns-then-from-to c =
    let octets : Octets c.args.bytes.now = (λ i. omega (arith, c.slice_known-1.given i)) in
    let known = c in
    let start = known in
    let a = start.args in
    plans_moved a.bytes.now start.requires.0 octets a.into a.from a.to start.requires.1 (omega arith) start.requires.2
    c.move_down.ensures

pub returns-else-from-to : goal.returns-else-from-to
returns-else-from-to c =
    let octets : Octets c.args.bytes.now = (λ i. omega (arith, c.slice_known-1.given i)) in
    let a = c.args in
    let xs = a.bytes.now in
    left_is (loaded_left xs c.requires.0 octets)
    (ap (with_plans (session_of xs))
    (sym (write_past (λ (vs : List IsoPacketPlan). vs) a.into a.from a.to (plans_of xs) (plans_of xs) refl (omega arith))))
