-- The invariant: a slot still to be looked up is marked just where one of all is.
use mathlib.Core.Path.{ap, ◌∙◌}
use Prim.Native.Nat.{ℕ, ◌+◌, ◌%◌}
use native.Mathlib.Omega.{arith}
use Rattle.ring.proofs.Stores.{some_slots, slot_more}
use Rattle.session.proofs.Laws.Held.{marked_later}
use Rattle.session.proofs.store.any_marked.Goals as goal

pub loop-i-preserved : goal.loop-i-preserved
loop-i-preserved c =
    let a = c.args in
    let now = c.loop-i in (
      omega arith,
      slot_more a.slots a.insert a.step now._i now.slot c.next_slot-slot.result now.invariant.1
          (c.next_slot-slot.ensures ∙ ap (λ (R : ℕ). (now.slot + a.step) % R) (some_slots a.slots (omega arith))),
      marked_later a.held.now a.slots a.insert a.step now._i a.n now.slot (omega arith) now.invariant.1 c.if-held-slot.false
          ∙ now.invariant.2,
    )
