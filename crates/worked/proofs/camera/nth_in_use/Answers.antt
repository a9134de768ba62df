-- A slot in use is the one looked for or one is counted off; behind the last slot none is left.
use Rattle.std.proofs.Common.{◌≡◌, sym, ap, ◌∙◌, arith, ℕ, ◌+◌, ◌-◌, ◌*◌, ◌/◌, length, get_or, drop}
use Rattle.worked.specs.Camera.{slots_in_use}
use Rattle.worked.proofs.Slots.{slot_later, slot_none}
use Rattle.worked.proofs.camera.nth_in_use.Goals as goal

pub loop-slot-preserved : goal.loop-slot-preserved
loop-slot-preserved c =
    let ring = c.args.ring.now in
    let slot = c.loop-slot.slot in
    let left = c.loop-slot.left in
    let next : get_or (slots_in_use (slot + 1) (drop ((slot + 1) * 2) ring)) (left - c.mark-used.result) (length ring / 2)
    ≡ get_or (slots_in_use slot (drop (slot * 2) ring)) left (length ring / 2) =
    ap (λ (m : ℕ). get_or (slots_in_use (slot + 1) (drop ((slot + 1) * 2) ring)) (left - m) (length ring / 2)) c.mark-used.ensures
    ∙ sym (slot_later ring slot left (length ring / 2) (omega arith) (omega (arith, c.mark-used.ensures)))
    in
    next ∙ c.loop-slot.invariant

pub returns : goal.returns
returns c =
    let ring = c.args.ring.now in
    sym (slot_none ring c.loop-slot.slot c.loop-slot.left (length ring / 2) (omega arith)) ∙ c.loop-slot.invariant
