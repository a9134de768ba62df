-- The invariant: a slot still to be looked up is marked just where one of all is.
use mathlib.Core.Path.{◌≡◌}
use Prim.Native.Nat.{◌-◌, ◌≤◌}
use Rattle.ring.specs.RingSums.{slot_at, slots_from}
use Rattle.session.specs.Way.{any_marked}
use Rattle.session.proofs.store.any_marked.Given as goal

abbrev pub invariant-loop-i : goal.invariant-loop-i
invariant-loop-i l =
    (l._i ≤ l.n) × (l.slot ≡ slot_at l.slots l.insert l.step l._i)
    × (any_marked l.held (slots_from l.slots l.insert l.step l._i (l.n - l._i)) ≡ any_marked l.held (slots_from l.slots l.insert l.step 0 l.n))
