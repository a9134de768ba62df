-- `submit` is its parts, with the tables written in place. The invariant: only the plans change, and those still to be put, put into the table as it
-- is now, give the goal; `slot` is the next packet's.
use mathlib.Core.Path.{◌≡◌}
use Prim.Native.Nat.{◌+◌, ◌≤◌}
use lib.ListN.{length, take, drop}
use lib.Seq.{sets}
use Rattle.ring.specs.RingSums.{slot_at}
use Rattle.session.specs.Scan.{whole}
use Rattle.session.specs.Place.{plans_from}
use Rattle.session.proofs.types.IsoChannelState.submit.Given as goal

abbrev pub invariant-loop-i : goal.invariant-loop-i
invariant-loop-i l =
    (l.i ≤ l.n) × (l.slot ≡ slot_at l.parts.slots l.parts.insert l.parts.step l.i) × (length l.self.plans ≡ 1024)
    × (l.self ≡ whole l.initial.self.cfg l.initial.self.head l.initial.self.fatal l.initial.self.requests l.self.plans)
    × (sets l.self.plans (l.parts.to + l.i) (plans_from l.parts.slots l.parts.insert l.parts.step l.i (drop l.i (take l.n l.lengths)))
    ≡ sets l.initial.self.plans l.parts.to (plans_from l.parts.slots l.parts.insert l.parts.step 0 (take l.n l.lengths)))
