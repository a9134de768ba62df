-- The invariant: the plans still to be written, stored into the bytes as they are now, give the goal; `slot` is the next packet's.
use Rattle.std.proofs.Common.{◌≡◌, ◌+◌, ◌*◌, length, take, drop}
use lib.Seq.{sets}
use Rattle.ring.specs.RingSums.{slot_at}
use Rattle.session.specs.Place.{plans_from}
use Rattle.port.specs.Layout.{table_bytes, plan_bytes}
use Rattle.port.proofs.submit.put_packets.Given as goal

abbrev pub invariant-loop-i : goal.invariant-loop-i
invariant-loop-i l =
    (l.slot ≡ slot_at l.parts.slots l.parts.insert l.parts.step l.i) × (length l.bytes ≡ length l.initial.bytes)
    × (sets l.bytes (1320 + 7 * (l.parts.to + l.i)) (table_bytes plan_bytes (drop l.i (plans_from l.parts.slots l.parts.insert l.parts.step 0 (take l.parts.added l.lengths))))
    ≡ sets l.initial.bytes (1320 + 7 * l.parts.to) (table_bytes plan_bytes (plans_from l.parts.slots l.parts.insert l.parts.step 0 (take l.parts.added l.lengths))))
