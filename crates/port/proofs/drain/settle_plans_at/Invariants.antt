-- The invariant: the bytes hold, in the place of those at the beginning, the session with its plans as they are now; what is left to settle of them
-- gives the settled table, what is left to add gives the sum, and the slots of those left are in the ring.
use Rattle.std.proofs.Common.{◌≡◌, ◌+◌, ◌*◌, ◌≤◌, map, length}
use lib.Seq.{slice, sets}
use Rattle.session.specs.Settle.{settled_plan, moved_total}
use Rattle.port.specs.Layout.{session_of}
use Rattle.port.specs.Places.{plans_of, with_plans, Left}
use Rattle.port.proofs.Laws.Settling.{SlotsIn}
use Rattle.port.proofs.drain.settle_plans_at.Given as goal

abbrev pub invariant-loop-i : goal.invariant-loop-i
invariant-loop-i l =
    (length l.bytes ≡ length l.initial.bytes) × (l.sum ≤ 65535 * l.i) × (Left l.initial.bytes l.bytes (with_plans (session_of l.initial.bytes) (plans_of l.bytes)))
    × (sets (plans_of l.bytes) l.i (map (settled_plan l.direction l.ring) (slice l.i l.to (plans_of l.bytes)))
    ≡ sets (plans_of l.initial.bytes) l.from (map (settled_plan l.direction l.ring) (slice l.from l.to (plans_of l.initial.bytes))))
    × (l.sum + moved_total (map (settled_plan l.direction l.ring) (slice l.i l.to (plans_of l.bytes)))
    ≡ moved_total (map (settled_plan l.direction l.ring) (slice l.from l.to (plans_of l.initial.bytes))))
    × SlotsIn l.i l.to (plans_of l.bytes) l.ring
