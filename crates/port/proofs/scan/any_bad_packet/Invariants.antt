-- The invariant: one was found or a bad entry is among those still to be looked at, exactly if one is among all.
use Rattle.std.proofs.Common.{◌≡◌, ◌+◌, ◌-◌, ◌*◌, ◌||◌, drop}
use Rattle.port.specs.Layout.{any_of}
use Rattle.port.specs.Scan.{is_bad_plan_entry}
use Rattle.port.proofs.scan.any_bad_packet.Given as goal

abbrev pub invariant-loop-i : goal.invariant-loop-i
invariant-loop-i l =
    (l.bad || any_of (is_bad_plan_entry l.limit l.slots) 7 (l.to - l.i) (drop (1320 + 7 * l.i) l.bytes))
    ≡ any_of (is_bad_plan_entry l.limit l.slots) 7 (l.to - l.from) (drop (1320 + 7 * l.from) l.bytes)
