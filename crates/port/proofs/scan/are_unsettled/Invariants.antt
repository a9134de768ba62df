-- The invariant: what is put together is below none of the words passed, nor its length below theirs; where both are in their limits, a bad entry
-- is among those still to be looked at exactly if one is among all.
use Rattle.std.proofs.Common.{◌≡◌, ◌+◌, ◌-◌, ◌*◌, ◌/◌, ◌%◌, ◌<◌, ◌≤◌, drop}
use Rattle.port.specs.Layout.{any_of}
use Rattle.port.specs.Scan.{is_bad_plan_entry}
use Rattle.port.proofs.scan.are_unsettled.Given as goal

abbrev pub invariant-loop-i : goal.invariant-loop-i
invariant-loop-i l =
    l.words < 16777216 * l.slots → l.words / 256 % 65536 ≤ l.limit
    → any_of (is_bad_plan_entry l.limit l.slots) 7 (l.to - l.i) (drop (1320 + 7 * l.i) l.bytes)
    ≡ any_of (is_bad_plan_entry l.limit l.slots) 7 (l.to - l.from) (drop (1320 + 7 * l.from) l.bytes)
