-- The invariant: a bad entry is among those still to be looked at exactly if one is in use.
use Rattle.std.proofs.Common.{◌≡◌, ◌+◌, ◌-◌, ◌*◌, drop}
use Rattle.port.specs.Layout.{any_of, is_bad_plan_bytes}
use Rattle.port.proofs.load.any_bad_plan.Given as goal

abbrev pub invariant-loop-i : goal.invariant-loop-i
invariant-loop-i l = any_of is_bad_plan_bytes 7 (l.m - l.i) (drop (1320 + 7 * l.i) l.bytes) ≡ any_of is_bad_plan_bytes 7 l.m (drop 1320 l.bytes)
