-- Of the slots from here on, the one that is still looked for is the one that was looked for at first.
use Rattle.std.proofs.Common.{◌≡◌, ◌*◌, ◌/◌, length, get_or, drop}
use Rattle.worked.specs.Camera.{slots_in_use}
use Rattle.worked.proofs.camera.nth_in_use.Given as goal

abbrev pub invariant-loop-slot : goal.invariant-loop-slot
invariant-loop-slot l =
    get_or (slots_in_use l.slot (drop (l.slot * 2) l.ring)) l.left (length l.ring / 2) ≡ get_or (slots_in_use 0 l.ring) l.n (length l.ring / 2)
