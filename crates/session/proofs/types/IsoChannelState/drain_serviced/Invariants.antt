-- The invariant: the record is sound, and draining from here gives the goal. The measure is how many requests are pending.
use mathlib.Core.Path.{◌≡◌}
use Prim.Native.Nat.{◌-◌}
use lib.ListN.{length}
use Rattle.session.specs.Settle.{drained}
use Rattle.session.proofs.Laws.Record.{Sound}
use Rattle.session.proofs.types.IsoChannelState.drain_serviced.Given as goal

abbrev pub invariant-loop-self : goal.invariant-loop-self
invariant-loop-self l =
    Sound l.self × (length l.ring ≡ length l.initial.ring) × (drained l.at_once l.self l.ring ≡ drained l.bit l.initial.self l.initial.ring)

abbrev pub decreases-loop-self : goal.decreases-loop-self
decreases-loop-self l = l.self.head.count - l.self.head.done
