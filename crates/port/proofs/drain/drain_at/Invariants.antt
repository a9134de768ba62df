-- The invariant: the bytes are of the layout and hold, in the place of those at the beginning, a good record whose plans pending begin at `from` and
-- whose words the ring has, and draining it from here gives the goal.
use Rattle.std.proofs.Common.{◌≡◌, ◌≤◌, length}
use Rattle.session.specs.Session.{ring_words}
use Rattle.session.specs.Settle.{oldest_from, drained}
use Rattle.session.proofs.Laws.Record.{Sound}
use Rattle.port.specs.Layout.{layout_number, session_of}
use Rattle.port.specs.Places.{Left}
use Rattle.port.proofs.drain.drain_at.Given as goal

abbrev pub invariant-loop-done : goal.invariant-loop-done
invariant-loop-done l =
    Sound (session_of l.bytes) × (layout_number l.bytes ≡ 0) × (length l.bytes ≡ length l.initial.bytes) × (length l.ring ≡ length l.initial.ring) ×
    (l.done ≡ (session_of l.bytes).head.done)
    × (l.done-end ≡ (session_of l.bytes).head.count) × (l.from ≡ oldest_from (session_of l.bytes)) × (Left l.initial.bytes l.bytes (session_of l.bytes))
    × (drained l.at_once (session_of l.bytes) l.ring ≡ drained l.bit (session_of l.initial.bytes) l.initial.ring) × (ring_words (session_of l.bytes).cfg ≤ length l.ring)
