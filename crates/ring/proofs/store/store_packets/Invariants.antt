-- The invariant: what is left of the plan, stored into the ring as it is now, gives the goal; two words went into each turn; `slot` is the next
-- packet's, and `addr` its address in 32 bits.
use Rattle.std.proofs.Common.{◌≡◌, ℕ, ◌-◌, ◌*◌, ◌%◌, max, map, length, take, drop}
use Rattle.ring.specs.RingSums.{slot_at}
use Rattle.ring.specs.Stores.{stored, stores_from, as_word}
use Rattle.ring.proofs.store.store_packets.Given as goal

abbrev pub invariant-loop-length : goal.invariant-loop-length
invariant-loop-length l =
    let i = l.length-index in
    (l.slot ≡ slot_at (max 1 l.slots) l.insert l.step i) × (length l.ring ≡ length l.initial.ring)
    × ((a : ℕ) × (l.addr ≡ a % 4_294_967_296)
    × (stored (take (l.words - 2 * i) (map as_word (stores_from (max 1 l.slots) l.insert l.step i a (drop i l.lengths)))) l.ring
    ≡ stored (take l.words (map as_word (stores_from (max 1 l.slots) l.insert l.step 0 l.base l.lengths))) l.initial.ring))
