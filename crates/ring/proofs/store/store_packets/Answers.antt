-- A turn stores a whole packet, and what comes after the loop is the packet behind them: the last, or one that is cut.
use Rattle.std.proofs.Common.{◌≡◌, ℕ, ◌+◌, ◌-◌, ◌*◌, ◌%◌, ◌<◌, max, length, map, get_or, take, false, eqb, sym, refl, ap, ◌∙◌, arith}
use native.Mathlib.Nat.{mod-add-mod}
use Rattle.std.proofs.lemmas.List.{get_or-take, length-take}
use Rattle.words.specs.Words.{iso_status}
use Rattle.ring.specs.Stores.{stored, stores_from, as_word}
use Rattle.ring.proofs.Steps.{first_slot}
use Rattle.ring.proofs.Stores.{slot_more, stored_whole, stored_some}
use Rattle.ring.proofs.store.store_packets.Goals as goal

pub loop-length-init : goal.loop-length-init
loop-length-init c =
    let a = c.args in
    let size : c.max-size.result ≡ max 1 a.slots = omega arith in
    let all : a.words - 0 ≡ a.words = omega arith in (
      ap (λ (R : ℕ). a.insert % R) size ∙ sym (first_slot (max 1 a.slots) a.insert a.step),
      refl,
      (
        a.base,
        omega arith,
        ap (λ (n : ℕ). stored (take n (map as_word (stores_from (max 1 a.slots) a.insert a.step 0 a.base a.lengths.now))) a.ring.now) all,
      ),
    )

pub loop-length-preserved : goal.loop-length-preserved
loop-length-preserved c =
    let a = c.args in
    let now = c.loop-length in
    let i = now.length-index in
    let inv = now.invariant in
    let d = c.new_iso-desc in
    let put = c.put_some in
    let size : max 1 c.max-size.result ≡ max 1 a.slots = omega arith in
    let next = c.next_slot-slot.ensures ∙ ap (λ (R : ℕ). (now.slot + a.step) % R) size in
    let low : i < c.min-whole.result = omega (arith, length-take c.min-whole.result a.lengths.now) in
    let len : get_or (take c.min-whole.result a.lengths.now) i 0 ≡ get_or a.lengths.now i 0 = get_or-take c.min-whole.result a.lengths.now i 0 low in (
      slot_more (max 1 a.slots) a.insert a.step i now.slot c.next_slot-slot.result inv.0 next,
      put.auto.ring ∙ inv.1,
      (
        inv.2.0 + get_or a.lengths.now i 0,
        ap (λ (n : ℕ). (now.addr + n) % 4_294_967_296) len ∙ ap (λ (x : ℕ). (x + get_or a.lengths.now i 0) % 4_294_967_296) inv.2.1
            ∙ mod-add-mod inv.2.0 4_294_967_296 (get_or a.lengths.now i 0),
        stored_whole (max 1 a.slots) a.insert a.step i inv.2.0 a.lengths.now now.slot now.addr d.result
            inv.0
            inv.2.1
            (omega arith)
            (d.ensures ∙ ap (λ (n : ℕ). record { status = iso_status n false; paddr = now.addr }) len)
            (a.words - 2 * i)
            (a.words - 2 * (i + 1))
            now.ring
            put.new.ring
            (omega arith)
            put.ensures
            ∙ inv.2.2,
      ),
    )

pub returns-in-Some : goal.returns-in-Some
returns-in-Some c =
    let a = c.args in
    let now = c.loop-length in
    let inv = now.invariant in
    let d = c.new_iso-desc-in-Some in
    let put = c.put_some-in-Some in
    let at : now.length-index ≡ c.min-whole.result = omega (arith, length-take c.min-whole.result a.lengths.now) in
    let found = c.in-Some.ensures.lookup in
    stored_some (max 1 a.slots) a.insert a.step now.length-index inv.2.0 a.lengths.now now.slot now.addr d.result
    inv.0
    inv.2.1
    (omega (arith, at, found))
    (rw (at) (d.ensures ∙ ap (λ (n : ℕ). record { status = iso_status n (eqb (c.min-whole.result + 1) (length a.lengths.now)); paddr = now.addr }) (found.3.1 0)))
    (a.words - 2 * now.length-index)
    (a.words - 2 * c.min-whole.result)
    now.ring
    put.new.ring
    (omega (arith, at))
    (λ two. omega (arith, at))
    put.ensures
    ∙ inv.2.2
