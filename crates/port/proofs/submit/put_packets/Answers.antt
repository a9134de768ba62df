-- One turn writes the next packet's plan; at the end none is left to write.
use Rattle.std.proofs.Common.{◌≡◌, ℕ, ◌+◌, ◌*◌, ◌%◌, length, get_or, take, drop, sym, refl, ap, ◌∙◌, arith, rules}
use lib.Seq.{sets}
use Rattle.ring.proofs.Stores.{some_slots, slot_more}
use Rattle.session.specs.Session.{blank_plan}
use Rattle.session.specs.Place.{plans_from}
use Rattle.session.proofs.Laws.Stores.{new_plan}
use Rattle.port.specs.Layout.{plan_bytes, table_bytes}
use Rattle.port.proofs.Laws.Entries.{length_plan}
use Rattle.port.proofs.Laws.Tables.{write_more, write_end}
use Rattle.port.proofs.Laws.Submits.{length_packets, packet_there}
use Rattle.port.proofs.submit.put_packets.Goals as goal

pub loop-i-init : goal.loop-i-init
loop-i-init c =
    let p = c.args.parts in
    let packets = plans_from p.slots p.insert p.step 0 (take p.added c.args.lengths.now) in
    let here : 1320 + 7 * (p.to + 0) ≡ 1320 + 7 * p.to = omega arith in
    (search rules, refl, ap (λ (k : ℕ). sets c.args.bytes.now k (table_bytes plan_bytes packets)) here)

pub loop-i-preserved : goal.loop-i-preserved
loop-i-preserved c =
    let p = c.args.parts in
    let L = c.args.lengths.now in
    let now = c.loop-i in
    let packets = plans_from p.slots p.insert p.step 0 (take p.added L) in
    let many : length packets ≡ p.added = length_packets p.slots p.insert p.step p.added L c.requires.2 in
    let plan = new_plan (get_or L now.i 0) now.slot in
    let there : plan ≡ get_or packets now.i blank_plan =
    packet_there p.slots p.insert p.step p.added L c.requires.2 now.i now.slot (omega arith) now.invariant.0 in
    let on : 1320 + 7 * (p.to + (now.i + 1)) ≡ 1320 + 7 * (p.to + now.i) + 7 = omega arith in (
      slot_more p.slots p.insert p.step now.i now.slot c.next_slot-slot.result now.invariant.0
          (c.next_slot-slot.ensures ∙ ap (λ (k : ℕ). (now.slot + p.step) % k) (some_slots p.slots c.requires.0)),
      c.put_plan.auto.bytes ∙ now.invariant.1,
      ap (λ (k : ℕ). sets c.put_plan.new.bytes k (table_bytes plan_bytes (drop (now.i + 1) packets))) on
          ∙ write_more plan_bytes 7 now.i (1320 + 7 * (p.to + now.i)) packets blank_plan plan now.bytes (omega arith) there (length_plan plan) c.put_plan.ensures
          ∙ now.invariant.2,
    )

pub returns : goal.returns
returns c =
    let p = c.args.parts in
    let packets = plans_from p.slots p.insert p.step 0 (take p.added c.args.lengths.now) in
    let many : length packets ≡ p.added = length_packets p.slots p.insert p.step p.added c.args.lengths.now c.requires.2 in
    sym (write_end plan_bytes 7 c.loop-i.i (1320 + 7 * (p.to + c.loop-i.i)) packets c.loop-i.bytes (omega arith)) ∙ c.loop-i.invariant.2
