-- `submit` is its parts, with the tables written in place. The invariant: only the plans change, and those still to be put, put into the table as it
-- is now, give the goal; `slot` is the next packet's.
use mathlib.Core.Path.{◌≡◌, refl, ◌∙◌, ap, ap₂}
use mathlib.Core.Logic.{inl, inr}
use Prim.Native.Nat.{ℕ, ◌+◌, ◌%◌, ◌≤◌}
use native.Mathlib.Omega.{arith}
use lib.ListN.{length, get_or, set, take, drop, length-set}
use lib.Seq.{sets}
use Rattle.ring.proofs.Stores.{some_slots, slot_more}
use Rattle.session.specs.declared.types.IsoChannelState.{IsoChannelState}
use Rattle.session.specs.declared.types.IsoRequest.{IsoRequest}
use Rattle.session.specs.Scan.{whole}
use Rattle.session.specs.Place.{plans_from}
use Rattle.session.specs.Parts.{plans_with}
use Rattle.session.proofs.Laws.Stores.{new_plan, plans_next, plans_past}
use Rattle.session.proofs.Laws.Submits.{Pushed, joined_by}
use Rattle.session.proofs.types.IsoChannelState.submit.Goals as goal
use Rattle.session.proofs.types.IsoChannelState.submit.Goals.{then-n-gt0, else-n-gt0}

pub loop-i-preserved : goal.loop-i-preserved
loop-i-preserved c =
    let L = c.args.lengths.now in
    let r = c.parts_of-parts.result in
    let parted = c.parts_of-parts.ensures.0 in
    let now = c.loop-i in
    let many : r.added ≤ length L = omega (arith, (parted.fitting (omega arith)).every) in
    let next : r.to + (now.i + 1) ≡ (r.to + now.i) + 1 = omega arith in (
      omega arith,
      slot_more r.slots r.insert r.step now.i now.slot c.next_slot-slot.result now.invariant.1 (c.next_slot-slot.ensures
          ∙ ap (λ (k : ℕ). (now.slot + r.step) % k) (some_slots r.slots parted.some_slots)),
      length-set now.self.plans _ _ ∙ now.invariant.2,
      ap
          (λ (s : IsoChannelState).
          whole s.cfg s.head s.fatal s.requests (set now.self.plans (r.to + now.i) (new_plan (get_or L now.i 0) now.slot)))
          now.invariant.3,
      ap
          (λ (n : ℕ).
          sets (set now.self.plans (r.to + now.i) (new_plan (get_or L now.i 0) now.slot)) n
          (plans_from r.slots r.insert r.step (now.i + 1) (drop (now.i + 1) (take r.added L))))
          next
          ∙ plans_next r.slots r.insert r.step now.i r.added L now.self.plans (r.to + now.i) now.slot (omega arith) many now.invariant.1
          ∙ now.invariant.4,
    )

pub returns : goal.returns
returns c =
    let s = c.args.self in
    let L = c.args.lengths.now in
    let r = c.parts_of-parts.result in
    let now = c.loop-i in
    let put : now.self.plans ≡ plans_with s r L =
    plans_past r.slots r.insert r.step now.i r.added L now.self.plans (r.to + now.i) (omega arith) ∙ now.invariant.4 in
    let push : Pushed s L r c.if-n-gt0.self now.self.plans =
    elim c.if-n-gt0.branch [
      | then-n-gt0 w ↦
          inl (
            w.if-n-gt0.true,
            w.self-is
                ∙ ap₂ (λ (x : IsoChannelState) (q : IsoRequest). whole x.cfg x.head x.fatal (set x.requests s.head.count q) x.plans)
                now.invariant.3 w.new_request.ensures,
          )
      | else-n-gt0 w ↦ inr (w.if-n-gt0.false, w.self-is ∙ now.invariant.3)
    ] in
    (joined_by s L r c.if-n-gt0.self now.self.plans push put ∙ c.parts_of-parts.ensures.0.joins, c.parts_of-parts.ensures.1)

pub overflow_cast-self : goal.overflow_cast-self
overflow_cast-self c =
    let fit = c.parts_of-parts.ensures.0.fitting (omega arith) in
    omega (arith, fit.short c.loop-i.i (omega (arith, fit.every)))

pub loop-i-init : goal.loop-i-init
loop-i-init c =
    let s = c.args.self in
    let L = c.args.lengths.now in
    let r = c.parts_of-parts.result in
    let to : r.to + 0 ≡ r.to = omega arith in (
      omega arith,
      ap (λ (k : ℕ). k % r.slots) (omega arith),
      omega arith,
      refl,
      ap (λ (n : ℕ). sets s.plans n (plans_from r.slots r.insert r.step 0 (take r.added L))) to,
    )
