-- What draining leaves: each request's number and packets, each plan's slot, what was completed before, and every word of the ring that is no word of
-- a slot whose request it settled.
use mathlib.Core.Path.{◌≡◌, refl, ◌∙◌, sym, ap}
use mathlib.Core.Bool.{Bool, true, false, ◌||◌}
use mathlib.Core.List.{List, [], ◌∷◌, map}
use Prim.Native.Nat.{ℕ, zero, suc, ◌+◌, ◌-◌, ◌*◌, ◌/◌, ◌≤◌, ◌<◌}
use native.Mathlib.Omega.{arith}
use lib.Dec.{ltb}
use lib.ListN.{length, get_or, set, get_or-map}
use lib.Seq.{length-slice, get_or-set_other}
use borrow.Author.Tests.{ltb-true, ltb-false}
use Rattle.session.specs.declared.types.IsoPacketPlan.{IsoPacketPlan}
use Rattle.session.specs.declared.types.IsoChannelState.{IsoChannelState}
use Rattle.session.specs.Session.{blank_request, blank_plan}
use Rattle.session.specs.Settle.{oldest_from, oldest_to, oldest_plans, settled_plans, slots_cleared, Drained}
use Rattle.session.specs.Settle.{settled_session, settled_ring, is_served, drain, drained}
use Rattle.session.proofs.Laws.Lists.{get_or-slice, get_d_sets_before}
use Rattle.session.proofs.Laws.Sums.{packets_next, packets_past, packets_split}
use Rattle.session.proofs.Laws.Record.{Sound}
use Rattle.session.proofs.Laws.Ended.{packets, packets_kept}
use Rattle.session.proofs.Laws.Settled.{oldest_in, settled_sound, drained_past, drained_stop, drained_next}
use Rattle.session.proofs.Laws.Tests.{chosen}
use Rattle.laws.proofs.Calls.Settled.{number, slot, settled_others, settled_numbers, settled_packets, settled_slots}

-- ---- the ring

-- clearing slots leaves the words of the others
pub cleared_other :
    (ps : List IsoPacketPlan) (ring : List ℕ) (w : ℕ) → ((k : ℕ) → k < length ps → slot (get_or ps k blank_plan) ≡ w / 2 → ⊥)
    → get_or (slots_cleared ps ring) w 0 ≡ get_or ring w 0
cleared_other [] ring w h = refl
cleared_other (p ∷ ps) ring w h =
    let d : ℕ = p.desc_index in
    let other : d ≡ w / 2 → ⊥ = h 0 (omega arith) in
    let first : w ≡ 2 * d → ⊥ = λ e. other (omega (arith, e)) in
    let second : w ≡ 2 * d + 1 → ⊥ = λ e. other (omega (arith, e)) in
    cleared_other ps (set (set ring (2 * d) 0) (2 * d + 1) 0) w (λ k u. h (suc k) (omega arith))
    ∙ get_or-set_other (set ring (2 * d) 0) (2 * d + 1) w 0 0 second
    ∙ get_or-set_other ring (2 * d) w 0 0 first

-- ---- one request settled

module _ (s : IsoChannelState) (ring : List ℕ) (g : Sound s) (h : s.head.done < s.head.count) where
  -- the plans of those completed end where the settled one's ended
  settled_from : oldest_from (settled_session s ring) ≡ oldest_to s
  settled_from =
      let done : ℕ = s.head.done in
      let long : done + 1 ≤ length s.requests = omega (arith, g.requests_long, g.count_in) in
      let same = packets_kept s.requests (settled_session s ring).requests (settled_packets s ring) 0 (done + 1) in
      let parts = packets_split done (done + 1) s.requests (omega arith) long in
      let one = packets_next done (done + 1) s.requests (omega arith) long in
      omega (arith, same, parts, one, packets_past (done + 1) (done + 1) s.requests (omega arith))

-- ---- some requests settled

-- d is what draining leaves of s and its ring
pub record Drains (s : IsoChannelState) (ring : List ℕ) (d : Drained) : Type 0 where
  pub count : d.session.head.count ≡ s.head.count
  pub done : s.head.done ≤ d.session.head.done
  pub within : d.session.head.done ≤ s.head.count
  pub numbers : map number d.session.requests ≡ map number s.requests
  pub packets : map packets d.session.requests ≡ map packets s.requests
  pub slots : map slot d.session.plans ≡ map slot s.plans
  pub more : oldest_from s ≤ oldest_from d.session
  pub request : (i : ℕ) → i < s.head.done → get_or d.session.requests i blank_request ≡ get_or s.requests i blank_request
  pub later : (i : ℕ) → d.session.head.done ≤ i → get_or d.session.requests i blank_request ≡ get_or s.requests i blank_request
  pub plan : (j : ℕ) → j < oldest_from s → get_or d.session.plans j blank_plan ≡ get_or s.plans j blank_plan
  pub word :
      (w : ℕ) → ((j : ℕ) → oldest_from s ≤ j → j < oldest_from d.session → slot (get_or s.plans j blank_plan) ≡ w / 2 → ⊥)
      → get_or d.ring w 0 ≡ get_or ring w 0

none : (s : IsoChannelState) (ring : List ℕ) → Sound s → Drains s ring (record { session = s; ring = ring })
none s ring g =
    record {
      count = refl;
      done = omega arith;
      within = g.done_in;
      numbers = refl;
      packets = refl;
      slots = refl;
      more = omega arith;
      request = λ i u. refl;
      later = λ i u. refl;
      plan = λ j u. refl;
      word = λ w u. refl;
    }

one_more_lem :
    (s : IsoChannelState) (ring : List ℕ) (d : Drained) → Sound s → s.head.done < s.head.count
    → Drains (settled_session s ring) (settled_ring s ring) d → Drains s ring d
one_more_lem s ring d g h n =
    let from = settled_from s ring g h in
    let fits : oldest_to s ≤ length s.plans = omega (arith, oldest_in s g h, g.all_few, g.plans_long) in
    let many = length-slice (oldest_from s) (oldest_to s) s.plans fits in
    let same : (j : ℕ) → slot (get_or (settled_session s ring).plans j blank_plan) ≡ slot (get_or s.plans j blank_plan) =
    λ j. sym (get_or-map slot (settled_session s ring).plans j blank_plan)
    ∙ ap (λ (ns : List ℕ). get_or ns j 0) (settled_slots s ring g h)
    ∙ get_or-map slot s.plans j blank_plan in
    record {
      count = n.count;
      done = omega (arith, n.done);
      within = n.within;
      numbers = n.numbers ∙ settled_numbers s ring;
      packets = n.packets ∙ settled_packets s ring;
      slots = n.slots ∙ settled_slots s ring g h;
      more = omega (arith, n.more, from);
      request = λ i u. n.request i (omega arith) ∙ settled_others s ring i (λ e. omega (arith, e));
      later = λ i u. n.later i u ∙ settled_others s ring i (λ e. omega (arith, e, n.done));
      plan = λ j u. n.plan j (omega (arith, from)) ∙ get_d_sets_before (settled_plans s ring) s.plans (oldest_from s) j blank_plan u;
      word =
          λ w u. n.word w (λ j a b e. u j (omega (arith, a, from)) b (sym (same j) ∙ e))
          ∙ cleared_other (oldest_plans s) ring w
          (λ k a e. u (oldest_from s + k) (omega arith) (omega (arith, a, many, n.more, from))
          (sym (ap slot (get_or-slice (oldest_from s) (oldest_to s) k s.plans blank_plan (omega (arith, a, many)))) ∙ e));
    }

drain_leaves :
    (k : ℕ) (bit : Bool) (s : IsoChannelState) (ring : List ℕ) → Sound s → s.head.done + k ≤ s.head.count → Drains s ring (drain k bit s ring)
drain_leaves zero bit s ring g h = none s ring g
drain_leaves (suc k) bit s ring g h =
    let rest = drain k false (settled_session s ring) (settled_ring s ring) in
    chosen (Drains s ring) (bit || is_served s ring) rest (record { session = s; ring = ring })
    (λ e. one_more_lem s ring rest g (omega arith)
    (drain_leaves k false (settled_session s ring) (settled_ring s ring) (settled_sound s ring g (omega arith)) (omega arith)))
    (λ e. none s ring g)

pub drained_leaves : (bit : Bool) (s : IsoChannelState) (ring : List ℕ) → Sound s → Drains s ring (drained bit s ring)
drained_leaves bit s ring g = drain_leaves (s.head.count - s.head.done) bit s ring g (omega (arith, g.done_in))

-- where it settles none, the ring is as it was
pub drained_none :
    (bit : Bool) (s : IsoChannelState) (ring : List ℕ) → Sound s → (drained bit s ring).session.head.done ≡ s.head.done
    → (drained bit s ring).ring ≡ ring
drained_none bit s ring g e = pending (ltb s.head.done s.head.count) refl
  where
    served : (b : Bool) → (bit || is_served s ring) ≡ b → s.head.done < s.head.count → (drained bit s ring).ring ≡ ring
    served true u h =
        let next = drained_next bit s ring h u in
        let settled = drained_leaves false (settled_session s ring) (settled_ring s ring) (settled_sound s ring g h) in
        let same = ap (λ (d : Drained). d.session.head.done) next in
        absurd (omega (arith, same, e, settled.done))
    served false u h = ap (λ (d : Drained). d.ring) (drained_stop bit s ring h u)

    pending : (b : Bool) → ltb s.head.done s.head.count ≡ b → (drained bit s ring).ring ≡ ring
    pending true u = served (bit || is_served s ring) refl (ltb-true s.head.done s.head.count u)
    pending false u = ap (λ (d : Drained). d.ring) (drained_past bit s ring (ltb-false s.head.done s.head.count u))
