-- Settling the oldest request keeps the invariant: its slots become zero, what was put for it goes.
use mathlib.Core.Path.{◌≡◌, refl, ◌∙◌, sym, ap, subst, subst⁻¹}
use mathlib.Core.Bool.{Bool, false, ◌||◌}
use mathlib.Core.List.{List, [], ◌∷◌, ◌++◌, map, map-append}
use Prim.Native.Nat.{ℕ, zero, suc, ◌+◌, ◌-◌, ◌*◌, ◌≤◌, ◌<◌}
use native.Mathlib.Omega.{arith}
use lib.ListN.{length, get_or, set, drop, length-map, length-drop}
use lib.Seq.{slice, sets, set-get_or, set-set, set_comm, drop_at, drop-drop, length-slice}
use Rattle.session.specs.declared.types.IsoPacketPlan.{IsoPacketPlan}
use Rattle.session.specs.declared.types.IsoChannelState.{IsoChannelState}
use Rattle.session.specs.Session.{ring_words, packets_of, all_packets, pending_packets}
use Rattle.session.specs.Way.{pending_plans}
use Rattle.session.specs.Settle.{Drained, oldest, oldest_from, oldest_to, oldest_plans, settled_plans, settled_request, settled_session, slots_cleared, settled_ring, is_served, drain}
use Rattle.session.proofs.Laws.Sums.{packets_next, packets_split}
use Rattle.session.proofs.Laws.Lists.{slice_after_set, slice_split, map_drop}
use Rattle.session.proofs.Laws.Settled.{oldest_in, all_settled, settled_sound, settled_count}
use Rattle.session.proofs.Laws.Tests.{chosen}
use Rattle.laws.specs.Drawing.{Laid, drawn, slot_of, Distinct}
use Rattle.laws.specs.Run.{State, still_put}
use Rattle.laws.specs.Demand3.{slot_of_plan}
use Rattle.laws.specs.Invariant.{Fits, Invariant}
use Rattle.laws.proofs.Lists.{distinct_head, distinct_tail, distinct_drop, slice_after_sets}
use Rattle.laws.proofs.Drawn.{one, Within, within_tail, drawn_set}
use Rattle.laws.proofs.Fitting.{blank, blank_zero, put_length, put_below, pending_within}
use Rattle.laws.proofs.Calls.Settled.{settled_numbers}
use Rattle.laws.proofs.Keeping.{Keeps, numbered_same, keeps_none}

-- ---- slots cleared

-- a packet laid on zeros and taken off again
taken_off : (x : Laid) (ring : List ℕ) → get_or ring (2 * x.slot) 0 ≡ 0 → get_or ring (2 * x.slot + 1) 0 ≡ 0
    → set (set (one x ring) (2 * x.slot) 0) (2 * x.slot + 1) 0 ≡ ring
taken_off x ring a b =
    let first = set ring (2 * x.slot + 1) x.address in
    ap (λ (r : List ℕ). set r (2 * x.slot + 1) 0) (set-set first (2 * x.slot) x.status 0)
    ∙ set_comm first (2 * x.slot) (2 * x.slot + 1) 0 0 (λ e. omega arith)
    ∙ ap (λ (r : List ℕ). set r (2 * x.slot) 0) (set-set ring (2 * x.slot + 1) x.address 0)
    ∙ ap (λ (n : ℕ). set (set ring (2 * x.slot + 1) n) (2 * x.slot) 0) (sym b)
    ∙ ap (λ (r : List ℕ). set r (2 * x.slot) 0) (set-get_or ring (2 * x.slot + 1) 0)
    ∙ ap (λ (n : ℕ). set ring (2 * x.slot) n) (sym a)
    ∙ set-get_or ring (2 * x.slot) 0

-- the slots of the first ones cleared, on zeros, leave the drawing of the others
pub drawn_cleared :
    (ps : List IsoPacketPlan) (put : List Laid) (rest : List ℕ) (words : ℕ) (ring : List ℕ) → map slot_of put ≡ map slot_of_plan ps ++ rest
    → Distinct (map slot_of put)
    → Within words put → ((w : ℕ) → w < words → get_or ring w 0 ≡ 0) → slots_cleared ps (drawn put ring) ≡ drawn (drop (length ps) put) ring
drawn_cleared [] put rest words ring e d w z = refl
drawn_cleared (p ∷ ps) [] rest words ring e d w z = let n : 0 ≡ suc (length (map slot_of_plan ps ++ rest)) = ap length e in absurd (omega arith)
drawn_cleared (p ∷ ps) (x ∷ put) rest words ring e d w z =
    let here : x.slot ≡ p.desc_index = ap (λ (l : List ℕ). get_or l 0 0) e in
    let later : map slot_of put ≡ map slot_of_plan ps ++ rest = ap (drop 1) e in
    let off = distinct_head x.slot (map slot_of put) d in
    let laid = one x ring in
    let in_ring : 2 * x.slot + 1 < words = w 0 (omega arith) in
    ap (λ (n : ℕ). slots_cleared ps (set (set (drawn put laid) (2 * n) 0) (2 * n + 1) 0)) (sym here)
    ∙ ap (λ (r : List ℕ). slots_cleared ps (set r (2 * x.slot + 1) 0)) (drawn_set x.slot (2 * x.slot) put laid (omega arith) (omega arith) off 0)
    ∙ ap (slots_cleared ps) (drawn_set x.slot (2 * x.slot + 1) put (set laid (2 * x.slot) 0) (omega arith) (omega arith) off 0)
    ∙ ap (λ (r : List ℕ). slots_cleared ps (drawn put r)) (taken_off x ring (z (2 * x.slot) (omega arith)) (z (2 * x.slot + 1) in_ring))
    ∙ drawn_cleared ps put rest words ring later (distinct_tail x.slot (map slot_of put) d) (within_tail words x put w) z

-- ---- the oldest request

module _ {s : IsoChannelState} {ring : List ℕ} {put : List Laid} (f : Fits s ring put) (h : s.head.done < s.head.count) where
  within : s.head.count ≤ length s.requests
  within = omega (arith, f.sound.requests_long, f.sound.count_in)

  from_is : all_packets s - pending_packets s ≡ oldest_from s
  from_is = omega (arith, packets_split s.head.done s.head.count s.requests f.sound.done_in within)

  pending_is : pending_packets s ≡ (oldest s).packets + packets_of (slice (s.head.done + 1) s.head.count s.requests)
  pending_is = packets_next s.head.done s.head.count s.requests h within

  pending_left : pending_packets s ≡ (oldest s).packets + pending_packets (settled_session s ring)
  pending_left =
      let rest = slice_after_set (s.head.done + 1) s.head.count s.head.done s.requests (settled_request s ring) (omega arith) h in
      omega (arith, pending_is, ap packets_of rest)

  to_is : all_packets (settled_session s ring) - pending_packets (settled_session s ring) ≡ oldest_to s
  to_is = omega (arith, all_settled s ring f.sound h, pending_left, from_is, pending_within s f.sound)

  plans_long : all_packets s ≤ length s.plans
  plans_long = omega (arith, f.sound.all_few, f.sound.plans_long)

  oldest_count : length (oldest_plans s) ≡ (oldest s).packets
  oldest_count = omega (arith, length-slice (oldest_from s) (oldest_to s) s.plans (omega (arith, oldest_in s f.sound h, plans_long)))

  -- the plans pending are those of the oldest request and the others
  plans_split : pending_plans s ≡ oldest_plans s ++ slice (oldest_to s) (all_packets s) s.plans
  plans_split =
      ap (λ (n : ℕ). slice n (all_packets s) s.plans) from_is
      ∙ slice_split (oldest_from s) (oldest_to s) (all_packets s) s.plans (omega arith) (oldest_in s f.sound h) plans_long

  plans_left : pending_plans (settled_session s ring) ≡ slice (oldest_to s) (all_packets s) s.plans
  plans_left =
      let new = sets s.plans (oldest_from s) (settled_plans s ring) in
      ap (λ (n : ℕ). slice n (all_packets (settled_session s ring)) new) to_is
      ∙ ap (λ (n : ℕ). slice (oldest_to s) n new) (all_settled s ring f.sound h)
      ∙ slice_after_sets (settled_plans s ring) s.plans (oldest_from s) (oldest_to s) (all_packets s) (omega (arith, settled_count s ring f.sound h))
      (oldest_in s f.sound h)

  slots_split : map slot_of put ≡ map slot_of_plan (oldest_plans s) ++ map slot_of_plan (pending_plans (settled_session s ring))
  slots_split =
      f.in_order ∙ ap (map slot_of_plan) plans_split ∙ map-append slot_of_plan (oldest_plans s) (slice (oldest_to s) (all_packets s) s.plans)
      ∙ ap (λ (l : List IsoPacketPlan). map slot_of_plan (oldest_plans s) ++ map slot_of_plan l) (sym plans_left)

  still_is : still_put (settled_session s ring) put ≡ drop (length (oldest_plans s)) put
  still_is =
      let n : length put - pending_packets (settled_session s ring) ≡ length (oldest_plans s) = omega (arith, put_length f, pending_left, oldest_count) in
      ap (λ (k : ℕ). drop k put) n

  pub settled_fits : Fits (settled_session s ring) (settled_ring s ring) (still_put (settled_session s ring) put)
  settled_fits =
      let zeros = blank (ring_words s.cfg) f.behind in
      let some = map slot_of_plan (oldest_plans s) in
      let others = map slot_of_plan (pending_plans (settled_session s ring)) in
      let inside : Within (ring_words s.cfg) put = λ i k. omega (arith, put_below f i k) in
      let n = length (oldest_plans s) in
      subst⁻¹ (Fits (settled_session s ring) (settled_ring s ring)) still_is
      (record {
        sound = settled_sound s ring f.sound h;
        behind = f.behind;
        drawing =
            ap (slots_cleared (oldest_plans s)) f.drawing
            ∙ drawn_cleared (oldest_plans s) put others (ring_words s.cfg) zeros slots_split f.apart inside (blank_zero (ring_words s.cfg) f.behind);
        in_order = map_drop slot_of n put ∙ ap (drop n) slots_split ∙ drop_at some others n (length-map (oldest_plans s) slot_of_plan);
        apart = subst⁻¹ Distinct (map_drop slot_of n put) (distinct_drop n (map slot_of put) f.apart);
      })

pub settled_keeps : (st : State) → Invariant st → st.session.head.done < st.session.head.count
    → Keeps st (settled_session st.session st.ring) (settled_ring st.session st.ring)
settled_keeps st v h =
    record {
      guarded = v.guarded;
      fits = settled_fits v.fits h;
      numbered =
          numbered_same st.session (settled_session st.session st.ring) st.numbers v.numbered refl
          (settled_numbers st.session st.ring);
    }

-- ---- one after the other

-- what is put still, after what was put still
still_still : (put : List Laid) (p q : ℕ) → q ≤ p → p ≤ length put
    → drop (length (drop (length put - p) put) - q) (drop (length put - p) put) ≡ drop (length put - q) put
still_still put p q l m =
    let n : (length put - p) + (length (drop (length put - p) put) - q) ≡ length put - q = omega (arith, length-drop (length put - p) put) in
    drop-drop (length (drop (length put - p) put) - q) (length put - p) put ∙ ap (λ (k : ℕ). drop k put) n

-- the state with a request settled
abbrev settled_state : State → State
settled_state st =
    record {
      session = settled_session st.session st.ring;
      ring = settled_ring st.session st.ring;
      put = still_put (settled_session st.session st.ring) st.put;
      numbers = st.numbers;
    }

-- what a state with a request settled keeps, the state before it keeps
keeps_after :
    (st : State) → Invariant st → Invariant (settled_state st) → (s : IsoChannelState) (ring : List ℕ) → Keeps (settled_state st) s ring → Keeps st s ring
keeps_after st v u s ring k =
    let r = settled_session st.session st.ring in
    let long : length (still_put r st.put) ≡ pending_packets r = put_length u.fits in
    let last : length (still_put s (still_put r st.put)) ≡ pending_packets s = put_length k.fits in
    let cut = length-drop (length (still_put r st.put) - pending_packets s) (still_put r st.put) in
    let cut0 = length-drop (length st.put - pending_packets r) st.put in
    let few : pending_packets s ≤ pending_packets r = omega (arith, long, last, cut) in
    let fewer : pending_packets r ≤ length st.put = omega (arith, long, cut0) in
    record {
      guarded = k.guarded;
      fits = subst (Fits s ring) (still_still st.put (pending_packets r) (pending_packets s) few fewer) k.fits;
      numbered = k.numbered;
    }

pub drain_keeps :
    (k : ℕ) (bit : Bool) (st : State) → Invariant st → st.session.head.done + k ≤ st.session.head.count
    → Keeps st (drain k bit st.session st.ring).session (drain k bit st.session st.ring).ring
drain_keeps zero bit st v h = keeps_none st v
drain_keeps (suc k) bit st v h =
    let one_kept = settled_keeps st v (omega arith) in
    let u : Invariant (settled_state st) = record { guarded = one_kept.guarded; fits = one_kept.fits; numbered = one_kept.numbered } in
    chosen (λ (d : Drained). Keeps st d.session d.ring) (bit || is_served st.session st.ring)
    (drain k false (settled_state st).session (settled_state st).ring)
    (record { session = st.session; ring = st.ring })
    (λ e. keeps_after st v u _ _ (drain_keeps k false (settled_state st) u (omega arith)))
    (λ e. keeps_none st v)
