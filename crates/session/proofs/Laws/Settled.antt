-- Laws of settling: what each loop does in one turn, and that a sound record stays sound when its oldest request is settled.
use mathlib.Core.Path.{◌≡◌, refl, sym, ap, ◌∙◌, subst⁻¹}
use mathlib.Core.Bool.{Bool, true, false, ◌||◌, cond}
use mathlib.Core.List.{List, map}
use Prim.Native.Nat.{ℕ, zero, suc, ◌+◌, ◌-◌, ◌*◌, ◌≤◌, ◌<◌}
use native.Mathlib.Omega.{arith}
use lib.Dec.{eqb, ltb}
use lib.ListN.{length, get_or, set, drop, length-set, length-map}
use lib.Seq.{slice, sets, length-sets, length-slice, get_or-set_same, get_or-set_other, take-set-le}
use borrow.Author.Tests.{ltb-true, ltb-false, eqb-true, eqb-false}
use Rattle.ring.specs.RingSums.{packet_limit}
use Rattle.words.specs.Words.{moved_length}
use Rattle.words.specs.declared.types.Direction.{Direction}
use Rattle.words.specs.declared.types.Direction.TheVariants.{In, Out}
use Rattle.session.specs.declared.types.IsoPacketPlan.{IsoPacketPlan}
use Rattle.session.specs.declared.types.IsoRequest.{IsoRequest}
use Rattle.session.specs.declared.types.IsoOutcome.TheVariants.{Done}
use Rattle.session.specs.declared.types.IsoChannelState.{IsoChannelState}
use Rattle.session.specs.Session.{blank_request, blank_plan, slots, packets_of, all_packets, pending_packets}
use Rattle.session.specs.Settle.{settled_plan, oldest, oldest_from, oldest_to, oldest_plans, settled_plans, moved_total, settled_request, one_more, settled_session, slots_cleared, settled_ring, is_served, drain, drained}
use Rattle.session.proofs.Laws.Lists.{slice_next, slice_after_set, slice_sets, get_or-slice, get_d_sets_before, get_or-sets_in, get_or-sets_after, get_or-map_in}
use Rattle.session.proofs.Laws.Sums.{packets_next, packets_split}
use Rattle.session.proofs.Laws.Record.{Sound, GoodRequest, GoodPlan}

-- the slots still to clear, after one plan's is
pub cleared_next :
    (i t : ℕ) (l : List IsoPacketPlan) (ring now : List ℕ) → i < t → t ≤ length l
    → now ≡ set (set ring (2 * (get_or l i blank_plan).desc_index) 0) (2 * (get_or l i blank_plan).desc_index + 1) 0
    → slots_cleared (slice (i + 1) t l) now ≡ slots_cleared (slice i t l) ring
cleared_next i t l ring now h k e =
    ap (slots_cleared (slice (i + 1) t l)) e ∙ sym (ap (λ (ps : List IsoPacketPlan). slots_cleared ps ring) (slice_next i t l blank_plan h k))

-- ---- the oldest pending request

-- its plans lie among those in use, and it has some
pub oldest_in : (s : IsoChannelState) → Sound s → s.head.done < s.head.count → oldest_to s ≤ all_packets s
oldest_in s g h =
    omega (
      arith,
      packets_split s.head.done s.head.count s.requests (omega arith) (omega (arith, g.requests_long, g.count_in)),
      packets_next s.head.done s.head.count s.requests h (omega (arith, g.requests_long, g.count_in)),
    )

pub oldest_some : (s : IsoChannelState) → Sound s → s.head.done < s.head.count → 0 < oldest_to s
oldest_some s g h = omega (arith, (g.request s.head.done h).some)

-- the session with these plans and this sum for its oldest request
abbrev pub built_by : IsoChannelState → ℕ → List IsoPacketPlan → IsoChannelState
built_by s total table =
    record {
      cfg = s.cfg;
      head = one_more s.head;
      fatal = s.fatal;
      requests = set s.requests s.head.done (record { id = (oldest s).id; packets = (oldest s).packets; actual_length = total; outcome = Done });
      plans = table;
    }

module _ (s : IsoChannelState) (ring : List ℕ) (from to : ℕ) (ef : from ≡ oldest_from s) (et : to ≡ oldest_to s) where
  pub ring_by_lem : (now : List ℕ) → now ≡ slots_cleared (slice from to s.plans) ring → now ≡ settled_ring s ring
  ring_by_lem now e =
      e ∙ ap (λ (f : ℕ). slots_cleared (slice f to s.plans) ring) ef ∙ ap (λ (t : ℕ). slots_cleared (slice (oldest_from s) t s.plans) ring) et

  module _ (total : ℕ) (table : List IsoPacketPlan) (fits : oldest_to s ≤ length s.plans)
      (made : table ≡ sets s.plans from (map (settled_plan s.cfg.direction ring) (slice from to s.plans)))
      (sum : total ≡ moved_total (slice from to table)) where
    table_by : table ≡ sets s.plans (oldest_from s) (settled_plans s ring)
    table_by =
        made
        ∙ ap (λ (f : ℕ). sets s.plans f (map (settled_plan s.cfg.direction ring) (slice f to s.plans))) ef
        ∙ ap (λ (t : ℕ). sets s.plans (oldest_from s) (map (settled_plan s.cfg.direction ring) (slice (oldest_from s) t s.plans))) et

    count_by : oldest_to s ≡ oldest_from s + length (settled_plans s ring)
    count_by = omega (arith, length-map (oldest_plans s) (settled_plan s.cfg.direction ring), length-slice (oldest_from s) (oldest_to s) s.plans fits)

    sum_by : total ≡ moved_total (settled_plans s ring)
    sum_by =
        sum
        ∙ ap (λ (f : ℕ). moved_total (slice f to table)) ef
        ∙ ap (λ (t : ℕ). moved_total (slice (oldest_from s) t table)) (et ∙ count_by)
        ∙ ap (λ (l : List IsoPacketPlan). moved_total (slice (oldest_from s) (oldest_from s + length (settled_plans s ring)) l)) table_by
        ∙ ap moved_total (slice_sets (settled_plans s ring) s.plans (oldest_from s) (omega (arith, count_by)))

    pub settled_by_lem : built_by s total table ≡ settled_session s ring
    settled_by_lem =
        ap (λ (n : ℕ). built_by s n table) sum_by ∙ ap (built_by s (moved_total (settled_plans s ring))) table_by

-- ---- a sound record stays sound

pub moved_within : (d : Direction) (planned status : ℕ) → moved_length d planned status ≤ planned
moved_within In planned status = omega arith
moved_within Out planned status = omega arith

abbrev pub Good : IsoChannelState → IsoPacketPlan → Type 0
Good s = GoodPlan (packet_limit s.cfg.speed) (slots s.cfg)

module _ (s : IsoChannelState) (ring : List ℕ) (g : Sound s) (h : s.head.done < s.head.count) where
  within : s.head.count ≤ length s.requests
  within = omega (arith, g.requests_long, g.count_in)

  -- the packets of the requests after the oldest one, and of all, are as they were
  rest_kept :
      packets_of (slice (s.head.done + 1) s.head.count (settled_session s ring).requests)
      ≡ packets_of (slice (s.head.done + 1) s.head.count s.requests)
  rest_kept =
      ap packets_of (slice_after_set (s.head.done + 1) s.head.count s.head.done s.requests (settled_request s ring) (omega arith) h)

  front_same : packets_of (slice 0 s.head.done (settled_session s ring).requests) ≡ packets_of (slice 0 s.head.done s.requests)
  front_same =
      ap (λ (l : List IsoRequest). packets_of (drop 0 l)) (take-set-le s.head.done s.requests s.head.done (settled_request s ring) (omega arith))

  here_same : (get_or (settled_session s ring).requests s.head.done blank_request).packets ≡ (oldest s).packets
  here_same = ap (λ (r : IsoRequest). r.packets) (get_or-set_same s.requests s.head.done (settled_request s ring) blank_request (omega (arith, within)))

  long_same : length (settled_session s ring).requests ≡ length s.requests
  long_same = length-set s.requests s.head.done (settled_request s ring)

  pub all_settled : all_packets (settled_session s ring) ≡ all_packets s
  all_settled =
      let new_split = packets_split s.head.done s.head.count (settled_session s ring).requests (omega arith) (omega (arith, long_same, within)) in
      let new-next = packets_next s.head.done s.head.count (settled_session s ring).requests h (omega (arith, long_same, within)) in
      let old-split = packets_split s.head.done s.head.count s.requests (omega arith) within in
      let old-next = packets_next s.head.done s.head.count s.requests h within in
      omega (arith, new_split, new-next, old-split, old-next, rest_kept, front_same, here_same)

  pub pending_settled : pending_packets (settled_session s ring) ≤ pending_packets s
  pending_settled = omega (arith, rest_kept, packets_next s.head.done s.head.count s.requests h within)

  request_kept : (i : ℕ) → i < s.head.count → GoodRequest (get_or (settled_session s ring).requests i blank_request)
  request_kept i l = go (eqb i s.head.done) refl
    where
      go : (b : Bool) → eqb i s.head.done ≡ b → GoodRequest (get_or (settled_session s ring).requests i blank_request)
      go true e =
          let old = g.request s.head.done h in
          let good : GoodRequest (settled_request s ring) = record { some = old.some; few = old.few } in
          subst⁻¹ GoodRequest
          (ap (λ (k : ℕ). get_or (settled_session s ring).requests k blank_request) (eqb-true i s.head.done e)
          ∙ get_or-set_same s.requests s.head.done (settled_request s ring) blank_request (omega (arith, within)))
          good
      go false e =
          subst⁻¹ GoodRequest (get_or-set_other s.requests s.head.done i (settled_request s ring) blank_request (eqb-false i s.head.done e))
          (g.request i l)

  fits_plans : oldest_to s ≤ length s.plans
  fits_plans = omega (arith, oldest_in s g h, g.all_few, g.plans_long)

  pub settled_count : length (settled_plans s ring) ≡ (oldest s).packets
  settled_count =
      omega (arith, length-map (oldest_plans s) (settled_plan s.cfg.direction ring), length-slice (oldest_from s) (oldest_to s) s.plans fits_plans)

  plan_kept : (i : ℕ) → i < all_packets s → Good s (get_or (settled_session s ring).plans i blank_plan)
  plan_kept i l = go (ltb i (oldest_from s)) refl
    where
      amended : (k : ℕ) → k < (oldest s).packets → i ≡ oldest_from s + k → Good s (get_or (settled_session s ring).plans i blank_plan)
      amended k less at =
          let old : Good s (get_or s.plans (oldest_from s + k) blank_plan) = g.plan (oldest_from s + k) (omega arith) in
          let p = get_or s.plans (oldest_from s + k) blank_plan in
          let good : Good s (settled_plan s.cfg.direction ring p) =
          record { planned = old.planned; moved = moved_within s.cfg.direction p.planned _; slot = old.slot } in
          subst⁻¹ (Good s)
          (ap (λ (j : ℕ). get_or (settled_session s ring).plans j blank_plan) at
          ∙ get_or-sets_in (settled_plans s ring) s.plans (oldest_from s) k blank_plan (omega (arith, settled_count)) (omega (arith, settled_count, fits_plans))
          ∙ get_or-map_in (settled_plan s.cfg.direction ring) (oldest_plans s) k blank_plan blank_plan
          (omega (arith, settled_count, length-map (oldest_plans s) (settled_plan s.cfg.direction ring)))
          ∙ ap (settled_plan s.cfg.direction ring) (get_or-slice (oldest_from s) (oldest_to s) k s.plans blank_plan (omega arith)))
          good

      behind : (b : Bool) → ltb i (oldest_to s) ≡ b → oldest_from s ≤ i → Good s (get_or (settled_session s ring).plans i blank_plan)
      behind true e from =
          let below : i < oldest_to s = ltb-true i (oldest_to s) e in
          amended (i - oldest_from s) (omega arith) (omega arith)
      behind false e from =
          subst⁻¹ (Good s)
          (get_or-sets_after (settled_plans s ring) s.plans (oldest_from s) i blank_plan (omega (arith, settled_count, ltb-false i (oldest_to s) e))) (g.plan i l)

      go : (b : Bool) → ltb i (oldest_from s) ≡ b → Good s (get_or (settled_session s ring).plans i blank_plan)
      go true e =
          subst⁻¹ (Good s) (get_d_sets_before (settled_plans s ring) s.plans (oldest_from s) i blank_plan (ltb-true i (oldest_from s) e)) (g.plan i l)
      go false e = behind (ltb i (oldest_to s)) refl (ltb-false i (oldest_from s) e)

  settled_sound_here : Sound (settled_session s ring)
  settled_sound_here =
      record {
        requests_long = long_same ∙ g.requests_long;
        plans_long = length-sets s.plans (oldest_from s) (settled_plans s ring) ∙ g.plans_long;
        config = g.config;
        done_in = omega arith;
        count_in = g.count_in;
        request = request_kept;
        all_few = omega (arith, g.all_few, all_settled);
        pending_few = omega (arith, g.pending_few, pending_settled);
        plan = λ i l. plan_kept i (omega (arith, all_settled));
        cursor = g.cursor;
        idle_done = λ off. absurd (omega (arith, g.idle_done off));
        idle_nothing = g.idle_nothing;
      }

pub settled_sound : (s : IsoChannelState) (ring : List ℕ) → Sound s → s.head.done < s.head.count → Sound (settled_session s ring)
settled_sound s ring g h = settled_sound_here s ring g h

-- ---- draining

-- at most as many requests as are pending
drain_sound : (k : ℕ) (bit : Bool) (s : IsoChannelState) (ring : List ℕ) → Sound s → s.head.done + k ≤ s.head.count → Sound (drain k bit s ring).session
drain_sound zero bit s ring g h = g
drain_sound (suc k) bit s ring g h =
    picked (bit || is_served s ring) (drain_sound k false (settled_session s ring) (settled_ring s ring) (settled_sound s ring g (omega arith)) (omega arith))
  where
    picked :
        (b : Bool) → Sound (drain k false (settled_session s ring) (settled_ring s ring)).session
        → Sound (cond b (drain k false (settled_session s ring) (settled_ring s ring)) (record { session = s; ring = ring })).session
    picked true n = n
    picked false n = g

pub drained_sound : (bit : Bool) (s : IsoChannelState) (ring : List ℕ) → Sound s → Sound (drained bit s ring).session
drained_sound bit s ring g = drain_sound (s.head.count - s.head.done) bit s ring g (omega (arith, g.done_in))

-- a turn of draining: none is pending, the oldest is not served, or it is settled
module _ (bit : Bool) (s : IsoChannelState) (ring : List ℕ) where
  pub drained_past : s.head.count ≤ s.head.done → drained bit s ring ≡ record { session = s; ring = ring }
  drained_past h =
      let e : s.head.count - s.head.done ≡ 0 = omega arith in
      ap (λ (k : ℕ). drain k bit s ring) e

  module _ (h : s.head.done < s.head.count) where
    left : s.head.count - s.head.done ≡ suc (s.head.count - (s.head.done + 1))
    left = omega arith

    turn : (b : Bool) → (bit || is_served s ring) ≡ b
        → drained bit s ring ≡ cond b (drained false (settled_session s ring) (settled_ring s ring)) (record { session = s; ring = ring })
    turn b e =
        ap (λ (k : ℕ). drain k bit s ring) left
        ∙ ap (λ (x : Bool). cond x (drained false (settled_session s ring) (settled_ring s ring)) (record { session = s; ring = ring })) e

    pub drained_stop : (bit || is_served s ring) ≡ false → drained bit s ring ≡ record { session = s; ring = ring }
    drained_stop e = turn false e

    pub drained_next : (bit || is_served s ring) ≡ true → drained bit s ring ≡ drained false (settled_session s ring) (settled_ring s ring)
    drained_next e = turn true e
