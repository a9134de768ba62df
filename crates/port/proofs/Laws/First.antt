-- The first request settled and handed out in one: when a poll settles it and no other, and what is left without it.
use Rattle.std.proofs.Common.{None, ◌≡◌, ℕ, suc, drop, ◌+◌, ◌-◌, ◌*◌, ◌<◌, ◌≤◌, Bool, true, false, not, ◌||◌, eqb, eq-eqb, List, [], ◌∷◌, map, length, get_or, set, sym, refl, ap, ◌∙◌, ap₂, arith, get_or-set_other, get_or-set_same}
use lib.ListN.{length-map}
use lib.Seq.{slice, sets}
use Rattle.words.specs.Words.{is_set, active}
use Rattle.words.specs.declared.types.Direction.{Direction}
use Rattle.session.specs.declared.types.IsoHead.{IsoHead}
use Rattle.session.specs.declared.types.IsoRequest.{IsoRequest}
use Rattle.session.specs.declared.types.IsoPacketPlan.{IsoPacketPlan}
use Rattle.session.specs.declared.types.IsoChannelState.{IsoChannelState}
use Rattle.session.specs.Session.{blank_request, blank_plan, packets_of, all_packets}
use Rattle.session.specs.Settle.{settled_plan, oldest, oldest_from, oldest_to, oldest_plans, settled_plans, settled_request, settled_session, slots_cleared, settled_ring, is_served, drained}
use Rattle.session.specs.Reclaim.{is_done, result_word, plans_begin, plans_end, closed_up, removed, handed_results}
use Rattle.session.specs.Scan.{whole}
use Rattle.std.specs.List.{list_any, range_with_len}
use Rattle.std.proofs.lemmas.List.Folds.{list_any_at}
use Rattle.std.proofs.lemmas.List.FromFn.{length-range_with_len, get_or-range_with_len}
use Rattle.session.proofs.Laws.Lists.{slice_sets, get_or-slice, get_or-sets_after}
use Rattle.session.proofs.Laws.Record.{Sound}
use Rattle.session.proofs.Laws.Settled.{oldest_in, all_settled, settled_count, settled_sound, drained_next, drained_stop}
use Rattle.session.proofs.Laws.Handed.{removed_by, handed_by}
use Rattle.port.specs.Bytes.{byte_of, u32_of, u16_bytes}
use Rattle.port.specs.Tags.{tagged, tagged_of, fatal_of}
use Rattle.port.specs.Layout.{layout_number, session_of}
use Rattle.port.specs.Places.{requests_of, with_requests, with_plans, Left}
use Rattle.port.proofs.Laws.Calls.{long_enough}
use Rattle.port.proofs.Laws.Left.{with_count, kept_count, left_is, left_over}
use Rattle.port.proofs.Laws.Runs.{closed_over}
use Rattle.port.proofs.Laws.Scans.{never}
use Rattle.port.proofs.Laws.Settling.{settled_from}

-- ---- a slot that none of the first plans has

abbrev pub Apart : ℕ → ℕ → List IsoPacketPlan → Type 0
Apart n slot plans = (k : ℕ) → k < n → (get_or plans k blank_plan).desc_index ≡ slot → ⊥

pub apart :
    (n slot : ℕ) (plans : List IsoPacketPlan) → list_any (λ (i : ℕ). eqb (get_or plans i blank_plan).desc_index slot) (range_with_len 0 n) ≡ false
    → Apart n slot plans
apart n slot plans none k less same =
    let has : ℕ → Bool = λ (i : ℕ). eqb (get_or plans i blank_plan).desc_index slot in
    let here : 0 + k ≡ k = omega arith in
    let found : list_any has (range_with_len 0 n) ≡ true =
    list_any_at has (range_with_len 0 n) k 0 (omega (arith, length-range_with_len 0 n, less))
    (ap has (get_or-range_with_len 0 n k 0 less ∙ here) ∙ eq-eqb (get_or plans k blank_plan).desc_index slot same) in
    never (sym found ∙ none)

-- its status word stays when theirs are cleared
cleared_other :
    (slot : ℕ) (ps : List IsoPacketPlan) (ring : List ℕ) → Apart (length ps) slot ps
    → get_or (slots_cleared ps ring) (2 * slot) 0 ≡ get_or ring (2 * slot) 0
cleared_other slot [] ring h = refl
cleared_other slot (p ∷ ps) ring h =
    let d : ℕ = p.desc_index in
    let off : d ≡ slot → ⊥ = h 0 (omega arith) in
    cleared_other slot ps (set (set ring (2 * d) 0) (2 * d + 1) 0) (λ k less. h (suc k) (omega arith))
    ∙ get_or-set_other (set ring (2 * d) 0) (2 * d + 1) (2 * slot) 0 0 (λ e. omega arith)
    ∙ get_or-set_other ring (2 * d) (2 * slot) 0 0 (λ e. off (omega arith))

module _ (s : IsoChannelState) (ring : List ℕ) (g : Sound s) (none : s.head.done ≡ 0) (more : 1 < s.head.count) {n : ℕ}
    (en : n ≡ (get_or s.requests 0 blank_request).packets) where
  abbrev t : IsoChannelState
  t = settled_session s ring

  pending : s.head.done < s.head.count
  pending = omega (arith, none, more)

  pub first_packets : (oldest s).packets ≡ n
  first_packets = ap (λ (k : ℕ). (get_or s.requests k blank_request).packets) none ∙ sym en

  pub first_from : oldest_from s ≡ 0
  first_from = ap (λ (k : ℕ). packets_of (slice 0 k s.requests)) none

  pub first_to : oldest_to s ≡ n
  first_to = omega (arith, first_from, first_packets)

  -- what is settled of it
  pub first_settled : {dir : Direction} → dir ≡ s.cfg.direction → map (settled_plan dir ring) (slice 0 n s.plans) ≡ settled_plans s ring
  first_settled e =
      ap (λ (d : Direction). map (settled_plan d ring) (slice 0 n s.plans)) e
      ∙ ap₂ (λ (f k : ℕ). map (settled_plan s.cfg.direction ring) (slice f k s.plans)) (sym first_from) (sym first_to)

  first_plans : t.plans ≡ sets s.plans 0 (settled_plans s ring)
  first_plans = ap (λ (k : ℕ). sets s.plans k (settled_plans s ring)) first_from

  first_requests : t.requests ≡ set s.requests 0 (settled_request s ring)
  first_requests = ap (λ (k : ℕ). set s.requests k (settled_request s ring)) none

  pub first_request : get_or t.requests 0 blank_request ≡ settled_request s ring
  first_request =
      ap (λ (l : List IsoRequest). get_or l 0 blank_request) first_requests
      ∙ get_or-set_same s.requests 0 (settled_request s ring) blank_request (omega (arith, g.requests_long))

  first_many : length (settled_plans s ring) ≡ n
  first_many = settled_count s ring g pending ∙ first_packets

  -- ---- a poll settles it and no other

  module _ {to : ℕ} (et : to ≡ n + (get_or s.requests 1 blank_request).packets) where
    second_packets : (oldest t).packets ≡ (get_or s.requests 1 blank_request).packets
    second_packets =
        ap (λ (l : List IsoRequest). (get_or l (s.head.done + 1) blank_request).packets) first_requests
        ∙ ap (λ (k : ℕ). (get_or (set s.requests 0 (settled_request s ring)) (k + 1) blank_request).packets) none
        ∙ ap (λ (r : IsoRequest). r.packets) (get_or-set_other s.requests 0 1 (settled_request s ring) blank_request (λ e. omega arith))

    second_to : oldest_to t ≡ to
    second_to = omega (arith, settled_from s ring g pending, first_to, second_packets, et)

    pub second_in : to ≤ all_packets s
    second_in = omega (arith, second_to, oldest_in t (settled_sound s ring g pending) (omega (arith, none, more)), all_settled s ring g pending)

    -- both have packets, and their plans are in the table
    pub ends_in : (0 < n) × (n < to) × (to ≤ 1024)
    ends_in =
        let one = (g.request 0 (omega (arith, more))).some in
        let two = (g.request 1 more).some in
        (omega (arith, en, one), omega (arith, et, two), omega (arith, second_in, g.all_few))

    behind : n ≤ to - 1
    behind = omega (arith, et, (g.request 1 more).some)

    abbrev slot : ℕ
    slot = (get_or s.plans (to - 1) blank_plan).desc_index

    apart_plans : Apart n slot s.plans → Apart (length (oldest_plans s)) slot (oldest_plans s)
    apart_plans h k less e =
        let same : get_or (oldest_plans s) k blank_plan ≡ get_or s.plans (oldest_from s + k) blank_plan =
        get_or-slice (oldest_from s) (oldest_to s) k s.plans blank_plan (omega (arith, first_from, first_to, many)) in
        h k (omega (arith, many)) (ap (λ (p : IsoPacketPlan). p.desc_index) (at_from ∙ sym same) ∙ e)
      where
        many : length (oldest_plans s) ≡ n
        many = omega (arith, first_many, length-map (oldest_plans s) (settled_plan s.cfg.direction ring))

        at_from : get_or s.plans k blank_plan ≡ get_or s.plans (oldest_from s + k) blank_plan
        at_from = let on : k ≡ oldest_from s + k = omega (arith, first_from) in ap (λ (i : ℕ). get_or s.plans i blank_plan) on

    second_served : Apart n slot s.plans → is_served t (settled_ring s ring) ≡ not (is_set active (get_or ring (2 * slot) 0))
    second_served h =
        let held : get_or t.plans (oldest_to t - 1) blank_plan ≡ get_or s.plans (to - 1) blank_plan =
        ap₂ (λ (l : List IsoPacketPlan) (k : ℕ). get_or l (k - 1) blank_plan) first_plans second_to
        ∙ get_or-sets_after (settled_plans s ring) s.plans 0 (to - 1) blank_plan (omega (arith, first_many, behind)) in
        ap (λ (p : IsoPacketPlan). not (is_set active (get_or (settled_ring s ring) (2 * p.desc_index) 0))) held
        ∙ ap (λ (w : ℕ). not (is_set active w)) (cleared_other slot (oldest_plans s) ring (apart_plans h))

    pub first_alone :
        (bit : Bool) → (bit || is_served s ring) ≡ true → not (is_set active (get_or ring (2 * slot) 0)) ≡ false → Apart n slot s.plans
        → drained bit s ring ≡ record { session = t; ring = settled_ring s ring }
    first_alone bit first second h =
        drained_next bit s ring pending first
        ∙ drained_stop false t (settled_ring s ring) (omega (arith, none, more)) (second_served h ∙ second)

  -- ---- taken out

  taken_begin : 0 ≡ plans_begin 0 t
  taken_begin = refl

  taken_end : n ≡ plans_end 0 t
  taken_end = omega (arith, ap (λ (r : IsoRequest). r.packets) first_request, first_packets)

  pub first_results :
      (results : List ℕ) {now : List ℕ} → now ≡ sets results 0 (map result_word (settled_plans s ring)) → now ≡ handed_results 0 t results
  first_results results {now} e =
      let ends : n ≡ 0 + length (settled_plans s ring) = omega (arith, first_many) in
      let fits : 0 + length (settled_plans s ring) ≤ length s.plans = omega (arith, first_many, oldest_in s g pending, first_to, g.all_few, g.plans_long) in
      let there : slice 0 n t.plans ≡ settled_plans s ring =
      ap₂ (λ (k : ℕ) (l : List IsoPacketPlan). slice 0 k l) ends first_plans ∙ slice_sets (settled_plans s ring) s.plans 0 fits in
      handed_by 0 t 0 n taken_begin taken_end results now (ap (λ (r : IsoRequest). is_done r.outcome) first_request)
      (e ∙ ap (λ (l : List IsoPacketPlan). sets results 0 (map result_word l)) (sym there))

  module _ {all : ℕ} (ea : all ≡ all_packets s) (half : 2 * n ≤ all) where
    closed_requests : closed_up 0 1 s.head.count s.requests ≡ closed_up 0 1 s.head.count t.requests
    closed_requests =
        sym
        (ap (closed_up 0 1 s.head.count) first_requests
        ∙ closed_over (settled_request s ring ∷ []) s.requests s.head.count (omega arith) (omega (arith, g.requests_long, g.count_in)))

    closed_plans : closed_up 0 n all s.plans ≡ closed_up 0 n all t.plans
    closed_plans =
        sym
        (ap (closed_up 0 n all) first_plans
        ∙ ap (λ (k : ℕ). closed_up 0 k all (sets s.plans 0 (settled_plans s ring))) (sym first_many)
        ∙ closed_over (settled_plans s ring) s.plans all (omega (arith, first_many, half)) (omega (arith, ea, g.all_few, g.plans_long))
        ∙ ap (λ (k : ℕ). closed_up 0 k all s.plans) first_many)

    pub first_removed :
        whole s.cfg (with_count (s.head.count - 1) s.head) s.fatal (closed_up 0 1 s.head.count s.requests) (closed_up 0 n all s.plans)
        ≡ removed 0 t
    first_removed =
        let back : s.head.done ≡ s.head.done + 1 - 1 = omega arith in
        ap (λ (d : ℕ). whole s.cfg (head_by d) s.fatal (closed_up 0 1 s.head.count s.requests) (closed_up 0 n all s.plans)) back
        ∙ removed_by 0 t 0 n taken_begin taken_end all _ _ (ea ∙ sym (all_settled s ring g pending)) closed_requests closed_plans
      where
        head_by : ℕ → IsoHead
        head_by d =
            record {
              next_request_id = s.head.next_request_id;
              live = s.head.live;
              td_last = s.head.td_last;
              start_full_frame = s.head.start_full_frame;
              done = d;
              count = s.head.count - 1;
            }

-- the bytes: `b` holds the plans closed up, `c` the requests besides, `d` the count
pub first_taken :
    (xs ring : List ℕ) {n all count : ℕ} → layout_number xs ≡ 0 → Sound (session_of xs) → (session_of xs).head.done ≡ 0 → 1 < (session_of xs).head.count
    → n ≡ (get_or (requests_of xs) 0 blank_request).packets → all ≡ all_packets (session_of xs) → 2 * n ≤ all → count ≡ (session_of xs).head.count
    → {b c d : List ℕ}
    → Left xs b (with_plans (session_of xs) (closed_up 0 n all (session_of xs).plans))
    → Left b c (with_requests (session_of b) (closed_up 0 1 count (requests_of b)))
    → d ≡ sets c 32 (u16_bytes (count - 1))
    → Left xs d (removed 0 (settled_session (session_of xs) ring))
first_taken xs ring {n} {all} {count} z g none more en ea half ec {b} {c} eb er ed =
    let s : IsoChannelState = session_of xs in
    let long : 8488 ≤ length xs = long_enough xs refl z in
    let plans : List IsoPacketPlan = closed_up 0 n all s.plans in
    let both : Left xs c (whole s.cfg s.head s.fatal (closed_up 0 1 s.head.count s.requests) plans) =
    left_is (left_over long eb er)
    (ap (λ (u : IsoChannelState). with_requests u (closed_up 0 1 count u.requests)) eb.holds
    ∙ ap (λ (k : ℕ). with_requests (with_plans s plans) (closed_up 0 1 k s.requests)) ec) in
    left_is (kept_count long both (s.head.count - 1) (ed ∙ ap (λ (k : ℕ). sets c 32 (u16_bytes (k - 1))) ec))
    (first_removed s ring g none more en ea half)

-- ---- no reason to end

pub no_reason : (ys : List ℕ) → byte_of ys ≡ 0 → fatal_of (tagged_of ys) ≡ None
unfolding tagged_of
no_reason ys e = ap (λ (n : ℕ). fatal_of (tagged n (byte_of (drop 1 ys)) (u32_of (drop 2 ys)))) e
