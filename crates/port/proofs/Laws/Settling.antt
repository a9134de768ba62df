-- Settling in place: one plan's bytes, one turn of the walk over the oldest request's plans, and the bytes and the ring after its last store.
use Rattle.std.proofs.Common.{◌≡◌, ℕ, ◌+◌, ◌*◌, ◌<◌, ◌≤◌, List, [], ◌∷◌, ◌++◌, map, length, get_or, drop, set, sym, refl, ap, ◌∙◌, arith, length-drop, get_or-set_other}
use mathlib.Core.Path.{subst⁻¹}
use lib.ListN.{length-map}
use lib.Seq.{slice, sets, length-slice}
use Rattle.words.specs.Words.{is_packet_error, moved_length}
use Rattle.words.specs.declared.types.Direction.{Direction}
use Rattle.session.specs.declared.types.IsoHead.{IsoHead}
use Rattle.session.specs.declared.types.IsoOutcome.TheVariants.{Done}
use Rattle.session.specs.declared.types.IsoRequest.{IsoRequest}
use Rattle.session.specs.declared.types.IsoPacketPlan.{IsoPacketPlan}
use Rattle.session.specs.declared.types.TransferStatus.{TransferStatus}
use Rattle.session.specs.declared.types.IsoChannelState.{IsoChannelState}
use Rattle.session.specs.Session.{blank_request, blank_plan, packets_of, all_packets, ring_words}
use Rattle.session.specs.Settle.{status_of, settled_by, settled_plan, oldest, oldest_from, oldest_to, moved_total, one_more, slots_cleared, settled_request, settled_session, settled_ring}
use Rattle.session.proofs.Laws.Lists.{slice_next, slice_after_set, slice_pushed, slice_sets, amend_next}
use Rattle.session.proofs.Laws.Sums.{packets_append}
use Rattle.session.proofs.Laws.Record.{Sound}
use Rattle.session.proofs.Laws.Settled.{oldest_in, settled_by_lem, all_settled, settled_sound}
use Rattle.session.specs.Scan.{whole}
use Rattle.port.specs.Bytes.{u16_of, u16_bytes}
use Rattle.port.specs.Tags.{status_tag}
use Rattle.port.specs.Layout.{head_bytes, request_bytes, request_of, plan_bytes, plan_of, layout_number, session_of}
use Rattle.port.specs.Places.{plans_of, with_plans, Left}
use Rattle.port.proofs.Canonical.{request_clear}
use Rattle.port.proofs.Laws.Calls.{long_enough}
use Rattle.port.proofs.Laws.Entries.{request, plan}
use Rattle.port.proofs.Laws.Kept.{Octets, octets_drop, join, u16_kept}
use Rattle.port.proofs.Laws.Left.{kept_head, left_is, left_request}
use Rattle.port.proofs.Laws.Placed.{request_there, plans_many}
use Rattle.port.proofs.Laws.Runs.{then, sets_same}
use Rattle.port.proofs.Laws.Walks.{requests_in_lem}

-- ---- one plan: its planned length and its slot stand there already, so the three bytes behind them are the whole entry

planned_read : (ys : List ℕ) → u16_of ys ≡ (plan_of ys).planned
unfolding plan_of
planned_read ys = refl

module _ (xs : List ℕ) (at : ℕ) (octets : Octets xs) (long : at + 7 ≤ length xs) where
  abbrev there : IsoPacketPlan
  there = plan_of (drop at xs)

  front_there : sets xs at (u16_bytes there.planned ++ u16_bytes there.desc_index) ≡ xs
  unfolding plan_of
  front_there =
      let ys : List ℕ = drop at xs in
      let few : 7 ≤ length ys = omega (arith, length-drop at xs) in
      let all : Octets ys = octets_drop at xs octets in
      ap (sets xs at) (join 2 2 ys (u16_kept ys all (omega arith)) (u16_kept (drop 2 ys) (octets_drop 2 ys all) (omega (arith, length-drop 2 ys))))
      ∙ sets_same 4 at xs (omega arith)

  pub plan_amended :
      {a b : List ℕ} (actual tag : ℕ) (status : TransferStatus)
      → a ≡ sets xs (at + 4) (u16_bytes actual)
      → tag ≡ status_tag status
      → b ≡ sets a (at + 6) (tag ∷ [])
      → b ≡ sets xs at (plan_bytes (plan there.planned there.desc_index actual status))
  unfolding plan_bytes u16_bytes
  plan_amended {a} actual tag status p q r =
      let front : List ℕ = u16_bytes there.planned ++ u16_bytes there.desc_index in
      then xs at (at + 6) (front ++ u16_bytes actual) (status_tag status ∷ [])
      (then xs at (at + 4) front (u16_bytes actual) (sym front_there) refl p) refl (r ∙ ap (λ (n : ℕ). sets a (at + 6) (n ∷ [])) q)

  pub plan_settled :
      (dir : Direction) (status planned actual tag : ℕ) {a b : List ℕ}
      → planned ≡ u16_of (drop at xs)
      → actual ≡ moved_length dir planned status
      → a ≡ sets xs (at + 4) (u16_bytes actual)
      → tag ≡ status_tag (status_of (is_packet_error status))
      → b ≡ sets a (at + 6) (tag ∷ [])
      → (actual ≡ (settled_by dir there status).actual) × (b ≡ sets xs at (plan_bytes (settled_by dir there status)))
  plan_settled dir status planned actual tag ep ea p q r =
      let failed : TransferStatus = status_of (is_packet_error status) in
      let moved : actual ≡ moved_length dir there.planned status =
      ea ∙ ap (λ (n : ℕ). moved_length dir n status) (ep ∙ planned_read (drop at xs)) in (
        moved,
        plan_amended actual tag failed p q r
            ∙ ap (λ (n : ℕ). sets xs at (plan_bytes (plan there.planned there.desc_index n failed))) moved,
      )

-- ---- slots in the ring

-- both words of the slots of the plans from `from` to `to`
abbrev pub SlotsIn : ℕ → ℕ → List IsoPacketPlan → List ℕ → Type 0
SlotsIn from to plans ring = (k : ℕ) → from ≤ k → k < to → 2 * (get_or plans k blank_plan).desc_index + 1 < length ring

-- a plan in use has a slot of the session's ring
pub slots_in :
    (s : IsoChannelState) (ring : List ℕ) (from to : ℕ) → Sound s → to ≤ all_packets s → ring_words s.cfg ≤ length ring
    → SlotsIn from to s.plans ring
slots_in s ring from to g within words k low high = let slot = (g.plan k (omega arith)).slot in omega (arith, slot, words)

-- those behind a plan that is written
pub slots_turn :
    (i to : ℕ) (l : List IsoPacketPlan) (ring : List ℕ) {next : List IsoPacketPlan} (v : IsoPacketPlan) → next ≡ set l i v → SlotsIn i to l ring
    → SlotsIn (i + 1) to next ring
slots_turn i to l ring v e h k low high =
    let same = ap (λ (m : List IsoPacketPlan). (get_or m k blank_plan).desc_index) e
    ∙ ap (λ (p : IsoPacketPlan). p.desc_index) (get_or-set_other l i k v blank_plan (λ z. omega arith)) in
    omega (arith, same, h k (omega arith) high)

-- ---- one turn: the plan at `i` became `v`

module _ (f : IsoPacketPlan → IsoPacketPlan) (i to : ℕ) (l : List IsoPacketPlan) {next : List IsoPacketPlan} {v : IsoPacketPlan}
    (h : i < to) (k : to ≤ length l) (e : next ≡ set l i v) (ev : v ≡ f (get_or l i blank_plan)) where
  pub plans_turn : sets next (i + 1) (map f (slice (i + 1) to next)) ≡ sets l i (map f (slice i to l))
  plans_turn =
      ap (λ (m : List IsoPacketPlan). sets m (i + 1) (map f (slice (i + 1) to m))) e
      ∙ amend_next (map f) i i to l blank_plan v (omega arith) h k (λ rest. ap (λ (x : IsoPacketPlan). x ∷ map f rest) (sym ev))

  pub sum_turn : (sum n : ℕ) → n ≡ v.actual → sum + n + moved_total (map f (slice (i + 1) to next)) ≡ sum + moved_total (map f (slice i to l))
  sum_turn sum n en =
      let rest : moved_total (map f (slice (i + 1) to next)) ≡ moved_total (map f (slice (i + 1) to l)) =
      ap (λ (m : List IsoPacketPlan). moved_total (map f (slice (i + 1) to m))) e
      ∙ ap (λ (m : List IsoPacketPlan). moved_total (map f m)) (slice_after_set (i + 1) to i l v (omega arith) h) in
      let whole : moved_total (map f (slice i to l)) ≡ (f (get_or l i blank_plan)).actual + moved_total (map f (slice (i + 1) to l)) =
      ap (λ (m : List IsoPacketPlan). moved_total (map f m)) (slice_next i to l blank_plan h k) in
      let here : v.actual ≡ (f (get_or l i blank_plan)).actual = ap (λ (p : IsoPacketPlan). p.actual) ev in
      omega (arith, rest, whole, here, en)

-- settling leaves a plan's slot
same_slots : (d : Direction) (ring now : List ℕ) (ps : List IsoPacketPlan) → slots_cleared (map (settled_plan d ring) ps) now ≡ slots_cleared ps now
same_slots d ring now [] = refl
same_slots d ring now (p ∷ ps) = same_slots d ring (set (set now (2 * p.desc_index) 0) (2 * p.desc_index + 1) 0) ps

-- ---- the whole: `b` holds the settled plans, `c` the settled request besides, `d` the head

module _ (xs ring : List ℕ) (from to : ℕ) (dir : Direction) (z : layout_number xs ≡ 0) (g : Sound (session_of xs))
    (h : (session_of xs).head.done < (session_of xs).head.count) (ef : from ≡ oldest_from (session_of xs)) (et : to ≡ oldest_to (session_of xs))
    (ed : dir ≡ (session_of xs).cfg.direction) where
  abbrev s : IsoChannelState
  s = session_of xs

  abbrev settled_for : Direction → List IsoPacketPlan
  settled_for d = map (settled_plan d ring) (slice from to s.plans)

  abbrev table : List IsoPacketPlan
  table = sets s.plans from (settled_for dir)

  plans_end_lem : to ≤ 1024
  plans_end_lem = omega (arith, et, oldest_in s g h, g.all_few)

  fits : from + length (settled_for dir) ≡ to
  fits =
      omega (
        arith,
        length-map (slice from to s.plans) (settled_plan dir ring),
        length-slice from to s.plans (omega (arith, plans_end_lem, plans_many xs)),
        ef,
        et,
      )

  settled_slice : slice from to table ≡ settled_for dir
  settled_slice =
      ap (λ (n : ℕ). slice from n table) (sym fits) ∙ slice_sets (settled_for dir) s.plans from (omega (arith, fits, plans_end_lem, plans_many xs))

  module _ {b : List ℕ} (eb : Left xs b (with_plans s table)) where
    pub ring_settled : {now : List ℕ} → now ≡ slots_cleared (slice from to (plans_of b)) ring → now ≡ settled_ring s ring
    ring_settled e =
        e
        ∙ ap (λ (t : IsoChannelState). slots_cleared (slice from to t.plans) ring) eb.holds
        ∙ ap (λ (ps : List IsoPacketPlan). slots_cleared ps ring) settled_slice
        ∙ same_slots dir ring ring (slice from to s.plans)
        ∙ ap (λ (n : ℕ). slots_cleared (slice n to s.plans) ring) ef
        ∙ ap (λ (n : ℕ). slots_cleared (slice (oldest_from s) n s.plans) ring) et

    -- the settled plans have their slots in the ring as before
    pub slots_left : (now : List ℕ) → ring_words s.cfg ≤ length now → SlotsIn from to (plans_of b) now
    slots_left now words k low high =
        let held : plans_of b ≡ (settled_session s ring).plans =
        ap (λ (t : IsoChannelState). t.plans) eb.holds
        ∙ ap (λ (d : Direction). sets s.plans from (settled_for d)) ed
        ∙ ap (λ (n : ℕ). sets s.plans n (map (settled_plan s.cfg.direction ring) (slice n to s.plans))) ef
        ∙ ap (λ (n : ℕ). sets s.plans (oldest_from s) (map (settled_plan s.cfg.direction ring) (slice (oldest_from s) n s.plans))) et in
        let within : to ≤ all_packets (settled_session s ring) = omega (arith, et, oldest_in s g h, all_settled s ring g h) in
        subst⁻¹ (λ (l : List IsoPacketPlan). 2 * (get_or l k blank_plan).desc_index + 1 < length now) held
        (slots_in (settled_session s ring) now from to (settled_sound s ring g h) within words k low high)

    pub bytes_settled :
        {c d : List ℕ} {head next : IsoHead} {r : IsoRequest} {total : ℕ} → head ≡ s.head → total ≡ moved_total (settled_for dir)
        → r ≡ request_of (drop (40 + 20 * head.done) b)
        → c ≡ sets b (40 + 20 * head.done) (request_bytes (request r.id r.packets total Done))
        → next ≡ one_more head
        → d ≡ sets c 15 (head_bytes next)
        → Left xs d (settled_session s ring)
    bytes_settled {c} {d} {head} {next} {r} {total} eh es er ec en ex =
        let done : ℕ = s.head.done in
        let in_use : done < 64 = omega (arith, h, g.count_in) in
        let new : IsoRequest → IsoRequest = λ (q : IsoRequest). request q.id q.packets total Done in
        let read : r ≡ oldest s =
        er
        ∙ ap (λ (k : IsoHead). request_of (drop (40 + 20 * k.done) b)) eh
        ∙ request_there b done blank_request in_use
        ∙ ap (λ (t : IsoChannelState). get_or t.requests done blank_request) eb.holds in
        let long : 8488 ≤ length xs = long_enough xs refl z in
        let put : Left xs c (whole s.cfg s.head s.fatal (set s.requests done (new (oldest s))) table) =
        left_request long eb done (new (oldest s)) in_use (request_clear xs z done (omega (arith, h, requests_in_lem s g.count_in)))
        (ec
        ∙ ap (λ (k : IsoHead). sets b (40 + 20 * k.done) (request_bytes (new r))) eh
        ∙ ap (λ (q : IsoRequest). sets b (40 + 20 * done) (request_bytes (new q))) read) in
        let same : table ≡ sets s.plans from (settled_for s.cfg.direction) = ap (λ (x : Direction). sets s.plans from (settled_for x)) ed in
        let sum : total ≡ moved_total (slice from to table) = es ∙ ap moved_total (sym settled_slice) in
        left_is (kept_head long put (one_more s.head) (ex ∙ ap (λ (k : IsoHead). sets c 15 (head_bytes k)) (en ∙ ap one_more eh)))
        (settled_by_lem s ring from to ef et total table (omega (arith, et, plans_end_lem, plans_many xs)) same sum)

-- ---- request by request

pub oldest_ends :
    (s : IsoChannelState) (from done n : ℕ) → from ≡ oldest_from s → done ≡ s.head.done → n ≡ (get_or s.requests done blank_request).packets
    → from + n ≡ oldest_to s
oldest_ends s from done n ef ed en = omega (arith, ef, en, ap (λ (k : ℕ). (get_or s.requests k blank_request).packets) ed)

-- the next one's plans begin where the settled one's end
pub settled_from :
    (s : IsoChannelState) (ring : List ℕ) → Sound s → s.head.done < s.head.count → oldest_from (settled_session s ring) ≡ oldest_to s
settled_from s ring g h =
    let within : s.head.done < length s.requests = omega (arith, g.requests_long, g.count_in) in
    ap packets_of (slice_pushed 0 s.head.done s.requests (settled_request s ring) (omega arith) within)
    ∙ packets_append (slice 0 s.head.done s.requests) (settled_request s ring ∷ [])
    ∙ omega arith
