-- Laws of a session's record: what the record check says in plain facts, and that these facts are all that it asks.
use mathlib.Core.Path.{◌≡◌, refl, ap}
use mathlib.Core.Bool.{Bool, false, not, ◌||◌, ◌&&◌}
use mathlib.Core.List.{List, [], ◌∷◌}
use Prim.Native.Nat.{ℕ, zero, suc, ◌≤◌, ◌<◌}
use Rattle.std.specs.Prelude.{Option, Some, None}
use native.Mathlib.Omega.{arith}
use lib.Dec.{eqb, leb, ltb}
use lib.ListN.{length, get_or}
use lib.Seq.{slice}
use mir.Val.{Val}
use denote.Laws.{Is}
use borrow.Author.Tests.{ltb-false, leb-false, eqb-false, le-ltb, lt-leb, ne_eqb}
use Rattle.ring.specs.RingSums.{packet_limit}
use Rattle.ring.proofs.RingFacts.{ring_size_pos}
use Rattle.session.specs.declared.types.IsoChannelState.{IsoChannelState}
use Rattle.session.specs.declared.types.IsoConfig.{IsoConfig}
use Rattle.session.specs.declared.types.IsoHaltReason.{IsoHaltReason}
use Rattle.session.specs.declared.types.IsoPacketPlan.{IsoPacketPlan}
use Rattle.session.specs.declared.types.IsoRequest.{IsoRequest}
use Rattle.session.specs.Session.{blank_request, blank_plan, slots, room, all_packets, pending_packets, has_reason, idle_session}
use Rattle.session.specs.Record.{is_bad_config, is_bad_request, any_bad_request, is_bad_plan, any_bad_plan, is_bad_counts, is_bad_sums, is_bad_state, is_bad_record}
use Rattle.session.specs.contracts.types.IsoChannelState as Held
use Rattle.session.proofs.Laws.Lists.{front_each, front_kept}
use Rattle.words.proofs.Laws.Tests.{neither, not_both}
use Rattle.session.proofs.Laws.Tests.{none, unless}

-- what each check says of its entry
pub record GoodConfig (cfg : IsoConfig) : Type 0 where
  pub endpoint : cfg.endpoint ≤ 15
  pub device : cfg.device ≤ 127
  pub size : cfg.max_packet_size ≤ 2047
  pub mult : cfg.mult ≤ 3

pub record GoodRequest (r : IsoRequest) : Type 0 where
  pub some : 1 ≤ r.packets
  pub few : r.packets ≤ 255

pub record GoodPlan (limit slots : ℕ) (p : IsoPacketPlan) : Type 0 where
  pub planned : p.planned ≤ limit
  pub moved : p.actual ≤ p.planned
  pub slot : p.desc_index < slots

pub good_config : (cfg : IsoConfig) → is_bad_config cfg ≡ false → GoodConfig cfg
good_config cfg e =
    let e1 = neither (ltb 15 cfg.endpoint) (ltb 127 cfg.device || (ltb 2047 cfg.max_packet_size || ltb 3 cfg.mult)) e in
    let e2 = neither (ltb 127 cfg.device) (ltb 2047 cfg.max_packet_size || ltb 3 cfg.mult) e1.1 in
    let e3 = neither (ltb 2047 cfg.max_packet_size) (ltb 3 cfg.mult) e2.1 in
    record {
      endpoint = ltb-false 15 cfg.endpoint e1.0;
      device = ltb-false 127 cfg.device e2.0;
      size = ltb-false 2047 cfg.max_packet_size e3.0;
      mult = ltb-false 3 cfg.mult e3.1;
    }

pub good_request : (r : IsoRequest) → is_bad_request r ≡ false → GoodRequest r
good_request r e =
    let n = neither (eqb r.packets 0) (ltb 255 r.packets) e in
    record { some = omega (arith, eqb-false r.packets 0 n.0); few = ltb-false 255 r.packets n.1 }

pub good_plan : (limit slots : ℕ) (p : IsoPacketPlan) → is_bad_plan limit slots p ≡ false → GoodPlan limit slots p
good_plan limit slots p e =
    let e1 = neither (ltb limit p.planned) (ltb p.planned p.actual || leb slots p.desc_index) e in
    let e2 = neither (ltb p.planned p.actual) (leb slots p.desc_index) e1.1 in
    record {
      planned = ltb-false limit p.planned e1.0;
      moved = ltb-false p.planned p.actual e2.0;
      slot = leb-false slots p.desc_index e2.1;
    }

-- where none of a list is bad, each is good
pub good_requests :
    (l : List IsoRequest) → any_bad_request l ≡ false → (i : ℕ) → i < length l → GoodRequest (get_or l i blank_request)
good_requests [] e i h = absurd (omega arith)
good_requests (r ∷ l) e zero h = good_request r (neither (is_bad_request r) (any_bad_request l) e).0
good_requests (r ∷ l) e (suc i) h = good_requests l (neither (is_bad_request r) (any_bad_request l) e).1 i (omega arith)

pub good_plans :
    (limit slots : ℕ) (l : List IsoPacketPlan) → any_bad_plan limit slots l ≡ false → (i : ℕ) → i < length l
    → GoodPlan limit slots (get_or l i blank_plan)
good_plans limit slots [] e i h = absurd (omega arith)
good_plans limit slots (p ∷ l) e zero h = good_plan limit slots p (neither (is_bad_plan limit slots p) (any_bad_plan limit slots l) e).0
good_plans limit slots (p ∷ l) e (suc i) h =
    good_plans limit slots l (neither (is_bad_plan limit slots p) (any_bad_plan limit slots l) e).1 i (omega arith)

-- what a record that is not bad says: the tables have their lengths, and every number in use lies within its limits
pub record Sound (s : IsoChannelState) : Type 0 where
  pub requests_long : length s.requests ≡ 64
  pub plans_long : length s.plans ≡ 1024
  pub config : GoodConfig s.cfg
  pub done_in : s.head.done ≤ s.head.count
  pub count_in : s.head.count ≤ 64
  pub request : (i : ℕ) → i < s.head.count → GoodRequest (get_or s.requests i blank_request)
  pub all_few : all_packets s ≤ 1024
  pub pending_few : pending_packets s ≤ room s.cfg
  pub plan : (i : ℕ) → i < all_packets s → GoodPlan (packet_limit s.cfg.speed) (slots s.cfg) (get_or s.plans i blank_plan)
  pub cursor : s.head.td_last < slots s.cfg
  pub idle_done : s.head.live ≡ false → s.head.done ≡ s.head.count
  pub idle_nothing : s.head.live ≡ false → s.fatal ≡ None

-- other numbers in the head and another reason keep a record sound: the cursor below R, and no reason without a live channel
abbrev renewed : IsoChannelState → ℕ → ℕ → ℕ → Option IsoHaltReason → IsoChannelState
renewed s next cursor start f =
    record {
      cfg = s.cfg;
      head =
          record {
            next_request_id = next;
            live = s.head.live;
            td_last = cursor;
            start_full_frame = start;
            done = s.head.done;
            count = s.head.count;
          };
      fatal = f;
      requests = s.requests;
      plans = s.plans;
    }

pub renewed_sound :
    (s : IsoChannelState) (next cursor start : ℕ) (f : Option IsoHaltReason) → Sound s → cursor < slots s.cfg → (s.head.live ≡ false → f ≡ None)
    → Sound (renewed s next cursor start f)
renewed_sound s next cursor start f g below idle =
    record {
      requests_long = g.requests_long;
      plans_long = g.plans_long;
      config = g.config;
      done_in = g.done_in;
      count_in = g.count_in;
      request = g.request;
      all_few = g.all_few;
      pending_few = g.pending_few;
      plan = g.plan;
      cursor = below;
      idle_done = g.idle_done;
      idle_nothing = idle;
    }

pub no_reason : (f : Option IsoHaltReason) → has_reason f ≡ false → f ≡ None
no_reason None e = refl
no_reason (Some r) e = let z : ◌≡◌ {A = ℕ} 0 1 = cc in absurd (omega arith)

idle_tests : (live a b : Bool) → (not live && (a || b)) ≡ false → live ≡ false → (a ≡ false) × (b ≡ false)
idle_tests live a b e off = neither a b (not_both (not live) (a || b) e (ap not off))

-- the sums of a record that is not bad, whatever the tables' lengths
pub good_sums : (s : IsoChannelState) → is_bad_record s ≡ false → (all_packets s ≤ 1024) × (pending_packets s ≤ room s.cfg)
good_sums s e =
    let plans = any_bad_plan (packet_limit s.cfg.speed) (slots s.cfg) (slice 0 (all_packets s) s.plans) in
    let requests = any_bad_request (slice 0 s.head.count s.requests) in
    let n1 = neither (is_bad_config s.cfg || is_bad_counts s) (requests || (is_bad_sums s || (plans || is_bad_state s))) e in
    let n2 = neither requests (is_bad_sums s || (plans || is_bad_state s)) n1.1 in
    let sums = neither (ltb 1024 (all_packets s)) (ltb (room s.cfg) (pending_packets s)) (neither (is_bad_sums s) (plans || is_bad_state s) n2.1).0 in
    (ltb-false 1024 (all_packets s) sums.0, ltb-false (room s.cfg) (pending_packets s) sums.1)

pub sound :
    (s : IsoChannelState) → length s.requests ≡ 64 → length s.plans ≡ 1024 → is_bad_record s ≡ false → Sound s
sound s rl pl e =
    let plans = any_bad_plan (packet_limit s.cfg.speed) (slots s.cfg) (slice 0 (all_packets s) s.plans) in
    let requests = any_bad_request (slice 0 s.head.count s.requests) in
    let n1 = neither (is_bad_config s.cfg || is_bad_counts s) (requests || (is_bad_sums s || (plans || is_bad_state s))) e in
    let n2 = neither requests (is_bad_sums s || (plans || is_bad_state s)) n1.1 in
    let n3 = neither (is_bad_sums s) (plans || is_bad_state s) n2.1 in
    let n4 = neither plans (is_bad_state s) n3.1 in
    let front = neither (is_bad_config s.cfg) (is_bad_counts s) n1.0 in
    let counts = neither (ltb s.head.count s.head.done) (ltb 64 s.head.count) front.1 in
    let state =
    neither (leb (slots s.cfg) s.head.td_last) (not s.head.live && (ltb s.head.done s.head.count || has_reason s.fatal)) n4.1 in
    let idle = idle_tests s.head.live (ltb s.head.done s.head.count) (has_reason s.fatal) state.1 in
    let within : s.head.count ≤ 64 = ltb-false 64 s.head.count counts.1 in
    let few : all_packets s ≤ 1024 = (good_sums s e).0 in
    let done_in : s.head.done ≤ s.head.count = ltb-false s.head.count s.head.done counts.0 in
    record {
      requests_long = rl;
      plans_long = pl;
      config = good_config s.cfg front.0;
      done_in = done_in;
      count_in = within;
      request =
          front_each GoodRequest s.head.count s.requests blank_request (omega arith) (good_requests (slice 0 s.head.count s.requests) n2.0);
      all_few = few;
      pending_few = (good_sums s e).1;
      plan =
          front_each (GoodPlan (packet_limit s.cfg.speed) (slots s.cfg)) (all_packets s) s.plans blank_plan (omega arith)
          (good_plans (packet_limit s.cfg.speed) (slots s.cfg) (slice 0 (all_packets s) s.plans) n4.0);
      cursor = leb-false (slots s.cfg) s.head.td_last state.0;
      idle_done = λ off. omega (arith, done_in, ltb-false s.head.done s.head.count (idle off).0);
      idle_nothing = λ off. no_reason s.fatal (idle off).1;
    }

-- a session that the machine holds has tables of their lengths, so that a record not found bad is sound
pub held_long : (s : IsoChannelState) {vs : List Val} → Is Held.the_row s vs → (length s.requests ≡ 64) × (length s.plans ≡ 1024)
held_long s h = (h.1.1.1.1.1.0.1.0.1, h.1.1.1.1.1.1.0.1.0.1)

pub held_sound : (s : IsoChannelState) {vs : List Val} → Is Held.the_row s vs → is_bad_record s ≡ false → Sound s
held_sound s h e = sound s (held_long s h).0 (held_long s h).1 e

-- and back: these facts are all that the check asks
not_bad_config : (cfg : IsoConfig) → GoodConfig cfg → is_bad_config cfg ≡ false
not_bad_config cfg g =
    none (le-ltb 15 cfg.endpoint g.endpoint)
    (none (le-ltb 127 cfg.device g.device) (none (le-ltb 2047 cfg.max_packet_size g.size) (le-ltb 3 cfg.mult g.mult)))

not_bad_requests : (l : List IsoRequest) → ((i : ℕ) → i < length l → GoodRequest (get_or l i blank_request)) → any_bad_request l ≡ false
not_bad_requests [] g = refl
not_bad_requests (r ∷ l) g =
    let here : GoodRequest r = g 0 (omega arith) in
    none
    (none (ne_eqb r.packets 0 (λ z. omega arith)) (le-ltb 255 r.packets here.few))
    (not_bad_requests l (λ i h. g (suc i) (omega arith)))

not_bad_plans :
    (limit slots : ℕ) (l : List IsoPacketPlan) → ((i : ℕ) → i < length l → GoodPlan limit slots (get_or l i blank_plan))
    → any_bad_plan limit slots l ≡ false
not_bad_plans limit slots [] g = refl
not_bad_plans limit slots (p ∷ l) g =
    let here : GoodPlan limit slots p = g 0 (omega arith) in
    none
    (none (le-ltb limit p.planned here.planned) (none (le-ltb p.planned p.actual here.moved) (lt-leb slots p.desc_index here.slot)))
    (not_bad_plans limit slots l (λ i h. g (suc i) (omega arith)))

pub not_bad : (s : IsoChannelState) → Sound s → is_bad_record s ≡ false
not_bad s g =
    none (none (not_bad_config s.cfg g.config) (none (le-ltb s.head.count s.head.done g.done_in) (le-ltb 64 s.head.count g.count_in)))
    (none
    (not_bad_requests (slice 0 s.head.count s.requests) (front_kept GoodRequest s.head.count s.requests blank_request (omega arith) g.request))
    (none (none (le-ltb 1024 (all_packets s) g.all_few) (le-ltb (room s.cfg) (pending_packets s) g.pending_few))
    (none (not_bad_plans (packet_limit s.cfg.speed) (slots s.cfg) (slice 0 (all_packets s) s.plans)
    (front_kept (GoodPlan (packet_limit s.cfg.speed) (slots s.cfg)) (all_packets s) s.plans blank_plan (omega arith) g.plan))
    (none (lt-leb (slots s.cfg) s.head.td_last g.cursor)
    (unless s.head.live (ltb s.head.done s.head.count || has_reason s.fatal)
    (λ off. none (le-ltb s.head.done s.head.count (omega (arith, g.idle_done off))) (ap has_reason (g.idle_nothing off))))))))

-- an accepted opening gives a good record
pub idle_sound : (cfg : IsoConfig) → is_bad_config cfg ≡ false → is_bad_record (idle_session cfg) ≡ false
idle_sound cfg e =
    let no_packets : ltb (room cfg) 0 ≡ false = le-ltb (room cfg) 0 (omega arith) in
    let in_ring : leb (slots cfg) 0 ≡ false = lt-leb (slots cfg) 0 (ring_size_pos cfg.speed) in
    simp (e, no_packets, in_ring)
