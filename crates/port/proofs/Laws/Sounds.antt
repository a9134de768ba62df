-- Both checks of a session's bytes in one walk, of the layout and of the record: each test in the code's order, and what each way out says of the two.
use Rattle.std.specs.Prelude.{Option, None, Some}
use Rattle.std.proofs.Common.{cond, ◌≡◌, ℕ, ◌+◌, ◌-◌, ◌*◌, ◌/◌, ◌%◌, ◌^◌, ◌<◌, ◌≤◌, Bool, true, false, not, ◌&&◌, ◌||◌, eqb, ltb, leb, List, drop, sym, refl, ap, ◌∙◌, ap₂, arith, drop-drop, ltb-false, le-ltb, ne_eqb}
use mathlib.Core.Bool.{or_assoc}
use lib.Seq.{slice}
use borrow.Author.Tests.{lt-leb}
use Rattle.words.proofs.Laws.Tests.{neither}
use Rattle.ring.specs.RingSums.{packet_limit}
use Rattle.session.specs.declared.types.IsoConfig.{IsoConfig}
use Rattle.session.specs.declared.types.IsoHaltReason.{IsoHaltReason}
use Rattle.session.specs.declared.types.IsoHead.{IsoHead}
use Rattle.session.specs.declared.types.IsoChannelState.{IsoChannelState}
use Rattle.session.specs.Session.{slots, room, packets_of, all_packets, pending_packets, has_reason}
use Rattle.session.specs.Record.{is_bad_config, is_bad_counts, is_bad_request, any_bad_request, is_bad_sums, is_bad_plan, any_bad_plan, is_bad_state}
use Rattle.session.proofs.Laws.Sums.{packets_past, packets_split}
use Rattle.session.proofs.Laws.Tests.{none}
use Rattle.port.specs.Bytes.{byte_of, u16_of, u64_of}
use Rattle.port.specs.Layout.{config_of, head_of, request_of, plan_of, any_of, is_bad_request_bytes, is_bad_plan_bytes, is_bad_mark, is_bad_head, is_bad_layout, session_of}
use Rattle.port.specs.Layout.{requests_in, plans_in}
use Rattle.port.specs.Places.{requests_of}
use Rattle.port.specs.Scan.{is_bad_request_entry, is_bad_plan_entry, is_unsound, is_bad_numbers, sums_of, sums_in}
use Rattle.port.proofs.Laws.Entries.{field, by_plan, ends_here, no_outcome}
use Rattle.port.proofs.Laws.Kept.{Octets, octets_drop, byte_small, u16_small}
use Rattle.port.proofs.Laws.Scans.{same_tests, front_test, state_test, counts_in}
use Rattle.port.proofs.Laws.Placed.{config_there, head_there, requests_many}
use Rattle.port.proofs.Laws.Tables.{any_either}
use Rattle.port.proofs.Laws.Walks.{requests_in_lem, plans_in_lem}

-- ---- one entry

-- a word of eight bytes that is a good count of packets, with no outcome behind it but done
pub good_entry :
    (xs : List ℕ) (at : ℕ) {word : ℕ} → word ≡ u64_of (drop (at + 12) xs) → (eqb word 0 || ltb 255 word) ≡ false
    → false ≡ is_bad_request_entry (drop at xs)
unfolding request_of
good_entry xs at {word} e h =
    let ys : List ℕ = drop (at + 12) xs in
    let few : word ≤ 255 = ltb-false 255 word (neither (eqb word 0) (ltb 255 word) h).1 in
    let small : u64_of ys < 65536 = omega (arith, few, e) in
    let packets : word ≡ u16_of (drop 12 (drop at xs)) = e ∙ sym (ends_here ys small) ∙ field u16_of 12 at xs in
    sym (none (sym (no_outcome xs at small)) (sym (ap (λ (n : ℕ). eqb n 0 || ltb 255 n) packets) ∙ h))

-- the same of the word less 1, which wraps where it is 0
pub plain_entry :
    (xs : List ℕ) (at : ℕ) {word less : ℕ} → word ≡ u64_of (drop (at + 12) xs) → (less + 1) % 2 ^ 64 ≡ word → less ≤ 254
    → false ≡ is_bad_request_entry (drop at xs)
plain_entry xs at {word} {less} e wraps few =
    let some : word ≡ less + 1 = omega arith in
    good_entry xs at e (none (ne_eqb word 0 (λ z. omega arith)) (le-ltb 255 word (omega arith)))

-- the word of a plan that is not settled, with the byte before it: below 2^24 for each slot of the ring
pub good_packet :
    (xs : List ℕ) → Octets xs → (at limit size : ℕ) {word : ℕ} → size ≤ 65535 → word ≡ u64_of (drop at xs) → word < 16777216 * size
    → word / 256 % 65536 ≤ limit
    → false ≡ is_bad_plan_entry limit size (drop (at + 1) xs)
unfolding plan_of is_bad_plan_bytes
good_packet xs octets at limit size {word} narrow ew below short =
    let ys : List ℕ = drop at xs in
    let zs : List ℕ = drop (at + 1) xs in
    let on : (k : ℕ) → drop (1 + k) ys ≡ drop k zs =
    λ k.
    let same : at + (1 + k) ≡ at + 1 + k = omega arith in
    drop-drop (1 + k) at xs ∙ ap (λ (n : ℕ). drop n xs) same ∙ sym (drop-drop k (at + 1) xs) in
    let parts = by_plan ys in
    let few : byte_of ys < 256 = byte_small ys (octets_drop at xs octets) in
    let narrow_length : u16_of (drop 1 ys) < 65536 = u16_small (drop 1 ys) (octets_drop 1 ys (octets_drop at xs octets)) in
    let length_is : u16_of (drop 1 ys) ≡ word / 256 % 65536 = omega (arith, parts, ew, few, narrow_length) in
    let planned = ap u16_of (drop-drop 1 at xs) in
    let slot = ap u16_of (on 2) in
    let moved = ap u16_of (on 4) in
    let tag = ap byte_of (on 6) in
    let in_ring : u16_of (drop 2 zs) < size = omega (arith, parts, slot, ew, below) in
    let unmoved : u16_of (drop 4 zs) ≡ 0 = omega (arith, parts, moved, ew, below) in
    let done : byte_of (drop 6 zs) ≡ 0 = omega (arith, parts, tag, ew, below) in
    let long : u16_of zs ≤ limit = omega (arith, short, planned, length_is) in
    sym
    (none (le-ltb 1 (byte_of (drop 6 zs)) (omega (arith, done)))
    (none (le-ltb limit (u16_of zs) long)
    (none (le-ltb (u16_of zs) (u16_of (drop 4 zs)) (omega (arith, unmoved))) (lt-leb size (u16_of (drop 2 zs)) in_ring))))

-- ---- the tests that ask no entry

module _ (s : IsoChannelState) where
  pub numbers_test :
      {cfg : IsoConfig} {h : IsoHead} {fatal : Option IsoHaltReason} {size : ℕ} {bad state b : Bool}
      → cfg ≡ s.cfg
      → h ≡ s.head
      → fatal ≡ s.fatal
      → size ≡ slots s.cfg
      → bad ≡ is_bad_config cfg
      → state ≡ (leb size h.td_last || not h.live && (ltb h.done h.count || has_reason fatal))
      → (bad || ((ltb h.count h.done || ltb 64 h.count) || state)) ≡ b
      → is_bad_numbers s ≡ b
  numbers_test {h = h} {bad = bad} {state = state} ec eh ef es eb et e =
      ap₂ (λ (x y : Bool). x || y) (front_test s ec eh eb refl) (sym (state_test s eh ef es et))
      ∙ or_assoc bad (ltb h.count h.done || ltb 64 h.count) state
      ∙ e

  pub sums_test :
      {cfg : IsoConfig} {all pending : ℕ} {over : Bool} → cfg ≡ s.cfg → all ≡ all_packets s → pending ≡ pending_packets s
      → over ≡ ltb (room cfg) pending
      → (ltb 1024 all || over) ≡ is_bad_sums s
  sums_test {cfg} ec ea ep e =
      ap₂ (λ (n : ℕ) (x : Bool). ltb 1024 n || x) ea
      (e ∙ ap (ltb (room cfg)) ep ∙ ap (λ (k : IsoConfig). ltb (room k) (pending_packets s)) ec)

  pub sums_few : is_bad_sums s ≡ false → all_packets s ≤ 1024
  sums_few e = ltb-false 1024 (all_packets s) (neither (ltb 1024 (all_packets s)) (ltb (room s.cfg) (pending_packets s)) e).0

-- ---- all tests

-- the tests of the layout and of the record, taken together entry by entry
in_order :
    (mark head requests plans first each sums last state : Bool)
    → ((mark || (head || (requests || plans))) || (first || (each || (sums || (last || state)))))
    ≡ ((mark || head) || ((first || state) || ((requests || each) || (sums || (plans || last)))))
in_order mark head requests plans first each sums last state = same_tests to from
  where
    to : ((mark || (head || (requests || plans))) || (first || (each || (sums || (last || state))))) ≡ false
        → ((mark || head) || ((first || state) || ((requests || each) || (sums || (plans || last))))) ≡ false
    to h =
        let a = neither (mark || (head || (requests || plans))) (first || (each || (sums || (last || state)))) h in
        let b = neither mark (head || (requests || plans)) a.0 in
        let c = neither head (requests || plans) b.1 in
        let d = neither requests plans c.1 in
        let e = neither first (each || (sums || (last || state))) a.1 in
        let f = neither each (sums || (last || state)) e.1 in
        let g = neither sums (last || state) f.1 in
        let i = neither last state g.1 in
        none (none b.0 c.0) (none (none e.0 i.1) (none (none d.0 f.0) (none g.0 (none d.1 i.0))))

    from : ((mark || head) || ((first || state) || ((requests || each) || (sums || (plans || last))))) ≡ false
        → ((mark || (head || (requests || plans))) || (first || (each || (sums || (last || state))))) ≡ false
    from h =
        let a = neither (mark || head) ((first || state) || ((requests || each) || (sums || (plans || last)))) h in
        let b = neither mark head a.0 in
        let c = neither (first || state) ((requests || each) || (sums || (plans || last))) a.1 in
        let d = neither first state c.0 in
        let e = neither (requests || each) (sums || (plans || last)) c.1 in
        let f = neither requests each e.0 in
        let g = neither sums (plans || last) e.1 in
        let i = neither plans last g.1 in
        none (none b.0 (none b.1 (none f.0 i.0))) (none d.0 (none f.1 (none g.0 (none i.1 d.1))))

second_true : (a : Bool) {b : Bool} → b ≡ true → (a || b) ≡ true
second_true true e = refl
second_true false e = e

module _ (xs : List ℕ) where
  requests_both :
      (n : ℕ) → n ≤ 64
      → any_of is_bad_request_entry 20 n (drop 40 xs) ≡ (any_of is_bad_request_bytes 20 n (drop 40 xs) || any_bad_request (slice 0 n (session_of xs).requests))
  unfolding session_of
  requests_both n h = any_either request_of 20 is_bad_request_bytes is_bad_request any_bad_request refl (λ a l. refl) n 64 (drop 40 xs) h

  plans_both :
      (limit size n : ℕ) → n ≤ 1024
      → any_of (is_bad_plan_entry limit size) 7 n (drop 1320 xs)
      ≡ (any_of is_bad_plan_bytes 7 n (drop 1320 xs) || any_bad_plan limit size (slice 0 n (session_of xs).plans))
  unfolding session_of
  plans_both limit size n h = any_either plan_of 7 is_bad_plan_bytes (is_bad_plan limit size) (any_bad_plan limit size) refl (λ a l. refl) n 1024 (drop 1320 xs) h

  -- the bytes' tests as far as the tables go, the record's as far as its counts say
  abbrev request_tests : Bool
  request_tests =
      any_of is_bad_request_bytes 20 (requests_in (session_of xs)) (drop 40 xs)
      || any_bad_request (slice 0 (session_of xs).head.count (session_of xs).requests)

  abbrev plan_tests : Bool
  plan_tests =
      any_of is_bad_plan_bytes 7 (plans_in (session_of xs)) (drop 1320 xs)
      || any_bad_plan (packet_limit (session_of xs).cfg.speed) (slots (session_of xs).cfg) (slice 0 (all_packets (session_of xs)) (session_of xs).plans)

  all_tests :
      is_unsound xs ≡ ((is_bad_mark xs || is_bad_head xs) || (is_bad_numbers (session_of xs) || (request_tests || (is_bad_sums (session_of xs) || plan_tests))))
  unfolding is_bad_layout
  all_tests =
      let s : IsoChannelState = session_of xs in
      in_order (is_bad_mark xs) (is_bad_head xs) (any_of is_bad_request_bytes 20 (requests_in s) (drop 40 xs))
      (any_of is_bad_plan_bytes 7 (plans_in s) (drop 1320 xs)) (is_bad_config s.cfg || is_bad_counts s)
      (any_bad_request (slice 0 s.head.count s.requests)) (is_bad_sums s)
      (any_bad_plan (packet_limit s.cfg.speed) (slots s.cfg) (slice 0 (all_packets s) s.plans)) (is_bad_state s)

  pub bad_start : ((is_bad_mark xs || is_bad_head xs) || is_bad_numbers (session_of xs)) ≡ true → is_unsound xs ≡ true
  bad_start e =
      all_tests
      ∙ sym (or_assoc (is_bad_mark xs || is_bad_head xs) (is_bad_numbers (session_of xs)) (request_tests || (is_bad_sums (session_of xs) || plan_tests)))
      ∙ ap (λ (b : Bool). b || (request_tests || (is_bad_sums (session_of xs) || plan_tests))) e

  pub bad_sums : is_bad_sums (session_of xs) ≡ true → is_unsound xs ≡ true
  bad_sums e =
      all_tests
      ∙ second_true (is_bad_mark xs || is_bad_head xs)
      (second_true (is_bad_numbers (session_of xs)) (second_true request_tests (ap (λ (b : Bool). b || plan_tests) e)))

  module _ (numbers : is_bad_numbers (session_of xs) ≡ false) where
    pub counts : ((session_of xs).head.done ≤ (session_of xs).head.count) × ((session_of xs).head.count ≤ 64)
    counts =
        let s : IsoChannelState = session_of xs in
        counts_in s (neither (is_bad_config s.cfg || is_bad_counts s) (is_bad_state s) numbers).0

    all_requests : request_tests ≡ any_of is_bad_request_entry 20 (session_of xs).head.count (drop 40 xs)
    all_requests =
        let s : IsoChannelState = session_of xs in
        let each : Bool = any_bad_request (slice 0 s.head.count s.requests) in
        ap (λ (n : ℕ). any_of is_bad_request_bytes 20 n (drop 40 xs) || each) (requests_in_lem s counts.1) ∙ sym (requests_both s.head.count counts.1)

    pub bad_request : any_of is_bad_request_entry 20 (session_of xs).head.count (drop 40 xs) ≡ true → is_unsound xs ≡ true
    bad_request e =
        all_tests
        ∙ second_true (is_bad_mark xs || is_bad_head xs)
        (second_true (is_bad_numbers (session_of xs)) (ap (λ (b : Bool). b || (is_bad_sums (session_of xs) || plan_tests)) (all_requests ∙ e)))

    -- past all other tests the plans decide
    module _ (before : (is_bad_mark xs || is_bad_head xs) ≡ false)
        (requests : any_of is_bad_request_entry 20 (session_of xs).head.count (drop 40 xs) ≡ false) (sums : is_bad_sums (session_of xs) ≡ false) where
      few : all_packets (session_of xs) ≤ 1024
      few = sums_few (session_of xs) sums

      all_plans :
          plan_tests
          ≡ any_of (is_bad_plan_entry (packet_limit (session_of xs).cfg.speed) (slots (session_of xs).cfg)) 7 (all_packets (session_of xs)) (drop 1320 xs)
      all_plans =
          let s : IsoChannelState = session_of xs in
          let each : Bool = any_bad_plan (packet_limit s.cfg.speed) (slots s.cfg) (slice 0 (all_packets s) s.plans) in
          ap (λ (n : ℕ). any_of is_bad_plan_bytes 7 n (drop 1320 xs) || each) (plans_in_lem s counts.1 few)
          ∙ sym (plans_both (packet_limit s.cfg.speed) (slots s.cfg) (all_packets s) few)

      pub by_plans :
          is_unsound xs
          ≡ any_of (is_bad_plan_entry (packet_limit (session_of xs).cfg.speed) (slots (session_of xs).cfg)) 7 (all_packets (session_of xs)) (drop 1320 xs)
      by_plans =
          all_tests
          ∙ ap (λ (b : Bool). b || (is_bad_numbers (session_of xs) || (request_tests || (is_bad_sums (session_of xs) || plan_tests)))) before
          ∙ ap₂ (λ (n r : Bool). n || (r || (is_bad_sums (session_of xs) || plan_tests))) numbers (all_requests ∙ requests)
          ∙ ap₂ (λ (m p : Bool). m || p) sums all_plans

-- ---- the walk, as the code makes it

-- what is known past the requests: `all` packets, `before` of them completed
pub record Walked (xs : List ℕ) (all before : ℕ) : Type 0 where
  pub front : (is_bad_mark xs || is_bad_head xs) ≡ false
  pub numbers : is_bad_numbers (session_of xs) ≡ false
  pub requests : any_of is_bad_request_entry 20 (session_of xs).head.count (drop 40 xs) ≡ false
  pub all_is : all ≡ all_packets (session_of xs)
  pub below : before ≤ all
  pub pending_is : all - before ≡ pending_packets (session_of xs)

module _ (xs : List ℕ) where
  pub counted_some : (b : Bool) {n m : ℕ} → Some n ≡ cond b None (Some m) → (b ≡ false) × (n ≡ m)
  counted_some true e = grind arith
  counted_some false e = (refl, grind arith)

  counted_none : (b : Bool) (m : ℕ) → None ≡ cond b None (Some m) → b ≡ true
  counted_none true m e = refl
  counted_none false m e = grind arith

  module _ {first second : Bool} (is_first : first ≡ (is_bad_mark xs || is_bad_head xs)) (is_second : second ≡ is_bad_numbers (session_of xs)) where
    pub start_bad : (first || second) ≡ true → is_unsound xs ≡ true
    start_bad e = bad_start xs (ap₂ (λ (a b : Bool). a || b) (sym is_first) (sym is_second) ∙ e)

    pub start_good : (first || second) ≡ false → ((is_bad_mark xs || is_bad_head xs) ≡ false) × (is_bad_numbers (session_of xs) ≡ false)
    start_good good = let both = neither first second good in (sym is_first ∙ both.0, sym is_second ∙ both.1)

    module _ (good : (first || second) ≡ false) {h : IsoHead} (is_head : h ≡ head_of xs) where
      start : ((is_bad_mark xs || is_bad_head xs) ≡ false) × (is_bad_numbers (session_of xs) ≡ false)
      start = start_good good

      there : h ≡ (session_of xs).head
      there = is_head ∙ head_there xs

      pub counts_few : (h.done ≤ h.count) × (h.count ≤ 64)
      counts_few =
          let few = counts xs start.1 in
          let done = ap (λ (k : IsoHead). k.done) there in
          let count = ap (λ (k : IsoHead). k.count) there in
          (omega (arith, few, done, count), omega (arith, few, count))

      abbrev Counts : Option ℕ → Type 0
      Counts r = r ≡ cond (any_of is_bad_request_entry 20 h.count (drop 40 xs)) None (Some (packets_of (slice 0 h.count (requests_of xs))))

      pub requests_bad : Counts None → is_unsound xs ≡ true
      requests_bad e =
          bad_request xs start.1
          (sym (ap (λ (k : IsoHead). any_of is_bad_request_entry 20 k.count (drop 40 xs)) there)
          ∙ counted_none (any_of is_bad_request_entry 20 h.count (drop 40 xs)) _ e)

      pub walked : {all before : ℕ} → Counts (Some all) → before ≡ packets_of (slice 0 h.done (requests_of xs)) → Walked xs all before
      walked {all} {before} counted eb =
          let s : IsoChannelState = session_of xs in
          let few = counts xs start.1 in
          let some = counted_some (any_of is_bad_request_entry 20 h.count (drop 40 xs)) counted in
          let all_is : all ≡ all_packets s = some.1 ∙ ap (λ (k : IsoHead). packets_of (slice 0 k.count s.requests)) there in
          let done : before ≡ packets_of (slice 0 s.head.done s.requests) = eb ∙ ap (λ (k : IsoHead). packets_of (slice 0 k.done s.requests)) there in
          let split = packets_split s.head.done s.head.count s.requests few.0 (omega (arith, few.1, requests_many xs)) in
          record {
            front = start.0;
            numbers = start.1;
            requests = sym (ap (λ (k : IsoHead). any_of is_bad_request_entry 20 k.count (drop 40 xs)) there) ∙ some.0;
            all_is = all_is;
            below = omega (arith, all_is, done, split);
            pending_is = omega (arith, all_is, done, split);
          }

  module _ {all before : ℕ} (w : Walked xs all before) {cfg : IsoConfig} (is_cfg : cfg ≡ config_of xs) {over : Bool} (is_over : over ≡ ltb (room cfg) (all - before)) where
    there_cfg : cfg ≡ (session_of xs).cfg
    there_cfg = is_cfg ∙ config_there xs

    sums_are : (ltb 1024 all || over) ≡ is_bad_sums (session_of xs)
    sums_are = sums_test (session_of xs) there_cfg w.all_is w.pending_is is_over

    pub sums_bad : (ltb 1024 all || over) ≡ true → is_unsound xs ≡ true
    sums_bad e = bad_sums xs (sym sums_are ∙ e)

    pub plans_tell :
        {bad : Bool} → (ltb 1024 all || over) ≡ false
        → bad ≡ any_of (is_bad_plan_entry (packet_limit cfg.speed) (slots cfg)) 7 all (drop 1320 xs)
        → bad ≡ is_unsound xs
    plans_tell e eb =
        let s : IsoChannelState = session_of xs in
        eb
        ∙ ap (λ (k : IsoConfig). any_of (is_bad_plan_entry (packet_limit k.speed) (slots k)) 7 all (drop 1320 xs)) there_cfg
        ∙ ap (λ (n : ℕ). any_of (is_bad_plan_entry (packet_limit s.cfg.speed) (slots s.cfg)) 7 n (drop 1320 xs)) w.all_is
        ∙ sym (by_plans xs w.numbers w.front w.requests (sym sums_are ∙ e))

  -- what is answered

  pub none_counted : is_unsound xs ≡ true → None ≡ sums_in xs
  none_counted e = sym (ap (λ (b : Bool). cond b None (Some (sums_of (session_of xs)))) e)

  pub some_counted :
      {all pending : ℕ} → is_unsound xs ≡ false → all ≡ all_packets (session_of xs) → pending ≡ pending_packets (session_of xs)
      → Some (record { all = all; pending = pending }) ≡ sums_in xs
  some_counted e ea ep =
      ap₂ (λ (n m : ℕ). Some (record { all = n; pending = m })) ea ep ∙ sym (ap (λ (b : Bool). cond b None (Some (sums_of (session_of xs)))) e)

  -- without requests no entry is in use
  no_entry : (bad : List ℕ → Bool) (w n : ℕ) (ys : List ℕ) → 0 ≡ n → any_of bad w n ys ≡ false
  unfolding any_of
  no_entry bad w n ys e = sym (ap (λ (k : ℕ). any_of bad w k ys) e)

  pub empty_counted :
      (is_bad_mark xs || is_bad_head xs) ≡ false → is_bad_numbers (session_of xs) ≡ false → 0 ≡ (session_of xs).head.count
      → Some (record { all = 0; pending = 0 }) ≡ sums_in xs
  empty_counted front numbers empty =
      let s : IsoChannelState = session_of xs in
      let all : 0 ≡ all_packets s = sym (packets_past 0 s.head.count s.requests (omega (arith, empty))) in
      let pending : 0 ≡ pending_packets s = sym (packets_past s.head.done s.head.count s.requests (omega (arith, empty))) in
      let sums : is_bad_sums s ≡ false =
      none (le-ltb 1024 (all_packets s) (omega (arith, all))) (le-ltb (room s.cfg) (pending_packets s) (omega (arith, pending))) in
      some_counted
      (by_plans xs numbers front (no_entry is_bad_request_entry 20 s.head.count (drop 40 xs) empty) sums
      ∙ no_entry (is_bad_plan_entry (packet_limit s.cfg.speed) (slots s.cfg)) 7 (all_packets s) (drop 1320 xs) all)
      all pending
