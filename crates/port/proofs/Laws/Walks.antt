-- A session in its bytes, worked on in place: single fields read where they stand, one turn of a walk that writes a table's entries, and how many
-- entries are in use.
use Rattle.std.proofs.Common.{◌≡◌, ℕ, ◌+◌, ◌*◌, ◌<◌, ◌≤◌, min, false, List, get_or, drop, set, sym, refl, ap, ◌∙◌, lt_of_lt_of_le, arith}
use native.Mathlib.Nat.{min-le_right, min-eq_left}
use lib.Seq.{slice, sets}
use Rattle.session.specs.declared.types.IsoRequest.{IsoRequest}
use Rattle.session.specs.declared.types.IsoPacketPlan.{IsoPacketPlan}
use Rattle.session.specs.declared.types.IsoChannelState.{IsoChannelState}
use Rattle.session.specs.Session.{blank_request, blank_plan, packets_of, all_packets}
use Rattle.session.specs.Record.{is_bad_record}
use Rattle.session.proofs.Laws.Record.{Sound, sound}
use Rattle.session.proofs.Laws.Sums.{packets_next}
use Rattle.port.specs.Bytes.{byte_of, u16_of, u64_of}
use Rattle.port.specs.Tags.{direction_of}
use Rattle.port.specs.Layout.{config_of, head_of, request_bytes, request_of, plan_bytes, plan_of, layout_number, session_of, requests_in, plans_in}
use Rattle.port.specs.Places.{requests_of, plans_of, with_requests, with_plans, Left}
use Rattle.port.proofs.Canonical.{request_clear, plan_clear}
use Rattle.port.proofs.Laws.Calls.{long_enough}
use Rattle.port.proofs.Laws.Entries.{field}
use Rattle.port.proofs.Laws.Left.{left_is, left_request, left_plan}
use Rattle.port.proofs.Laws.Placed.{plan_there, request_there, requests_many, plans_many}

-- ---- single fields, read where they stand

pub done_there : (xs : List ℕ) → u16_of (drop 30 xs) ≡ (session_of xs).head.done
unfolding session_of head_of
done_there xs = refl

pub count_there : (xs : List ℕ) → u16_of (drop 32 xs) ≡ (session_of xs).head.count
unfolding session_of head_of
count_there xs = refl

pub direction_there : (xs : List ℕ) → direction_of (byte_of (drop 6 xs)) ≡ (session_of xs).cfg.direction
unfolding session_of config_of
direction_there xs = refl

pub packets_there : (xs : List ℕ) (i : ℕ) → i < 64 → u16_of (drop (52 + 20 * i) xs) ≡ (get_or (requests_of xs) i blank_request).packets
unfolding request_of
packets_there xs i h =
    let on : 52 + 20 * i ≡ 40 + 20 * i + 12 = omega arith in
    ap (λ (n : ℕ). u16_of (drop n xs)) on ∙ field u16_of 12 (40 + 20 * i) xs ∙ ap (λ (r : IsoRequest). r.packets) (request_there xs i blank_request h)

pub id_there : (xs : List ℕ) (i : ℕ) → i < 64 → u64_of (drop (40 + 20 * i) xs) ≡ (get_or (requests_of xs) i blank_request).id
unfolding request_of
id_there xs i h = ap (λ (r : IsoRequest). r.id) (request_there xs i blank_request h)

pub planned_there : (xs : List ℕ) (i : ℕ) → i < 1024 → u16_of (drop (1320 + 7 * i) xs) ≡ (get_or (plans_of xs) i blank_plan).planned
unfolding plan_of
planned_there xs i h = ap (λ (p : IsoPacketPlan). p.planned) (plan_there xs i blank_plan h)

pub slot_there : (xs : List ℕ) (i : ℕ) → i < 1024 → u16_of (drop (1322 + 7 * i) xs) ≡ (get_or (plans_of xs) i blank_plan).desc_index
unfolding plan_of
slot_there xs i h =
    let on : 1322 + 7 * i ≡ 1320 + 7 * i + 2 = omega arith in
    ap (λ (n : ℕ). u16_of (drop n xs)) on ∙ field u16_of 2 (1320 + 7 * i) xs ∙ ap (λ (p : IsoPacketPlan). p.desc_index) (plan_there xs i blank_plan h)

pub packets_step :
    (xs : List ℕ) (n i sum all : ℕ) {packets : ℕ} → i < n → n ≤ 64 → packets ≡ (get_or (requests_of xs) i blank_request).packets
    → sum + packets_of (slice i n (requests_of xs)) ≡ all
    → sum + packets + packets_of (slice (i + 1) n (requests_of xs)) ≡ all
packets_step xs n i sum all h few here so_far = omega (arith, packets_next i n (requests_of xs) h (omega (arith, requests_many xs)), here, so_far)

-- ---- one turn of a walk: `now` holds the session `s` but for one table, and an entry of that table that is in use is written

module _ (xs : List ℕ) (z : layout_number xs ≡ 0) (s : IsoChannelState) {now next : List ℕ} where
  pub plan_turn :
      (i : ℕ) (p : IsoPacketPlan) → i < plans_in (session_of xs) → Left xs now (with_plans s (plans_of now)) → next ≡ sets now (1320 + 7 * i) (plan_bytes p)
      → (plans_of next ≡ set (plans_of now) i p) × Left xs next (with_plans s (plans_of next))
  plan_turn i p h k n =
      let small : i < 1024 = lt_of_lt_of_le h (min-le_right (packets_of (slice 0 (requests_in (session_of xs)) (requests_of xs))) 1024) in
      let put = left_plan (long_enough xs refl z) k i p small (plan_clear xs z i h) n in
      let held : plans_of next ≡ set (plans_of now) i p = ap (λ (t : IsoChannelState). t.plans) put.holds in
      (held, left_is put (ap (with_plans s) (sym held)))

  pub request_turn :
      (i : ℕ) (r : IsoRequest) → i < requests_in (session_of xs) → Left xs now (with_requests s (requests_of now))
      → next ≡ sets now (40 + 20 * i) (request_bytes r)
      → (requests_of next ≡ set (requests_of now) i r) × Left xs next (with_requests s (requests_of next))
  request_turn i r h k n =
      let small : i < 64 = lt_of_lt_of_le h (min-le_right (session_of xs).head.count 64) in
      let put = left_request (long_enough xs refl z) k i r small (request_clear xs z i h) n in
      let held : requests_of next ≡ set (requests_of now) i r = ap (λ (t : IsoChannelState). t.requests) put.holds in
      (held, left_is put (ap (with_requests s) (sym held)))

-- a good record, read from bytes: its tables are as long as the layout says
pub sound_there : (xs : List ℕ) → is_bad_record (session_of xs) ≡ false → Sound (session_of xs)
sound_there xs good = sound (session_of xs) (requests_many xs) (plans_many xs) good

-- ---- the entries in use of a good record are those that its numbers name

module _ (s : IsoChannelState) (few : s.head.count ≤ 64) where
  pub requests_in_lem : requests_in s ≡ s.head.count
  requests_in_lem = min-eq_left few

  pub plans_in_lem : all_packets s ≤ 1024 → plans_in s ≡ all_packets s
  plans_in_lem h = ap (λ (n : ℕ). min (packets_of (slice 0 n s.requests)) 1024) requests_in_lem ∙ min-eq_left h
