-- Closing up in place: a table's entries moved down as bytes, and the bytes without a request after the last store.
use Rattle.std.proofs.Common.{◌≡◌, ℕ, ◌+◌, ◌-◌, ◌*◌, ◌<◌, ◌≤◌, Bool, false, cond, List, map, length, get_or, take, drop, set, sym, refl, ap, ◌∙◌, le_of_eq, le_refl, arith}
use native.Mathlib.Nat.{min-le_right}
use lib.Seq.{slice, sets, length-slice}
use Rattle.session.specs.declared.types.IsoHead.{IsoHead}
use Rattle.session.specs.declared.types.IsoRequest.{IsoRequest}
use Rattle.session.specs.declared.types.IsoPacketPlan.{IsoPacketPlan}
use Rattle.session.specs.declared.types.IsoChannelState.{IsoChannelState}
use Rattle.session.specs.Session.{blank_request, all_packets, packets_of}
use Rattle.session.specs.Reclaim.{is_done, result_word, plans_begin, plans_end, closed_up, one_less, removed, handed_results}
use Rattle.session.proofs.Laws.Handed.{removed_by}
use Rattle.session.specs.Scan.{whole}
use Rattle.port.specs.Layout.{head_bytes, request_bytes, request_of, is_bad_request_bytes, plan_bytes, plan_of, is_bad_plan_bytes}
use Rattle.port.specs.Layout.{table_bytes, table_of, any_of, layout_number, session_of, requests_in, plans_in}
use Rattle.port.specs.Places.{requests_of, plans_of, with_requests, with_plans, Left}
use Rattle.port.proofs.Canonical.{requests_clear, plans_clear, loaded_left, left_layout}
use Rattle.port.proofs.Laws.Calls.{long_enough}
use Rattle.port.proofs.Laws.Entries.{length_request, length_plan}
use Rattle.port.proofs.Laws.Kept.{Octets, request_kept, plan_kept}
use Rattle.port.proofs.Laws.Left.{left_is, left_over, kept_head, requests_read, plans_read}
use Rattle.port.proofs.Laws.Over.{part_same}
use Rattle.port.proofs.Laws.Tables.{length_table, any_less, run_stored}
use Rattle.port.proofs.Laws.Walks.{requests_in_lem, request_turn, plan_turn}

-- ---- one table: the bytes of the entries from `from` to `to`, which are in use, stand at `into`

module _ {A : Type 0} (f : List ℕ → A) (g : A → List ℕ) (bad : List ℕ → Bool) (w off n used : ℕ) (long : (a : A) → length (g a) ≡ w)
    (kept : (ys : List ℕ) → Octets ys → w ≤ length ys → bad ys ≡ false → g (f ys) ≡ take w ys)
    (table : List ℕ → List A) (read : (ys : List ℕ) → table ys ≡ table_of f w n (drop off ys)) (Holds : List ℕ → Type 0)
    (turn : (now next : List ℕ) (i : ℕ) (a : A) → i < used → Holds now → next ≡ sets now (off + w * i) (g a)
    → (table next ≡ set (table now) i a) × Holds next) where
  entries_moved :
      (xs : List ℕ) (into from to end : ℕ) {next : List ℕ} → Octets xs → into ≤ from → from ≤ to → to ≤ used → used ≤ n → end ≡ off + w * to
      → end ≤ length xs
      → any_of bad w used (drop off xs) ≡ false
      → Holds xs
      → next ≡ sets xs (off + w * into) (slice (off + w * from) end xs)
      → (table next ≡ closed_up into from to (table xs)) × Holds next
  entries_moved xs into from to end octets h k few all ends fits clear holds e =
      let many : length (slice from to (table xs)) ≡ to - from =
      length-slice from to (table xs) (omega (arith, ap length (read xs), length_table f w n (drop off xs))) in
      let same : slice (off + w * from) end xs ≡ table_bytes g (slice from to (table xs)) =
      ap (λ (t : ℕ). slice (off + w * from) t xs) ends
      ∙ part_same g bad w long f kept off from to n xs octets (omega arith) (omega arith) (any_less bad w used to (drop off xs) few clear)
      ∙ ap (λ (l : List A). table_bytes g (slice from to l)) (sym (read xs)) in
      run_stored g w off used long table Holds turn (slice from to (table xs)) into (omega (arith, many)) holds (e ∙ ap (sets xs (off + w * into)) same)

module _ (xs : List ℕ) (z : layout_number xs ≡ 0) (octets : Octets xs) (into from to : ℕ) (h : into ≤ from) (k : from ≤ to) where
  pub plans_moved :
      {next : List ℕ} → to ≤ plans_in (session_of xs)
      → next ≡ sets xs (1320 + 7 * into) (slice (1320 + 7 * from) (1320 + 7 * from + 7 * (to - from)) xs)
      → Left xs next (with_plans (session_of xs) (closed_up into from to (plans_of xs)))
  plans_moved few e =
      let all : plans_in (session_of xs) ≤ 1024 = min-le_right (packets_of (slice 0 (requests_in (session_of xs)) (requests_of xs))) 1024 in
      let put =
      entries_moved plan_of plan_bytes is_bad_plan_bytes 7 1320 1024 (plans_in (session_of xs)) length_plan plan_kept plans_of plans_read
      (λ (now : List ℕ). Left xs now (with_plans (session_of xs) (plans_of now)))
      (λ (now next : List ℕ). plan_turn xs z (session_of xs) {now = now} {next = next}) xs into from to (1320 + 7 * from + 7 * (to - from)) octets h k
      few all (omega arith) (omega (arith, long_enough xs refl z)) (plans_clear xs z) (loaded_left xs z octets) e in
      left_is put.1 (ap (with_plans (session_of xs)) put.0)

  pub requests_moved :
      {next : List ℕ} → to ≤ requests_in (session_of xs)
      → next ≡ sets xs (40 + 20 * into) (slice (40 + 20 * from) (40 + 20 * from + 20 * (to - from)) xs)
      → Left xs next (with_requests (session_of xs) (closed_up into from to (requests_of xs)))
  requests_moved few e =
      let all : requests_in (session_of xs) ≤ 64 = min-le_right (session_of xs).head.count 64 in
      let put =
      entries_moved request_of request_bytes is_bad_request_bytes 20 40 64 (requests_in (session_of xs)) length_request request_kept requests_of requests_read
      (λ (now : List ℕ). Left xs now (with_requests (session_of xs) (requests_of now)))
      (λ (now next : List ℕ). request_turn xs z (session_of xs) {now = now} {next = next}) xs into from to (40 + 20 * from + 20 * (to - from)) octets h k
      few all (omega arith) (omega (arith, long_enough xs refl z)) (requests_clear xs z) (loaded_left xs z octets) e in
      left_is put.1 (ap (with_requests (session_of xs)) put.0)

-- ---- the whole: `b` holds the plans closed up, `c` the requests besides, `d` the head

module _ (xs : List ℕ) (at from to all : ℕ) {head : IsoHead} (z : layout_number xs ≡ 0) (few : (session_of xs).head.count ≤ 64)
    (eh : head ≡ (session_of xs).head) (ef : from ≡ plans_begin at (session_of xs)) (et : to ≡ plans_end at (session_of xs))
    (ea : all ≡ packets_of (slice 0 head.count (session_of xs).requests)) where
  abbrev s : IsoChannelState
  s = session_of xs

  abbrev left : List IsoRequest
  left = closed_up at (at + 1) head.count s.requests

  abbrev table : List IsoPacketPlan
  table = closed_up from to all s.plans

  all_is : all ≡ all_packets s
  all_is = ea ∙ ap (λ (h : IsoHead). packets_of (slice 0 h.count s.requests)) eh

  module _ {b : List ℕ} (eb : Left xs b (with_plans s table)) where
    -- as many entries are in use as before
    pub closed_layout : layout_number b ≡ 0
    closed_layout = left_layout xs z eb (le_refl (requests_in s)) (le_refl (plans_in s))

    -- the requests that move are in use
    pub requests_used : head.count ≤ requests_in (session_of b)
    requests_used = le_of_eq (ap (λ (h : IsoHead). h.count) eh ∙ sym (requests_in_lem s few) ∙ sym (ap requests_in eb.holds))

    pub bytes_removed :
        {c d : List ℕ} {next : IsoHead} → Left b c (with_requests (session_of b) (closed_up at (at + 1) head.count (requests_of b)))
        → next ≡ one_less head
        → d ≡ sets c 15 (head_bytes next)
        → Left xs d (removed at s)
    bytes_removed {c} ec en ed =
        let long : 8488 ≤ length xs = long_enough xs refl z in
        let count_is : left ≡ closed_up at (at + 1) s.head.count s.requests =
        ap (λ (h : IsoHead). closed_up at (at + 1) h.count s.requests) eh in
        let both : Left xs c (whole s.cfg s.head s.fatal left table) =
        left_is (left_over long eb ec)
        (ap (λ (t : IsoChannelState). with_requests t (closed_up at (at + 1) head.count t.requests)) eb.holds) in
        let put = kept_head long both (one_less s.head) (ed ∙ ap (λ (h : IsoHead). sets c 15 (head_bytes h)) (en ∙ ap one_less eh)) in
        left_is put (removed_by at s from to ef et all left table all_is count_is refl)

-- the results that a request hands out, by what was read of it
pub handed_in_place :
    (s : IsoChannelState) (at from to : ℕ) {b : Bool} {r : IsoRequest} (results : List ℕ) {now : List ℕ} → from ≡ plans_begin at s → to ≡ plans_end at s
    → r ≡ get_or s.requests at blank_request
    → b ≡ is_done r.outcome
    → now ≡ cond b (sets results 0 (map result_word (slice from to s.plans))) results
    → now ≡ handed_results at s results
handed_in_place s at from to {b} {r} results ef et er eb e =
    let by : Bool → ℕ → ℕ → List ℕ = λ (x : Bool) (f t : ℕ). cond x (sets results 0 (map result_word (slice f t s.plans))) results in
    e
    ∙ ap (λ (x : Bool). by x from to) (eb ∙ ap (λ (q : IsoRequest). is_done q.outcome) er)
    ∙ ap (λ (f : ℕ). by (is_done (get_or s.requests at blank_request).outcome) f to) ef
    ∙ ap (λ (t : ℕ). by (is_done (get_or s.requests at blank_request).outcome) (plans_begin at s) t) et
