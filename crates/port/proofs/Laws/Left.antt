-- A session in its bytes, worked on in place: what one part written, an entry, the head or the reason, leaves in the place of the bytes at the
-- beginning. Bytes of entries that are not in the layout stay, so an entry may be written only where it was tested, or behind those written.
use Rattle.std.proofs.Common.{Option, ◌≡◌, ℕ, suc, ◌+◌, ◌*◌, ◌<◌, ◌≤◌, false, List, ◌++◌, length, drop, set, sym, refl, ap, ◌∙◌, subst, ap₂, append_assoc, arith, length-append, length-drop, length-set, drop_at}
use lib.Seq.{sets}
use Rattle.session.specs.declared.types.IsoHead.{IsoHead}
use Rattle.session.specs.declared.types.IsoHaltReason.{IsoHaltReason}
use Rattle.session.specs.declared.types.IsoRequest.{IsoRequest}
use Rattle.session.specs.declared.types.IsoPacketPlan.{IsoPacketPlan}
use Rattle.session.specs.declared.types.IsoChannelState.{IsoChannelState}
use Rattle.session.specs.Scan.{whole}
use Rattle.port.specs.Bytes.{u16_bytes, u32_bytes, u64_bytes}
use Rattle.port.specs.Tags.{tagged_bytes, tagged_of, fatal_tagged}
use Rattle.port.specs.Layout.{mark_bytes, config_bytes, config_of, head_bytes, head_of, request_bytes, request_of, is_bad_request_bytes, plan_bytes, plan_of, is_bad_plan_bytes}
use Rattle.port.specs.Layout.{table_of, table_kept, any_of, front, session_of, kept, is_bad_mark, is_bad_head}
use Rattle.port.specs.Places.{requests_of, plans_of, with_requests, with_plans, Kept, Left}
use Rattle.port.proofs.Laws.Back.{request_back, request_good, plan_back, plan_good, fatal_back}
use Rattle.port.proofs.Laws.Entries.{length_request, length_plan, length_tagged, request_within, bad_request_within, plan_within, bad_plan_within}
use Rattle.port.proofs.Laws.Loaded.{session_at}
use Rattle.port.proofs.Laws.Over.{table_before, table_set, length_kept, kept_put, kept_next, kept_over, kept_any}
use Rattle.port.proofs.Laws.Placed.{requests_many, plans_many}
use Rattle.port.proofs.Laws.Runs.{sets_behind, sets_middle, drop_sets, drop_sets_add}
use Rattle.port.proofs.Laws.Saved.{length_front}
use Rattle.port.proofs.Roundtrip.{config_back, head_back, reason_back, mark_good, head_good}

-- ---- the parts of the bytes

-- the requests, the plans, and what stands behind the session
module _ (n m : ℕ) (xs : List ℕ) (s : IsoChannelState) where
  abbrev R : List ℕ
  R = table_kept request_bytes is_bad_request_bytes 20 n s.requests (drop 40 xs)

  abbrev P : List ℕ
  P = table_kept plan_bytes is_bad_plan_bytes 7 m s.plans (drop 1320 xs)

  abbrev E : List ℕ
  E = drop 8488 xs

  parts : kept n m xs s ≡ front s ++ (R ++ (P ++ E))
  unfolding kept
  parts = append_assoc (front s ++ R) P E ∙ append_assoc (front s) R (P ++ E)

  -- what stands before the tables is of the layout
  pub front_good : {ys : List ℕ} → ys ≡ kept n m xs s → (is_bad_mark ys ≡ false) × (is_bad_head ys ≡ false)
  front_good e =
      let rest : List ℕ = R ++ (P ++ E) in
      (ap is_bad_mark (e ∙ parts) ∙ mark_good s rest, ap is_bad_head (e ∙ parts) ∙ head_good s rest)

  module _ (long : 8488 ≤ length xs) (many_requests : length s.requests ≡ 64) (many_plans : length s.plans ≡ 1024) where
    length_R : length R ≡ 1280
    length_R =
        length_kept request_bytes is_bad_request_bytes 20 length_request n s.requests (drop 40 xs) (omega (arith, many_requests, length-drop 40 xs))
        ∙ omega (arith, many_requests)

    length-P : length P ≡ 7168
    length-P =
        length_kept plan_bytes is_bad_plan_bytes 7 length_plan m s.plans (drop 1320 xs) (omega (arith, many_plans, length-drop 1320 xs))
        ∙ omega (arith, many_plans)

    pub at_requests : drop 40 (kept n m xs s) ≡ R ++ (P ++ E)
    at_requests = ap (drop 40) parts ∙ drop_at (front s) (R ++ (P ++ E)) 40 (length_front s)

    pub at_plans : drop 1320 (kept n m xs s) ≡ P ++ E
    at_plans =
        ap (drop 1320) (parts ∙ sym (append_assoc (front s) R (P ++ E)))
        ∙ drop_at (front s ++ R) (P ++ E) 1320 (length-append (front s) R ∙ omega (arith, length_front s, length_R))

    pub at_end : drop 8488 (kept n m xs s) ≡ E
    unfolding kept
    at_end =
        drop_at (front s ++ R ++ P) E 8488
        (length-append (front s ++ R) P ∙ omega (arith, length-append (front s) R, length_front s, length_R, length-P))

    pub length_left : length (kept n m xs s) ≡ length xs
    unfolding kept
    length_left =
        length-append (front s ++ R ++ P) E
        ∙ omega (arith, length-append (front s ++ R) P, length-append (front s) R, length_front s, length_R, length-P, length-drop 8488 xs)

    -- bytes with these parts and these tables hold the session
    held :
        {ys : List ℕ} → ys ≡ kept n m xs s → s.requests ≡ table_of request_of 20 64 (drop 40 ys) → s.plans ≡ table_of plan_of 7 1024 (drop 1320 ys)
        → session_of ys ≡ s
    held {ys} e er ep =
        let rest : List ℕ = R ++ (P ++ E) in
        let is : front s ++ rest ≡ ys = sym (e ∙ parts) in
        sym
        (session_at ys (config_back s rest ∙ ap config_of is) (head_back s rest ∙ ap head_of is) (reason_back s rest ∙ ap (λ (l : List ℕ). tagged_of (drop 34 l)) is)
        (fatal_back s.fatal) er ep)

    plan_at_place : (i : ℕ) → length (front s ++ R) + 7 * i ≡ 1320 + 7 * i
    plan_at_place i = omega (arith, length-append (front s) R, length_front s, length_R)

-- ---- one part written

module _ (xs : List ℕ) (s : IsoChannelState) (long : 8488 ≤ length xs) (many_requests : length s.requests ≡ 64) (many_plans : length s.plans ≡ 1024) where
  -- what a store does to the table it does to the bytes; `a` entries are written afterwards
  requests_put :
      (n a m i : ℕ) (r : IsoRequest) (l : List IsoRequest)
      → sets (R n m xs s ++ (P n m xs s ++ E n m xs s)) (20 * i) (request_bytes r)
      ≡ table_kept request_bytes is_bad_request_bytes 20 a l (drop 40 xs) ++ (P n m xs s ++ E n m xs s)
      → sets (kept n m xs s) (40 + 20 * i) (request_bytes r) ≡ kept a m xs (with_requests s l)
  unfolding front
  requests_put n a m i r l put =
      ap (λ (k : List ℕ). sets k (40 + 20 * i) (request_bytes r)) (parts n m xs s)
      ∙ sets_behind (front s) (R n m xs s ++ (P n m xs s ++ E n m xs s)) (20 * i) (40 + 20 * i) (request_bytes r) (omega (arith, length_front s))
      ∙ ap (λ (k : List ℕ). front s ++ k) put
      ∙ sym (parts a m xs (with_requests s l))

  plans_put :
      (n m a i : ℕ) (p : IsoPacketPlan) (l : List IsoPacketPlan)
      → sets (P n m xs s ++ E n m xs s) (7 * i) (plan_bytes p) ≡ table_kept plan_bytes is_bad_plan_bytes 7 a l (drop 1320 xs) ++ E n m xs s
      → sets (kept n m xs s) (1320 + 7 * i) (plan_bytes p) ≡ kept n a xs (with_plans s l)
  unfolding front
  plans_put n m a i p l put =
      let before : List ℕ = front s ++ R n m xs s in
      let apart : (k : List ℕ) → front s ++ (R n m xs s ++ k) ≡ before ++ k = λ k. sym (append_assoc (front s) (R n m xs s) k) in
      ap (λ (k : List ℕ). sets k (1320 + 7 * i) (plan_bytes p)) (parts n m xs s ∙ apart (P n m xs s ++ E n m xs s))
      ∙ sets_behind before (P n m xs s ++ E n m xs s) (7 * i) (1320 + 7 * i) (plan_bytes p) (plan_at_place n m xs s long many_requests many_plans i)
      ∙ ap (λ (k : List ℕ). before ++ k) put
      ∙ sym (apart (P n a xs (with_plans s l) ++ E n a xs (with_plans s l)))
      ∙ sym (parts n a xs (with_plans s l))

  request_put :
      (m i : ℕ) (r : IsoRequest) → i < 64 → is_bad_request_bytes (drop (20 * i) (drop 40 xs)) ≡ false
      → sets (kept 0 m xs s) (40 + 20 * i) (request_bytes r) ≡ kept 0 m xs (with_requests s (set s.requests i r))
  request_put m i r h good =
      requests_put 0 0 m i r (set s.requests i r)
      (kept_put request_bytes is_bad_request_bytes 20 length_request s.requests i r (drop 40 xs) (P 0 m xs s ++ E 0 m xs s) (omega (arith, many_requests))
      (omega (arith, many_requests, length-drop 40 xs)) good)

  request_next :
      (n m : ℕ) (r : IsoRequest) → n < 64
      → sets (kept n m xs s) (40 + 20 * n) (request_bytes r) ≡ kept (suc n) m xs (with_requests s (set s.requests n r))
  request_next n m r h =
      requests_put n (suc n) m n r (set s.requests n r)
      (kept_next request_bytes is_bad_request_bytes 20 length_request s.requests n r (drop 40 xs) (P n m xs s ++ E n m xs s) (omega (arith, many_requests))
      (omega (arith, many_requests, length-drop 40 xs)))

  plan_put :
      (n i : ℕ) (p : IsoPacketPlan) → i < 1024 → is_bad_plan_bytes (drop (7 * i) (drop 1320 xs)) ≡ false
      → sets (kept n 0 xs s) (1320 + 7 * i) (plan_bytes p) ≡ kept n 0 xs (with_plans s (set s.plans i p))
  plan_put n i p h good =
      plans_put n 0 0 i p (set s.plans i p)
      (kept_put plan_bytes is_bad_plan_bytes 7 length_plan s.plans i p (drop 1320 xs) (E n 0 xs s) (omega (arith, many_plans))
      (omega (arith, many_plans, length-drop 1320 xs)) good)

  plan_next :
      (n m : ℕ) (p : IsoPacketPlan) → m < 1024
      → sets (kept n m xs s) (1320 + 7 * m) (plan_bytes p) ≡ kept n (suc m) xs (with_plans s (set s.plans m p))
  plan_next n m p h =
      plans_put n m (suc m) m p (set s.plans m p)
      (kept_next plan_bytes is_bad_plan_bytes 7 length_plan s.plans m p (drop 1320 xs) (E n m xs s) (omega (arith, many_plans))
      (omega (arith, many_plans, length-drop 1320 xs)))

length_to_head : (s : IsoChannelState) → length (mark_bytes ++ config_bytes s.cfg) ≡ 15
unfolding mark_bytes config_bytes u16_bytes
length_to_head s = refl

length_head : (h : IsoHead) → length (head_bytes h) ≡ 19
unfolding head_bytes u64_bytes u32_bytes u16_bytes
length_head h = refl

abbrev pub with_cursor : ℕ → IsoHead → IsoHead
with_cursor k h =
    record {
      next_request_id = h.next_request_id;
      live = h.live;
      td_last = k;
      start_full_frame = h.start_full_frame;
      done = h.done;
      count = h.count;
    }

cursor_bytes : (h : IsoHead) (k : ℕ) (rest : List ℕ) → sets (head_bytes h ++ rest) 13 (u16_bytes k) ≡ head_bytes (with_cursor k h) ++ rest
unfolding head_bytes u64_bytes u32_bytes u16_bytes
cursor_bytes h k rest = refl

abbrev pub with_count : ℕ → IsoHead → IsoHead
with_count k h =
    record {
      next_request_id = h.next_request_id;
      live = h.live;
      td_last = h.td_last;
      start_full_frame = h.start_full_frame;
      done = h.done;
      count = k;
    }

count_bytes : (h : IsoHead) (k : ℕ) (rest : List ℕ) → sets (head_bytes h ++ rest) 17 (u16_bytes k) ≡ head_bytes (with_count k h) ++ rest
unfolding head_bytes u64_bytes u32_bytes u16_bytes
count_bytes h k rest = refl

module _ (n m : ℕ) (xs : List ℕ) (s : IsoChannelState) where
  head_put : (h : IsoHead) → sets (kept n m xs s) 15 (head_bytes h) ≡ kept n m xs (whole s.cfg h s.fatal s.requests s.plans)
  unfolding front
  head_put h =
      let t : IsoChannelState = whole s.cfg h s.fatal s.requests s.plans in
      let a : List ℕ = mark_bytes ++ config_bytes s.cfg in
      let r : List ℕ = tagged_bytes (fatal_tagged s.fatal) in
      let l : List ℕ = R n m xs s ++ (P n m xs s ++ E n m xs s) in
      let apart : (b : List ℕ) → a ++ b ++ r ++ l ≡ a ++ (b ++ (r ++ l)) = λ b. append_assoc (a ++ b) r l ∙ append_assoc a b (r ++ l) in
      ap (λ (k : List ℕ). sets k 15 (head_bytes h)) (parts n m xs s ∙ apart (head_bytes s.head))
      ∙ sets_middle a (head_bytes s.head) (r ++ l) (head_bytes h) 15 (length_to_head s) (length_head h ∙ sym (length_head s.head))
      ∙ sym (apart (head_bytes h))
      ∙ sym (parts n m xs t)

  -- a field of the head alone, `at` bytes into it
  field_put :
      (at off : ℕ) (vs : List ℕ) (h : IsoHead) → 15 + at ≡ off
      → ((rest : List ℕ) → sets (head_bytes s.head ++ rest) at vs ≡ head_bytes h ++ rest)
      → sets (kept n m xs s) off vs ≡ kept n m xs (whole s.cfg h s.fatal s.requests s.plans)
  unfolding front
  field_put at off vs h eo eh =
      let t : IsoChannelState = whole s.cfg h s.fatal s.requests s.plans in
      let a : List ℕ = mark_bytes ++ config_bytes s.cfg in
      let r : List ℕ = tagged_bytes (fatal_tagged s.fatal) in
      let l : List ℕ = R n m xs s ++ (P n m xs s ++ E n m xs s) in
      let apart : (b : List ℕ) → a ++ b ++ r ++ l ≡ a ++ (b ++ (r ++ l)) = λ b. append_assoc (a ++ b) r l ∙ append_assoc a b (r ++ l) in
      ap (λ (ys : List ℕ). sets ys off vs) (parts n m xs s ∙ apart (head_bytes s.head))
      ∙ sets_behind a (head_bytes s.head ++ (r ++ l)) at off vs (omega (arith, length_to_head s))
      ∙ ap (λ (ys : List ℕ). a ++ ys) (eh (r ++ l))
      ∙ sym (apart (head_bytes h))
      ∙ sym (parts n m xs t)

  reason_put : (f : Option IsoHaltReason) → sets (kept n m xs s) 34 (tagged_bytes (fatal_tagged f)) ≡ kept n m xs (whole s.cfg s.head f s.requests s.plans)
  unfolding front
  reason_put f =
      let t : IsoChannelState = whole s.cfg s.head f s.requests s.plans in
      let a : List ℕ = mark_bytes ++ config_bytes s.cfg ++ head_bytes s.head in
      let l : List ℕ = R n m xs s ++ (P n m xs s ++ E n m xs s) in
      let apart : (b : List ℕ) → a ++ b ++ l ≡ a ++ (b ++ l) = λ b. append_assoc a b l in
      ap (λ (k : List ℕ). sets k 34 (tagged_bytes (fatal_tagged f))) (parts n m xs s ∙ apart (tagged_bytes (fatal_tagged s.fatal)))
      ∙ sets_middle a (tagged_bytes (fatal_tagged s.fatal)) l (tagged_bytes (fatal_tagged f)) 34
      (length-append (mark_bytes ++ config_bytes s.cfg) (head_bytes s.head) ∙ omega (arith, length_to_head s, length_head s.head))
      (length_tagged (fatal_tagged f) ∙ sym (length_tagged (fatal_tagged s.fatal)))
      ∙ sym (apart (tagged_bytes (fatal_tagged f)))
      ∙ sym (parts n m xs t)

-- ---- the tables after a store

pub requests_read : (xs : List ℕ) → requests_of xs ≡ table_of request_of 20 64 (drop 40 xs)
unfolding session_of
requests_read xs = refl

pub plans_read : (xs : List ℕ) → plans_of xs ≡ table_of plan_of 7 1024 (drop 1320 xs)
unfolding session_of
plans_read xs = refl

module _ (now : List ℕ) (long : 8488 ≤ length now) where
  request_stored : (i : ℕ) (r : IsoRequest) → i < 64 → requests_of (sets now (40 + 20 * i) (request_bytes r)) ≡ set (requests_of now) i r
  request_stored i r h =
      requests_read (sets now (40 + 20 * i) (request_bytes r))
      ∙ ap (table_of request_of 20 64) (drop_sets_add 40 now (40 + 20 * i) (20 * i) (request_bytes r) refl)
      ∙ table_set request_of 20 request_within request_bytes length_request request_back 64 i (drop 40 now) r h (omega (arith, length-drop 40 now))
      ∙ ap (λ (l : List IsoRequest). set l i r) (sym (requests_read now))

  plan_stored : (i : ℕ) (p : IsoPacketPlan) → i < 1024 → plans_of (sets now (1320 + 7 * i) (plan_bytes p)) ≡ set (plans_of now) i p
  plan_stored i p h =
      plans_read (sets now (1320 + 7 * i) (plan_bytes p))
      ∙ ap (table_of plan_of 7 1024) (drop_sets_add 1320 now (1320 + 7 * i) (7 * i) (plan_bytes p) refl)
      ∙ table_set plan_of 7 plan_within plan_bytes length_plan plan_back 1024 i (drop 1320 now) p h (omega (arith, length-drop 1320 now))
      ∙ ap (λ (l : List IsoPacketPlan). set l i p) (sym (plans_read now))

-- a run before the plans leaves them, one before the tables both, one behind the requests those
plans_stay : (now : List ℕ) (at : ℕ) (vs : List ℕ) → at + length vs ≤ 1320 → plans_of (sets now at vs) ≡ plans_of now
plans_stay now at vs h = plans_read (sets now at vs) ∙ ap (table_of plan_of 7 1024) (drop_sets 1320 now at vs h) ∙ sym (plans_read now)

requests_stay_before : (now : List ℕ) (at : ℕ) (vs : List ℕ) → at + length vs ≤ 40 → requests_of (sets now at vs) ≡ requests_of now
requests_stay_before now at vs h = requests_read (sets now at vs) ∙ ap (table_of request_of 20 64) (drop_sets 40 now at vs h) ∙ sym (requests_read now)

requests_stay : (now : List ℕ) (i : ℕ) (vs : List ℕ) → requests_of (sets now (1320 + 7 * i) vs) ≡ requests_of now
requests_stay now i vs =
    let on : 40 + (1280 + 7 * i) ≡ 1320 + 7 * i = omega arith in
    requests_read (sets now (1320 + 7 * i) vs)
    ∙ ap (table_of request_of 20 64) (drop_sets_add 40 now (1320 + 7 * i) (1280 + 7 * i) vs on)
    ∙ table_before request_of 20 request_within 64 (drop 40 now) (1280 + 7 * i) vs (omega arith)
    ∙ sym (requests_read now)

-- ---- bytes that hold a session, and one store

module _ {n m : ℕ} {xs now : List ℕ} {s : IsoChannelState} (long : 8488 ≤ length xs) (k : Kept n m xs now s) where
  abbrev many_requests : length s.requests ≡ 64
  many_requests = ap (λ (t : IsoChannelState). length t.requests) (sym k.holds) ∙ requests_many now

  abbrev many_plans : length s.plans ≡ 1024
  many_plans = ap (λ (t : IsoChannelState). length t.plans) (sym k.holds) ∙ plans_many now

  pub same_long : length now ≡ length xs
  same_long = ap length k.bytes ∙ length_left n m xs s long many_requests many_plans

  long_now : 8488 ≤ length now
  long_now = omega (arith, same_long)

  was_requests : s.requests ≡ requests_of now
  was_requests = ap (λ (t : IsoChannelState). t.requests) (sym k.holds)

  was_plans : s.plans ≡ plans_of now
  was_plans = ap (λ (t : IsoChannelState). t.plans) (sym k.holds)

module _ {n m : ℕ} {xs now next : List ℕ} {s : IsoChannelState} (long : 8488 ≤ length xs) (k : Kept n m xs now s) where
  pub kept_head : (h : IsoHead) → next ≡ sets now 15 (head_bytes h) → Kept n m xs next (whole s.cfg h s.fatal s.requests s.plans)
  kept_head h e =
      let t : IsoChannelState = whole s.cfg h s.fatal s.requests s.plans in
      let put : next ≡ kept n m xs t = e ∙ ap (λ (l : List ℕ). sets l 15 (head_bytes h)) k.bytes ∙ head_put n m xs s h in
      let small : 15 + length (head_bytes h) ≤ 40 = omega (arith, length_head h) in
      record {
        bytes = put;
        holds =
            held n m xs t long (many_requests long k) (many_plans long k) put
            ((was_requests long k) ∙ sym (ap requests_of e ∙ requests_stay_before now 15 (head_bytes h) small) ∙ requests_read next)
            ((was_plans long k) ∙ sym (ap plans_of e ∙ plans_stay now 15 (head_bytes h) (omega arith)) ∙ plans_read next);
      }

  kept_field :
      (at off : ℕ) (vs : List ℕ) (h : IsoHead) → 15 + at ≡ off → ((rest : List ℕ) → sets (head_bytes s.head ++ rest) at vs ≡ head_bytes h ++ rest)
      → next ≡ sets now off vs
      → Kept n m xs next (whole s.cfg h s.fatal s.requests s.plans)
  kept_field at off vs h eo eh e =
      kept_head h
      (e
      ∙ ap (λ (l : List ℕ). sets l off vs) k.bytes
      ∙ field_put n m xs s at off vs h eo eh
      ∙ sym (head_put n m xs s h)
      ∙ ap (λ (l : List ℕ). sets l 15 (head_bytes h)) (sym k.bytes))

  pub kept_cursor :
      (c : ℕ) → next ≡ sets now 28 (u16_bytes c) → Kept n m xs next (whole s.cfg (with_cursor c s.head) s.fatal s.requests s.plans)
  kept_cursor c = kept_field 13 28 (u16_bytes c) (with_cursor c s.head) refl (cursor_bytes s.head c)

  pub kept_count :
      (c : ℕ) → next ≡ sets now 32 (u16_bytes c) → Kept n m xs next (whole s.cfg (with_count c s.head) s.fatal s.requests s.plans)
  kept_count c = kept_field 17 32 (u16_bytes c) (with_count c s.head) refl (count_bytes s.head c)

  pub kept_reason :
      (f : Option IsoHaltReason) → next ≡ sets now 34 (tagged_bytes (fatal_tagged f)) → Kept n m xs next (whole s.cfg s.head f s.requests s.plans)
  kept_reason f e =
      let t : IsoChannelState = whole s.cfg s.head f s.requests s.plans in
      let vs : List ℕ = tagged_bytes (fatal_tagged f) in
      let put : next ≡ kept n m xs t = e ∙ ap (λ (l : List ℕ). sets l 34 vs) k.bytes ∙ reason_put n m xs s f in
      let small : 34 + length vs ≤ 40 = omega (arith, length_tagged (fatal_tagged f)) in
      record {
        bytes = put;
        holds =
            held n m xs t long (many_requests long k) (many_plans long k) put
            ((was_requests long k) ∙ sym (ap requests_of e ∙ requests_stay_before now 34 vs small) ∙ requests_read next)
            ((was_plans long k) ∙ sym (ap plans_of e ∙ plans_stay now 34 vs (omega arith)) ∙ plans_read next);
      }

  request_kept_by :
      (i a : ℕ) (r : IsoRequest) → i < 64 → next ≡ sets now (40 + 20 * i) (request_bytes r)
      → sets (kept n m xs s) (40 + 20 * i) (request_bytes r) ≡ kept a m xs (with_requests s (set s.requests i r))
      → Kept a m xs next (with_requests s (set s.requests i r))
  request_kept_by i a r h e p =
      let t : IsoChannelState = with_requests s (set s.requests i r) in
      let put : next ≡ kept a m xs t = e ∙ ap (λ (l : List ℕ). sets l (40 + 20 * i) (request_bytes r)) k.bytes ∙ p in
      record {
        bytes = put;
        holds =
            held a m xs t long (length-set s.requests i r ∙ (many_requests long k)) (many_plans long k) put
            (ap (λ (l : List IsoRequest). set l i r) (was_requests long k) ∙ sym (ap requests_of e ∙ request_stored now (long_now long k) i r h) ∙ requests_read next)
            ((was_plans long k) ∙ sym (ap plans_of e ∙ plans_stay now (40 + 20 * i) (request_bytes r) (omega (arith, length_request r))) ∙ plans_read next);
      }

  plan_kept_by :
      (i a : ℕ) (p : IsoPacketPlan) → i < 1024 → next ≡ sets now (1320 + 7 * i) (plan_bytes p)
      → sets (kept n m xs s) (1320 + 7 * i) (plan_bytes p) ≡ kept n a xs (with_plans s (set s.plans i p))
      → Kept n a xs next (with_plans s (set s.plans i p))
  plan_kept_by i a p h e q =
      let t : IsoChannelState = with_plans s (set s.plans i p) in
      let put : next ≡ kept n a xs t = e ∙ ap (λ (l : List ℕ). sets l (1320 + 7 * i) (plan_bytes p)) k.bytes ∙ q in
      record {
        bytes = put;
        holds =
            held n a xs t long (many_requests long k) (length-set s.plans i p ∙ (many_plans long k)) put
            ((was_requests long k) ∙ sym (ap requests_of e ∙ requests_stay now i (plan_bytes p)) ∙ requests_read next)
            (ap (λ (l : List IsoPacketPlan). set l i p) (was_plans long k) ∙ sym (ap plans_of e ∙ plan_stored now (long_now long k) i p h) ∙ plans_read next);
      }

-- an entry of the layout is written over
module _ {xs now next : List ℕ} {s : IsoChannelState} (long : 8488 ≤ length xs) (k : Left xs now s) where
  pub left_request :
      (i : ℕ) (r : IsoRequest) → i < 64 → is_bad_request_bytes (drop (20 * i) (drop 40 xs)) ≡ false → next ≡ sets now (40 + 20 * i) (request_bytes r)
      → Left xs next (with_requests s (set s.requests i r))
  left_request i r h good e = request_kept_by long k i 0 r h e (request_put xs s long (many_requests long k) (many_plans long k) 0 i r h good)

  pub left_plan :
      (i : ℕ) (p : IsoPacketPlan) → i < 1024 → is_bad_plan_bytes (drop (7 * i) (drop 1320 xs)) ≡ false → next ≡ sets now (1320 + 7 * i) (plan_bytes p)
      → Left xs next (with_plans s (set s.plans i p))
  left_plan i p h good e = plan_kept_by long k i 0 p h e (plan_put xs s long (many_requests long k) (many_plans long k) 0 i p h good)

-- the entry behind those written is written too
module _ {n m : ℕ} {xs now next : List ℕ} {s : IsoChannelState} (long : 8488 ≤ length xs) (k : Kept n m xs now s) where
  pub next_request :
      (r : IsoRequest) → n < 64 → next ≡ sets now (40 + 20 * n) (request_bytes r) → Kept (suc n) m xs next (with_requests s (set s.requests n r))
  next_request r h e = request_kept_by long k n (suc n) r h e (request_next xs s long (many_requests long k) (many_plans long k) n m r h)

  pub next_plan :
      (p : IsoPacketPlan) → m < 1024 → next ≡ sets now (1320 + 7 * m) (plan_bytes p) → Kept n (suc m) xs next (with_plans s (set s.plans m p))
  next_plan p h e = plan_kept_by long k m (suc m) p h e (plan_next xs s long (many_requests long k) (many_plans long k) n m p h)

-- ---- bytes over bytes

pub left_is : {n m : ℕ} {xs ys : List ℕ} {s t : IsoChannelState} → Kept n m xs ys s → s ≡ t → Kept n m xs ys t
left_is {n} {m} {xs} {ys} k e = subst (Kept n m xs ys) e k

pub left_over : {xs ys zs : List ℕ} {s t : IsoChannelState} → 8488 ≤ length xs → Left xs ys s → Left ys zs t → Left xs zs t
left_over {xs} {ys} {zs} {s} {t} long k l =
    let mr : length s.requests ≡ 64 = many_requests long k in
    let mp : length s.plans ≡ 1024 = many_plans long k in
    let long_ys : 8488 ≤ length ys = omega (arith, same_long long k) in
    let nr : length t.requests ≡ 64 = many_requests long_ys l in
    let np : length t.plans ≡ 1024 = many_plans long_ys l in
    let r : R 0 0 ys t ≡ R 0 0 xs t =
    ap (table_kept request_bytes is_bad_request_bytes 20 0 t.requests) (ap (drop 40) k.bytes ∙ at_requests 0 0 xs s long mr mp)
    ∙ kept_over request_bytes is_bad_request_bytes 20 length_request request_good bad_request_within t.requests s.requests (drop 40 xs)
    (P 0 0 xs s ++ E 0 0 xs s) (nr ∙ sym mr) (omega (arith, mr, length-drop 40 xs)) in
    let p : P 0 0 ys t ≡ P 0 0 xs t =
    ap (table_kept plan_bytes is_bad_plan_bytes 7 0 t.plans) (ap (drop 1320) k.bytes ∙ at_plans 0 0 xs s long mr mp)
    ∙ kept_over plan_bytes is_bad_plan_bytes 7 length_plan plan_good bad_plan_within t.plans s.plans (drop 1320 xs) (E 0 0 xs s) (np ∙ sym mp)
    (omega (arith, mp, length-drop 1320 xs)) in
    let e : E 0 0 ys t ≡ E 0 0 xs t = ap (drop 8488) k.bytes ∙ at_end 0 0 xs s long mr mp in
    record {
      bytes =
          l.bytes
          ∙ parts 0 0 ys t
          ∙ ap (λ (x : List ℕ). front t ++ (x ++ (P 0 0 ys t ++ E 0 0 ys t))) r
          ∙ ap₂ (λ (x y : List ℕ). front t ++ (R 0 0 xs t ++ (x ++ y))) p e
          ∙ sym (parts 0 0 xs t);
      holds = l.holds;
    }

-- as many entries that are not in the layout as before
module _ {xs ys : List ℕ} {s : IsoChannelState} (long : 8488 ≤ length xs) (k : Left xs ys s) where
  pub requests_any : (n : ℕ) → n ≤ 64 → any_of is_bad_request_bytes 20 n (drop 40 ys) ≡ any_of is_bad_request_bytes 20 n (drop 40 xs)
  requests_any n h =
      let mr : length s.requests ≡ 64 = many_requests long k in
      let mp : length s.plans ≡ 1024 = many_plans long k in
      ap (any_of is_bad_request_bytes 20 n) (ap (drop 40) k.bytes ∙ at_requests 0 0 xs s long mr mp)
      ∙ kept_any request_bytes is_bad_request_bytes 20 length_request request_good bad_request_within n s.requests (drop 40 xs) (P 0 0 xs s ++ E 0 0 xs s)
      (omega (arith, mr)) (omega (arith, mr, length-drop 40 xs))

  pub plans_any : (n : ℕ) → n ≤ 1024 → any_of is_bad_plan_bytes 7 n (drop 1320 ys) ≡ any_of is_bad_plan_bytes 7 n (drop 1320 xs)
  plans_any n h =
      let mr : length s.requests ≡ 64 = many_requests long k in
      let mp : length s.plans ≡ 1024 = many_plans long k in
      ap (any_of is_bad_plan_bytes 7 n) (ap (drop 1320) k.bytes ∙ at_plans 0 0 xs s long mr mp)
      ∙ kept_any plan_bytes is_bad_plan_bytes 7 length_plan plan_good bad_plan_within n s.plans (drop 1320 xs) (E 0 0 xs s) (omega (arith, mp))
      (omega (arith, mp, length-drop 1320 xs))
