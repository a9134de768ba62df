-- A session that was saved is loaded as it was, whatever stands behind it: for every session with tables of 64 and 1,024 entries, as all that the
-- code holds have.
use Rattle.std.proofs.Common.{◌≡◌, ℕ, ◌+◌, ◌≤◌, Bool, true, false, ◌||◌, ltb, List, ◌++◌, length, drop, sym, refl, ap, ◌∙◌, ap₂, append_assoc, arith, length-append, drop_at}
use native.Mathlib.Nat.{min-le_right}
use lib.Seq.{slice}
use Rattle.session.specs.Session.{packets_of}
use Rattle.ring.specs.declared.speed.Speed.{Speed}
use Rattle.ring.specs.declared.speed.Speed.TheVariants.{High, Full, Low}
use Rattle.words.specs.declared.types.Direction.{Direction}
use Rattle.words.specs.declared.types.Direction.TheVariants.{Out, In}
use Rattle.session.specs.declared.types.IsoMode.{IsoMode}
use Rattle.session.specs.declared.types.IsoMode.TheVariants.{Compatible, Guarded}
use Rattle.session.specs.declared.types.IsoConfig.{IsoConfig}
use Rattle.session.specs.declared.types.IsoHead.{IsoHead}
use Rattle.session.specs.declared.types.IsoChannelState.{IsoChannelState}
use Rattle.port.specs.Bytes.{byte_of, u16_of, u32_of, u64_of, u16_bytes, u32_bytes, u64_bytes}
use Rattle.port.specs.Tags.{speed_tag, direction_tag, mode_tag, flag_tag, tagged_of, fatal_tagged, is_bad_tagged}
use Rattle.port.specs.Layout.{mark_bytes, config_bytes, config_of, head_bytes, head_of, request_bytes, request_of, plan_bytes, plan_of, table_bytes, table_of, any_of}
use Rattle.port.specs.Layout.{is_bad_mark, is_bad_head, is_bad_request_bytes, is_bad_plan_bytes, layout_number, requests_in, plans_in, front, saved, session_of}
use Rattle.port.proofs.Laws.Entries.{length_request, length_plan}
use Rattle.port.proofs.Laws.Tables.{length_bytes, table_back, table_good, any_less}
use Rattle.port.proofs.Laws.Head.{config_at, head_at, head}
use Rattle.port.proofs.Laws.Loaded.{not_refused, session_at, layout_by}
use Rattle.port.proofs.Laws.Saved.{length_front, length_requests}
use Rattle.port.proofs.Laws.Back.{join16, join32, join64, speed_back, direction_back, mode_back, flag_back, fatal_back, fatal_good, tagged_back}
use Rattle.port.proofs.Laws.Back.{request_back, request_good, plan_back, plan_good}

-- ---- the head

pub config_back : (s : IsoChannelState) (ys : List ℕ) → s.cfg ≡ config_of (front s ++ ys)
unfolding front mark_bytes config_bytes byte_of u16_of u16_bytes
config_back s ys =
    let c : IsoConfig = s.cfg in
    config_at (front s ++ ys) refl (speed_back c.speed) refl (direction_back c.direction) (sym (join16 c.interval)) refl refl
    (sym (join16 c.max_packet_size)) refl refl (mode_back c.mode)

pub head_back : (s : IsoChannelState) (ys : List ℕ) → s.head ≡ head_of (front s ++ ys)
unfolding front mark_bytes config_bytes head_bytes byte_of u64_of u32_of u16_of u64_bytes u32_bytes u16_bytes
head_back s ys =
    let h : IsoHead = s.head in
    ap (λ (live : Bool). head h.next_request_id live h.td_last h.start_full_frame h.done h.count) (flag_back h.live)
    ∙ head_at (front s ++ ys) (sym (join64 h.next_request_id)) refl (sym (join16 h.td_last)) (sym (join32 h.start_full_frame))
    (sym (join16 h.done)) (sym (join16 h.count))

pub reason_back : (s : IsoChannelState) (ys : List ℕ) → fatal_tagged s.fatal ≡ tagged_of (drop 34 (front s ++ ys))
unfolding front mark_bytes config_bytes head_bytes u64_bytes u32_bytes u16_bytes
reason_back s ys = tagged_back (fatal_tagged s.fatal) ys

pub mark_good : (s : IsoChannelState) (ys : List ℕ) → is_bad_mark (front s ++ ys) ≡ false
unfolding is_bad_mark front mark_bytes byte_of u16_of u16_bytes
mark_good s ys = refl

pub head_good : (s : IsoChannelState) (ys : List ℕ) → is_bad_head (front s ++ ys) ≡ false
unfolding is_bad_head front mark_bytes config_bytes head_bytes byte_of u64_bytes u32_bytes u16_bytes
head_good s ys =
    rw (speed s.cfg.speed, direction s.cfg.direction, mode s.cfg.mode, live s.head.live)
    (ap (is_bad_tagged 2 2) (sym (tagged_back (fatal_tagged s.fatal) ys)) ∙ fatal_good s.fatal)
  where
    speed : (x : Speed) → ltb 2 (speed_tag x) ≡ false
    speed High = refl
    speed Full = refl
    speed Low = refl

    direction : (x : Direction) → ltb 1 (direction_tag x) ≡ false
    direction Out = refl
    direction In = refl

    mode : (x : IsoMode) → ltb 1 (mode_tag x) ≡ false
    mode Compatible = refl
    mode Guarded = refl

    live : (x : Bool) → ltb 1 (flag_tag x) ≡ false
    live true = refl
    live false = refl

-- ---- the whole

module _ (s : IsoChannelState) (many_requests : length s.requests ≡ 64) (many_plans : length s.plans ≡ 1024) (ys : List ℕ) where
  plans : List ℕ
  plans = table_bytes plan_bytes s.plans ++ ys

  requests : List ℕ
  unfolding plans
  requests = table_bytes request_bytes s.requests ++ plans

  parts : saved s ++ ys ≡ front s ++ requests
  unfolding saved front plans requests
  parts =
      append_assoc (front s ++ table_bytes request_bytes s.requests) (table_bytes plan_bytes s.plans) ys
      ∙ append_assoc (front s) (table_bytes request_bytes s.requests) (table_bytes plan_bytes s.plans ++ ys)

  at_requests : drop 40 (front s ++ requests) ≡ requests
  at_requests = drop_at (front s) requests 40 (length_front s)

  at_plans : drop 1320 (front s ++ requests) ≡ plans
  unfolding requests
  at_plans =
      ap (drop 1320) (sym (append_assoc (front s) (table_bytes request_bytes s.requests) plans))
      ∙ drop_at (front s ++ table_bytes request_bytes s.requests) plans 1320 (length_requests s many_requests)

  requests_back : s.requests ≡ table_of request_of 20 64 (drop 40 (front s ++ requests))
  unfolding requests
  requests_back =
      sym
      (ap (table_of request_of 20 64) at_requests
      ∙ ap (λ (n : ℕ). table_of request_of 20 n requests) (sym many_requests)
      ∙ table_back request_of request_bytes 20 length_request request_back s.requests plans)

  requests_good : false ≡ any_of is_bad_request_bytes 20 64 (drop 40 (front s ++ requests))
  unfolding requests
  requests_good =
      sym
      (ap (any_of is_bad_request_bytes 20 64) at_requests
      ∙ ap (λ (n : ℕ). any_of is_bad_request_bytes 20 n requests) (sym many_requests)
      ∙ table_good is_bad_request_bytes request_bytes 20 length_request request_good s.requests plans)

  plans_back : s.plans ≡ table_of plan_of 7 1024 (drop 1320 (front s ++ requests))
  unfolding plans
  plans_back =
      sym
      (ap (table_of plan_of 7 1024) at_plans
      ∙ ap (λ (n : ℕ). table_of plan_of 7 n plans) (sym many_plans)
      ∙ table_back plan_of plan_bytes 7 length_plan plan_back s.plans ys)

  plans_good : false ≡ any_of is_bad_plan_bytes 7 1024 (drop 1320 (front s ++ requests))
  unfolding plans
  plans_good =
      sym
      (ap (any_of is_bad_plan_bytes 7 1024) at_plans
      ∙ ap (λ (n : ℕ). any_of is_bad_plan_bytes 7 n plans) (sym many_plans)
      ∙ table_good is_bad_plan_bytes plan_bytes 7 length_plan plan_good s.plans ys)

  length_whole : length (front s ++ requests) ≡ 8488 + length ys
  unfolding requests plans
  length_whole =
      length-append (front s) requests
      ∙ omega (
        arith,
        length_front s,
        length-append (table_bytes request_bytes s.requests) plans,
        length-append (table_bytes plan_bytes s.plans) ys,
        length_bytes request_bytes 20 s.requests length_request,
        length_bytes plan_bytes 7 s.plans length_plan,
      )

  -- a saved session is one of the layout
  pub saved_good : layout_number (saved s ++ ys) ≡ 0
  saved_good =
      let long : 8488 ≤ length (front s ++ requests) = omega (arith, length_whole) in
      let t : IsoChannelState = session_of (front s ++ requests) in
      ap layout_number parts
      ∙ not_refused (front s ++ requests) (layout_by (front s ++ requests) long (sym (ap₂ (λ (x y : Bool). x || y) (mark_good s requests) (head_good s requests))) false refl
      (sym (any_less is_bad_request_bytes 20 64 (requests_in t) (drop 40 (front s ++ requests)) (min-le_right t.head.count 64) (sym requests_good)))
      (sym (any_less is_bad_plan_bytes 7 1024 (plans_in t) (drop 1320 (front s ++ requests))
      (min-le_right (packets_of (slice 0 (requests_in t) t.requests)) 1024) (sym plans_good)))
      refl)

  -- and it is the session that was saved
  pub saved_loaded : session_of (saved s ++ ys) ≡ s
  saved_loaded =
      ap session_of parts
      ∙ sym (session_at (front s ++ requests) (config_back s requests) (head_back s requests) (reason_back s requests) (fatal_back s.fatal) requests_back
      plans_back)
