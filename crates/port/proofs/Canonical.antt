-- Bytes of the layout stand in their own place: what was read of them is written as it was, and what is no entry stays. So a call that leaves the
-- session as it was leaves its bytes as they were.
use Rattle.std.proofs.Common.{◌≡◌, ℕ, ◌+◌, ◌*◌, ◌<◌, ◌≤◌, Bool, true, false, cond, not, ◌||◌, eqb, ltb, List, [], ◌∷◌, ◌++◌, length, take, drop, sym, refl, ap, ◌∙◌, ap₂, arith, length-drop, take-append-drop, drop-drop, take-add, eqb-true}
use native.Mathlib.Nat.{min-le_right}
use lib.Seq.{slice}
use borrow.Author.Tests.{not-false}
use Rattle.words.proofs.Laws.Tests.{neither}
use Rattle.session.specs.declared.types.IsoChannelState.{IsoChannelState}
use Rattle.session.specs.Session.{packets_of}
use Rattle.port.specs.Bytes.{byte_of, u16_of, u32_of, u64_of, u16_bytes, u32_bytes, u64_bytes}
use Rattle.port.specs.Tags.{speed_tag, speed_of, direction_tag, direction_of, mode_tag, mode_of, flag_tag, flag_of, tagged_bytes, tagged_of, fatal_tagged, fatal_of, is_bad_tagged}
use Rattle.port.specs.Layout.{mark_bytes, config_bytes, config_of, head_bytes, head_of, request_bytes, request_of, plan_bytes, plan_of, table_of, table_kept, any_of}
use Rattle.port.specs.Layout.{is_bad_mark, is_bad_head, is_bad_request_bytes, is_bad_plan_bytes, is_bad_layout, layout_number, requests_in, plans_in, front, kept, left_bytes, session_of}
use Rattle.port.specs.Calls.{bytes_by}
use Rattle.port.specs.Places.{Left}
use Rattle.port.proofs.Laws.Calls.{long_enough, done}
use Rattle.port.proofs.Laws.Kept.{Octets, octets_drop, byte_kept, three_kept, u16_kept, u32_kept, u64_kept, tagged_kept}
use Rattle.port.proofs.Laws.Kept.{pair_kept, triple_kept, fatal_kept, request_kept, plan_kept}
use Rattle.port.proofs.Laws.Entries.{length_request, length_plan}
use Rattle.port.proofs.Laws.Left.{same_long, front_good, requests_any, plans_any}
use Rattle.port.proofs.Laws.Loaded.{not_refused, layout_by}
use Rattle.port.proofs.Laws.Over.{kept_same}
use Rattle.port.proofs.Laws.Tables.{any_less, any_clear}

-- two parts that follow one another, from `a` on
seam : (a n m : ℕ) (xs : List ℕ) {p q : List ℕ} → p ≡ take n (drop a xs) → q ≡ take m (drop (a + n) xs) → p ++ q ≡ take (n + m) (drop a xs)
seam a n m xs e f =
    ap₂ (λ (p q : List ℕ). p ++ q) e (f ∙ ap (take m) (sym (drop-drop n a xs))) ∙ sym (take-add n m (drop a xs))

three : {a b c x y z : ℕ} → x ≡ a → y ≡ b → z ≡ c → x ∷ y ∷ z ∷ [] ≡ a ∷ b ∷ c ∷ []
three {a} {b} {y = y} {z = z} p q r =
    ap (λ (n : ℕ). n ∷ y ∷ z ∷ []) p ∙ ap (λ (n : ℕ). a ∷ n ∷ z ∷ []) q ∙ ap (λ (n : ℕ). a ∷ b ∷ n ∷ []) r

module _ (xs : List ℕ) (octets : Octets xs) (long : 8488 ≤ length xs) where
  three_at : (a : ℕ) → a + 3 ≤ 8488 → byte_of (drop a xs) ∷ byte_of (drop (a + 1) xs) ∷ byte_of (drop (a + 2) xs) ∷ [] ≡ take 3 (drop a xs)
  three_at a h =
      ap₂ (λ (m n : List ℕ). byte_of (drop a xs) ∷ byte_of m ∷ byte_of n ∷ []) (sym (drop-drop 1 a xs)) (sym (drop-drop 2 a xs))
      ∙ three_kept (drop a xs) (omega (arith, length-drop a xs))

  u16_in : (a : ℕ) → a + 2 ≤ 8488 → u16_bytes (u16_of (drop a xs)) ≡ take 2 (drop a xs)
  u16_in a h = u16_kept (drop a xs) (octets_drop a xs octets) (omega (arith, length-drop a xs))

  mark_kept : is_bad_mark xs ≡ false → mark_bytes ≡ take 5 (drop 0 xs)
  unfolding is_bad_mark mark_bytes
  mark_kept e =
      let one = neither (not (eqb (byte_of xs) 68)) _ e in
      let two = neither (not (eqb (byte_of (drop 1 xs)) 87)) _ one.1 in
      let last = neither (not (eqb (byte_of (drop 2 xs)) 83)) (not (eqb (u16_of (drop 3 xs)) 1)) two.1 in
      let d : 68 ≡ byte_of xs = sym (eqb-true (byte_of xs) 68 (not-false (eqb (byte_of xs) 68) one.0)) in
      let w : 87 ≡ byte_of (drop 1 xs) = sym (eqb-true (byte_of (drop 1 xs)) 87 (not-false (eqb (byte_of (drop 1 xs)) 87) two.0)) in
      let s : 83 ≡ byte_of (drop 2 xs) = sym (eqb-true (byte_of (drop 2 xs)) 83 (not-false (eqb (byte_of (drop 2 xs)) 83) last.0)) in
      let v : 1 ≡ u16_of (drop 3 xs) = sym (eqb-true (u16_of (drop 3 xs)) 1 (not-false (eqb (u16_of (drop 3 xs)) 1) last.1)) in
      let mark : 68 ∷ 87 ∷ 83 ∷ [] ≡ take 3 (drop 0 xs) = three d w s ∙ three_at 0 (omega arith) in
      seam 0 3 2 xs mark (ap u16_bytes v ∙ u16_in 3 (omega arith))

  config_kept :
      ltb 2 (byte_of (drop 5 xs)) ≡ false → ltb 1 (byte_of (drop 6 xs)) ≡ false → ltb 1 (byte_of (drop 7 xs)) ≡ false
      → config_bytes (config_of xs) ≡ take 10 (drop 5 xs)
  unfolding config_bytes config_of
  config_kept a b c =
      let speed : ℕ = speed_tag (speed_of (byte_of (drop 5 xs))) in
      let direction : ℕ = direction_tag (direction_of (byte_of (drop 6 xs))) in
      let mode : ℕ = mode_tag (mode_of (byte_of (drop 7 xs))) in
      let names : speed ∷ direction ∷ mode ∷ [] ≡ take 3 (drop 5 xs) =
      three (triple_kept (λ (n : ℕ). speed_tag (speed_of n)) refl refl refl (byte_of (drop 5 xs)) a)
      (pair_kept (λ (n : ℕ). direction_tag (direction_of n)) refl refl (byte_of (drop 6 xs)) b)
      (pair_kept (λ (n : ℕ). mode_tag (mode_of n)) refl refl (byte_of (drop 7 xs)) c)
      ∙ three_at 5 (omega arith) in
      seam 5 7 3 xs (seam 5 5 2 xs (seam 5 3 2 xs names (u16_in 8 (omega arith))) (u16_in 10 (omega arith))) (three_at 12 (omega arith))

  head_kept : ltb 1 (byte_of (drop 15 xs)) ≡ false → head_bytes (head_of xs) ≡ take 19 (drop 15 xs)
  unfolding head_bytes head_of
  head_kept a =
      let live : flag_tag (flag_of (byte_of (drop 15 xs))) ∷ [] ≡ take 1 (drop 15 xs) =
      ap (λ (n : ℕ). n ∷ []) (pair_kept (λ (n : ℕ). flag_tag (flag_of n)) refl refl (byte_of (drop 15 xs)) a)
      ∙ byte_kept (drop 15 xs) (omega (arith, length-drop 15 xs)) in
      let next : u64_bytes (u64_of (drop 16 xs)) ≡ take 8 (drop 16 xs) = u64_kept (drop 16 xs) (octets_drop 16 xs octets) (omega (arith, length-drop 16 xs)) in
      let start : u32_bytes (u32_of (drop 24 xs)) ≡ take 4 (drop 24 xs) = u32_kept (drop 24 xs) (octets_drop 24 xs octets) (omega (arith, length-drop 24 xs)) in
      seam 15 17 2 xs
      (seam 15 15 2 xs
      (seam 15 13 2 xs (seam 15 9 4 xs (seam 15 1 8 xs live next) start) (u16_in 28 (omega arith))) (u16_in 30 (omega arith)))
      (u16_in 32 (omega arith))

  reason_kept : is_bad_tagged 2 2 (tagged_of (drop 34 xs)) ≡ false → tagged_bytes (fatal_tagged (fatal_of (tagged_of (drop 34 xs)))) ≡ take 6 (drop 34 xs)
  reason_kept e =
      ap tagged_bytes (fatal_kept (tagged_of (drop 34 xs)) e) ∙ tagged_kept (drop 34 xs) (octets_drop 34 xs octets) (omega (arith, length-drop 34 xs))

  front_kept :
      is_bad_mark xs ≡ false → is_bad_head xs ≡ false
      → mark_bytes ++ config_bytes (config_of xs) ++ head_bytes (head_of xs) ++ tagged_bytes (fatal_tagged (fatal_of (tagged_of (drop 34 xs)))) ≡ take 40 (drop 0 xs)
  unfolding is_bad_head
  front_kept m e =
      let a = neither (ltb 2 (byte_of (drop 5 xs))) _ e in
      let b = neither (ltb 1 (byte_of (drop 6 xs))) _ a.1 in
      let c = neither (ltb 1 (byte_of (drop 7 xs))) _ b.1 in
      let d = neither (ltb 1 (byte_of (drop 15 xs))) (is_bad_tagged 2 2 (tagged_of (drop 34 xs))) c.1 in
      seam 0 34 6 xs (seam 0 15 19 xs (seam 0 5 10 xs (mark_kept m) (config_kept a.0 b.0 c.0)) (head_kept d.0)) (reason_kept d.1)

  pub left_same : is_bad_mark xs ≡ false → is_bad_head xs ≡ false → left_bytes xs (session_of xs) ≡ xs
  unfolding kept front session_of
  left_same m h =
      let requests : table_kept request_bytes is_bad_request_bytes 20 0 (table_of request_of 20 64 (drop 40 xs)) (drop 40 xs) ≡ take 1280 (drop 40 xs) =
      kept_same request_bytes is_bad_request_bytes 20 length_request request_of request_kept 64 (drop 40 xs) (octets_drop 40 xs octets)
      (omega (arith, length-drop 40 xs)) in
      let plans : table_kept plan_bytes is_bad_plan_bytes 7 0 (table_of plan_of 7 1024 (drop 1320 xs)) (drop 1320 xs) ≡ take 7168 (drop 1320 xs) =
      kept_same plan_bytes is_bad_plan_bytes 7 length_plan plan_of plan_kept 1024 (drop 1320 xs) (octets_drop 1320 xs octets)
      (omega (arith, length-drop 1320 xs)) in
      ap (λ (first : List ℕ). first ++ drop 8488 xs) (seam 0 1320 7168 xs (seam 0 40 1280 xs (front_kept m h) requests) plans)
      ∙ take-append-drop 8488 xs

in_layout : (xs : List ℕ) → layout_number xs ≡ 0 → is_bad_layout xs ≡ false
in_layout xs z = go (ltb (length xs) 8488) (is_bad_layout xs) z
  where
    go : (short bad : Bool) → ◌≡◌ {A = ℕ} (cond short 17 (cond bad 18 0)) 0 → bad ≡ false
    go true bad e = absurd (omega arith)
    go false true e = absurd (omega arith)
    go false false e = refl

module _ (xs : List ℕ) (z : layout_number xs ≡ 0) where
  mark_clear : is_bad_mark xs ≡ false
  unfolding is_bad_layout
  mark_clear = (neither (is_bad_mark xs) _ (in_layout xs z)).0

  head_clear : is_bad_head xs ≡ false
  unfolding is_bad_layout
  head_clear = (neither (is_bad_head xs) _ (neither (is_bad_mark xs) _ (in_layout xs z)).1).0

  entries_clear :
      (any_of is_bad_request_bytes 20 (requests_in (session_of xs)) (drop 40 xs) || any_of is_bad_plan_bytes 7 (plans_in (session_of xs)) (drop 1320 xs)) ≡ false
  unfolding is_bad_layout
  entries_clear = (neither (is_bad_head xs) _ (neither (is_bad_mark xs) _ (in_layout xs z)).1).1

  -- each entry in use is one of the layout
  pub requests_clear : any_of is_bad_request_bytes 20 (requests_in (session_of xs)) (drop 40 xs) ≡ false
  requests_clear = (neither (any_of is_bad_request_bytes 20 (requests_in (session_of xs)) (drop 40 xs)) _ entries_clear).0

  pub plans_clear : any_of is_bad_plan_bytes 7 (plans_in (session_of xs)) (drop 1320 xs) ≡ false
  plans_clear = (neither (any_of is_bad_request_bytes 20 (requests_in (session_of xs)) (drop 40 xs)) _ entries_clear).1

  pub request_clear : (i : ℕ) → i < requests_in (session_of xs) → is_bad_request_bytes (drop (20 * i) (drop 40 xs)) ≡ false
  request_clear i h = any_clear is_bad_request_bytes 20 (requests_in (session_of xs)) i (drop 40 xs) h requests_clear

  pub plan_clear : (i : ℕ) → i < plans_in (session_of xs) → is_bad_plan_bytes (drop (7 * i) (drop 1320 xs)) ≡ false
  plan_clear i h = any_clear is_bad_plan_bytes 7 (plans_in (session_of xs)) i (drop 1320 xs) h plans_clear

  -- bytes of the layout, in the place of themselves, are as they were
  pub loaded_left : Octets xs → Left xs xs (session_of xs)
  loaded_left octets = record { bytes = sym (left_same xs octets (long_enough xs refl z) mark_clear head_clear); holds = refl }

  -- what stands in their place and has no more entries in use is of the layout too
  pub left_layout :
      {ys : List ℕ} {t : IsoChannelState} → Left xs ys t → requests_in t ≤ requests_in (session_of xs) → plans_in t ≤ plans_in (session_of xs)
      → layout_number ys ≡ 0
  left_layout {ys} {t} k few less =
      let long : 8488 ≤ length xs = long_enough xs refl z in
      let same : session_of ys ≡ t = k.holds in
      let first = front_good 0 0 xs t k.bytes in
      let requests : any_of is_bad_request_bytes 20 (requests_in (session_of ys)) (drop 40 ys) ≡ false =
      ap (λ (s : IsoChannelState). any_of is_bad_request_bytes 20 (requests_in s) (drop 40 ys)) same
      ∙ requests_any long k (requests_in t) (min-le_right t.head.count 64)
      ∙ any_less is_bad_request_bytes 20 (requests_in (session_of xs)) (requests_in t) (drop 40 xs) few requests_clear in
      let plans : any_of is_bad_plan_bytes 7 (plans_in (session_of ys)) (drop 1320 ys) ≡ false =
      ap (λ (s : IsoChannelState). any_of is_bad_plan_bytes 7 (plans_in s) (drop 1320 ys)) same
      ∙ plans_any long k (plans_in t) (min-le_right (packets_of (slice 0 (requests_in t) t.requests)) 1024)
      ∙ any_less is_bad_plan_bytes 7 (plans_in (session_of xs)) (plans_in t) (drop 1320 xs) less plans_clear in
      not_refused ys (layout_by ys (omega (arith, same_long long k)) (sym (ap₂ (λ (x y : Bool). x || y) first.0 first.1)) false refl (sym requests) (sym plans) refl)

-- a call that leaves the session as it was leaves the bytes as they were
pub left_alone :
    (xs : List ℕ) → Octets xs → layout_number xs ≡ 0 → (after : IsoChannelState → IsoChannelState) → after (session_of xs) ≡ session_of xs
    → bytes_by xs after ≡ xs
left_alone xs octets z after same =
    sym (done xs (λ (n : ℕ). xs) after (left_bytes xs) {n = layout_number xs} {s = session_of xs} {r = after (session_of xs)} refl z refl refl)
    ∙ ap (left_bytes xs) same
    ∙ sym (loaded_left xs z octets).bytes
