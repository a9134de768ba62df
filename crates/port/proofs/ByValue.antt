-- A call by bytes is the call by value: on the bytes of a session, whatever stands behind them, `by_bytes` gives what the call gives for the session.
-- Every answer, every lent word and the bytes of every call are `by_bytes`, so this one law is for all of them. And the bytes that a call leaves of
-- those of a session are the bytes of the session after it, with what stood behind them.
use Rattle.std.proofs.Common.{◌≡◌, ℕ, Bool, true, cond, eqb, List, ◌++◌, length, drop, ap, ◌∙◌, ap₂, append_assoc, arith, length-append, drop_at}
use Rattle.session.specs.declared.types.IsoChannelState.{IsoChannelState}
use Rattle.port.specs.Layout.{request_bytes, is_bad_request_bytes, plan_bytes, is_bad_plan_bytes, table_bytes, table_kept}
use Rattle.port.specs.Layout.{layout_number, requests_in, plans_in, front, saved, session_of, kept, left_bytes}
use Rattle.port.specs.Calls.{by_bytes, grown_bytes}
use Rattle.port.proofs.Laws.Back.{request_good, plan_good}
use Rattle.port.proofs.Laws.Entries.{length_request, length_plan, bad_request_within, bad_plan_within}
use Rattle.port.proofs.Laws.Over.{kept_saved}
use Rattle.port.proofs.Laws.Saved.{length_front, length_requests}
use Rattle.port.proofs.Laws.Tables.{length_bytes}
use Rattle.port.proofs.Roundtrip.{saved_good, saved_loaded}

pub by_value :
    {A : Type 0} (s : IsoChannelState) → length s.requests ≡ 64 → length s.plans ≡ 1024
    → (ys : List ℕ) (refuse : ℕ → A) (call : IsoChannelState → A)
    → by_bytes (saved s ++ ys) refuse call ≡ call s
by_value s h k ys refuse call =
    let test : eqb (layout_number (saved s ++ ys)) 0 ≡ true = ap (λ (n : ℕ). eqb n 0) (saved_good s h k ys) in
    ap (λ (b : Bool). cond b (call (session_of (saved s ++ ys))) (refuse (layout_number (saved s ++ ys)))) test ∙ ap call (saved_loaded s h k ys)

-- ---- the session `t` in the place of the session `s`

module _ (s t : IsoChannelState) (requests-before : length s.requests ≡ 64) (plans_before : length s.plans ≡ 1024)
    (requests-after : length t.requests ≡ 64) (plans-after : length t.plans ≡ 1024) (ys : List ℕ) where
  abbrev R : List ℕ
  R = table_bytes request_bytes s.requests

  abbrev P : List ℕ
  P = table_bytes plan_bytes s.plans

  at_requests : drop 40 (saved s ++ ys) ≡ R ++ (P ++ ys)
  unfolding saved
  at_requests =
      ap (drop 40) (append_assoc (front s ++ R) P ys ∙ append_assoc (front s) R (P ++ ys)) ∙ drop_at (front s) (R ++ (P ++ ys)) 40 (length_front s)

  at_plans : drop 1320 (saved s ++ ys) ≡ P ++ ys
  unfolding saved
  at_plans = ap (drop 1320) (append_assoc (front s ++ R) P ys) ∙ drop_at (front s ++ R) (P ++ ys) 1320 (length_requests s requests-before)

  at_end : drop 8488 (saved s ++ ys) ≡ ys
  unfolding saved
  at_end =
      drop_at (front s ++ R ++ P) ys 8488
      (length-append (front s ++ R) P ∙ omega (arith, length_requests s requests-before, length_bytes plan_bytes 7 s.plans length_plan))

  kept_value : (n m : ℕ) → kept n m (saved s ++ ys) t ≡ saved t ++ ys
  unfolding kept saved
  kept_value n m =
      let many_requests : length t.requests ≡ length s.requests = omega (arith, requests-before, requests-after) in
      let many_plans : length t.plans ≡ length s.plans = omega (arith, plans_before, plans-after) in
      let requests : table_kept request_bytes is_bad_request_bytes 20 n t.requests (drop 40 (saved s ++ ys)) ≡ table_bytes request_bytes t.requests =
      ap (table_kept request_bytes is_bad_request_bytes 20 n t.requests) at_requests
      ∙ kept_saved request_bytes is_bad_request_bytes 20 length_request request_good bad_request_within n t.requests s.requests (P ++ ys) many_requests in
      let plans : table_kept plan_bytes is_bad_plan_bytes 7 m t.plans (drop 1320 (saved s ++ ys)) ≡ table_bytes plan_bytes t.plans =
      ap (table_kept plan_bytes is_bad_plan_bytes 7 m t.plans) at_plans
      ∙ kept_saved plan_bytes is_bad_plan_bytes 7 length_plan plan_good bad_plan_within m t.plans s.plans ys many_plans in
      ap₂ (λ (r p : List ℕ). front t ++ r ++ p ++ drop 8488 (saved s ++ ys)) requests plans
      ∙ ap (λ (l : List ℕ). front t ++ table_bytes request_bytes t.requests ++ table_bytes plan_bytes t.plans ++ l) at_end

  -- what a call leaves is the session after it, saved
  pub left_value : left_bytes (saved s ++ ys) t ≡ saved t ++ ys
  left_value = kept_value 0 0

  -- and so what a submission leaves
  pub grown_value : grown_bytes (saved s ++ ys) t ≡ saved t ++ ys
  grown_value = kept_value (requests_in t) (plans_in t)
