-- The whole of a session's bytes: whether they are refused, and the session.
use Rattle.std.specs.Prelude.{⊤}
use Rattle.std.proofs.Common.{◌≡◌, ℕ, ◌≤◌, Bool, true, false, cond, ◌||◌, ltb, min, Option, Some, None, Result, Ok, Err, List, length, drop, sym, refl, ap, ◌∙◌, arith, le-ltb}
use Rattle.words.proofs.Laws.Tests.{neither}
use Rattle.session.specs.declared.refusal.IsoRefusal.{IsoRefusal}
use Rattle.session.specs.declared.refusal.IsoRefusal.TheVariants.{ShortBuffer, BadRecord}
use Rattle.session.specs.declared.types.IsoConfig.{IsoConfig}
use Rattle.session.specs.declared.types.IsoHead.{IsoHead}
use Rattle.session.specs.declared.types.IsoHaltReason.{IsoHaltReason}
use Rattle.session.specs.declared.types.IsoRequest.{IsoRequest}
use Rattle.session.specs.declared.types.IsoPacketPlan.{IsoPacketPlan}
use lib.Seq.{slice}
use Rattle.session.specs.Session.{packets_of}
use Rattle.session.specs.Scan.{whole}
use Rattle.port.specs.declared.tags.Tagged.{Tagged}
use Rattle.port.specs.Tags.{tagged_of, fatal_of}
use Rattle.port.specs.Layout.{config_of, head_of, request_of, plan_of, table_of, any_of}
use Rattle.port.specs.Layout.{is_bad_mark, is_bad_head, is_bad_request_bytes, is_bad_plan_bytes, is_bad_layout, layout_number, layout_refusal, session_of, requests_in, plans_in}

pub session_at :
    (xs : List ℕ) {cfg : IsoConfig} {head : IsoHead} {fatal : Option IsoHaltReason} {t : Tagged} {requests : List IsoRequest} {plans : List IsoPacketPlan}
    → cfg ≡ config_of xs
    → head ≡ head_of xs
    → t ≡ tagged_of (drop 34 xs)
    → fatal ≡ fatal_of t
    → requests ≡ table_of request_of 20 64 (drop 40 xs)
    → plans ≡ table_of plan_of 7 1024 (drop 1320 xs)
    → whole cfg head fatal requests plans ≡ session_of xs
unfolding session_of
session_at xs ec eh et ef er ep = rw (ec, eh, ef, et, er, ep)

abbrev bad_by : Bool → Result ⊤ IsoRefusal
bad_by b = cond b (Err BadRecord) (Ok tt)

refusal_by : {short bad b : Bool} → short ≡ false → bad ≡ b → bad_by b ≡ cond short (Err ShortBuffer) (bad_by bad)
refusal_by {bad = bad} p q = sym (ap (λ (x : Bool). cond x (Err ShortBuffer) (bad_by bad)) p ∙ ap bad_by q)

-- bytes that are not refused have the number 0
pub not_refused : (xs : List ℕ) → Ok tt ≡ layout_refusal xs → layout_number xs ≡ 0
not_refused xs e = go (ltb (length xs) 8488) (is_bad_layout xs) e
  where
    go : (short bad : Bool) → ◌≡◌ {A = Result ⊤ IsoRefusal} (Ok tt) (cond short (Err ShortBuffer) (bad_by bad)) → ◌≡◌ {A = ℕ} (cond short 17 (cond bad 18 0)) 0
    go true bad m = grind arith
    go false true m = grind arith
    go false false m = refl

is_none : (r : Bool) (n : ℕ) → None ≡ cond r None (Some n) → r ≡ true
is_none true n e = refl
is_none false n e = absurd (cc)

is_some : (r : Bool) (m n : ℕ) → Some m ≡ cond r None (Some n) → (r ≡ false) × (m ≡ n)
is_some true m n e = absurd (cc)
is_some false m n e = (refl, cc)

-- the tests in the code's order: what stands before the tables, then the entries in use
module _ (xs : List ℕ) {f : Bool} (long : 8488 ≤ length xs) (ef : f ≡ (is_bad_mark xs || is_bad_head xs)) where
  pub bad_front : f ≡ true → Err BadRecord ≡ layout_refusal xs
  unfolding is_bad_layout
  bad_front e =
      let all : is_bad_layout xs ≡ true = go (is_bad_mark xs) (is_bad_head xs) _ (sym ef ∙ e) in
      refusal_by (le-ltb (length xs) 8488 long) all
    where
      go : (a b c : Bool) → (a || b) ≡ true → (a || (b || c)) ≡ true
      go true b c p = p
      go false true c p = p
      go false false c p = let z : ◌≡◌ {A = ℕ} 0 1 = ap (λ (x : Bool). cond x 1 0) p in absurd (omega arith)

  pub layout_by :
      {r p : Bool} (b : Bool) → f ≡ false → r ≡ any_of is_bad_request_bytes 20 (requests_in (session_of xs)) (drop 40 xs)
      → p ≡ any_of is_bad_plan_bytes 7 (plans_in (session_of xs)) (drop 1320 xs)
      → (r || p) ≡ b
      → bad_by b ≡ layout_refusal xs
  unfolding is_bad_layout
  layout_by b good er ep e =
      let two = neither (is_bad_mark xs) (is_bad_head xs) (sym ef ∙ good) in
      let all : is_bad_layout xs ≡ b = rw (two.0, two.1, ← er, ← ep) e in
      refusal_by (le-ltb (length xs) 8488 long) all

  -- the same by what a walk over the first `n` requests gives: none where one is bad, and else their packets
  module _ {n : ℕ} {o : Option ℕ} (good : f ≡ false) (en : n ≡ requests_in (session_of xs))
      (eo : o ≡ cond (any_of is_bad_request_bytes 20 n (drop 40 xs)) None (Some (packets_of (slice 0 n (session_of xs).requests)))) where
    used : o ≡ cond (any_of is_bad_request_bytes 20 (requests_in (session_of xs)) (drop 40 xs)) None (Some (packets_of (slice 0 (requests_in (session_of xs)) (session_of xs).requests)))
    used = rw (← en) eo

    pub layout_none : o ≡ None → Err BadRecord ≡ layout_refusal xs
    layout_none e =
        layout_by true good refl refl
        (ap (λ (x : Bool). x || any_of is_bad_plan_bytes 7 (plans_in (session_of xs)) (drop 1320 xs)) (is_none _ _ (sym e ∙ used)))

    pub layout_some :
        {m k : ℕ} {p : Bool} (b : Bool) → o ≡ Some m → k ≡ min m 1024 → p ≡ any_of is_bad_plan_bytes 7 k (drop 1320 xs) → p ≡ b → bad_by b ≡ layout_refusal xs
    layout_some {m} {k} {p} b e ek ep pb =
        let two = is_some _ m _ (sym e ∙ used) in
        let plans = ep ∙ ap (λ (j : ℕ). any_of is_bad_plan_bytes 7 j (drop 1320 xs)) (ek ∙ ap (λ (j : ℕ). min j 1024) two.1) in
        layout_by b good refl plans (ap (λ (x : Bool). x || p) two.0 ∙ pb)
