-- One part of a session's bytes, read where it stands: what that is of the session which the bytes hold.
use Rattle.std.specs.Option.{is_some}
use Rattle.std.proofs.Common.{Option, Some, None, Bool, ◌≡◌, ℕ, zero, suc, ◌+◌, ◌*◌, ◌<◌, List, length, get_or, drop, sym, refl, ap, ◌∙◌, arith, drop-drop}
use Rattle.session.specs.declared.types.IsoHaltReason.{IsoHaltReason}
use Rattle.session.specs.declared.types.IsoRequest.{IsoRequest}
use Rattle.session.specs.declared.types.IsoPacketPlan.{IsoPacketPlan}
use Rattle.session.specs.Session.{has_reason}
use Rattle.port.specs.Tags.{tagged_of, fatal_of}
use Rattle.port.specs.Layout.{config_of, head_of, request_of, plan_of, table_of, session_of}
use Rattle.port.proofs.Laws.Tables.{length_table}

-- ---- reading

module _ {A : Type 0} (f : List ℕ → A) (w : ℕ) where
  table_there : (n i : ℕ) (xs : List ℕ) (d : A) → i < n → f (drop (w * i) xs) ≡ get_or (table_of f w n xs) i d
  unfolding table_of
  table_there zero i xs d h = absurd (omega arith)
  table_there (suc n) zero xs d h = let none : w * 0 ≡ 0 = omega arith in ap (λ (k : ℕ). f (drop k xs)) none
  table_there (suc n) (suc i) xs d h =
      let on : w * suc i ≡ w + w * i = omega arith in
      ap (λ (k : ℕ). f (drop k xs)) on ∙ ap f (sym (drop-drop (w * i) w xs)) ∙ table_there n i (drop w xs) d (omega arith)

pub plan_there : (xs : List ℕ) (i : ℕ) (d : IsoPacketPlan) → i < 1024 → plan_of (drop (1320 + 7 * i) xs) ≡ get_or (session_of xs).plans i d
unfolding session_of
plan_there xs i d h = ap plan_of (sym (drop-drop (7 * i) 1320 xs)) ∙ table_there plan_of 7 1024 i (drop 1320 xs) d h

pub request_there : (xs : List ℕ) (i : ℕ) (d : IsoRequest) → i < 64 → request_of (drop (40 + 20 * i) xs) ≡ get_or (session_of xs).requests i d
unfolding session_of
request_there xs i d h = ap request_of (sym (drop-drop (20 * i) 40 xs)) ∙ table_there request_of 20 64 i (drop 40 xs) d h

-- the tables of any bytes have their lengths
pub requests_many : (xs : List ℕ) → length (session_of xs).requests ≡ 64
unfolding session_of
requests_many xs = length_table request_of 20 64 (drop 40 xs)

pub plans_many : (xs : List ℕ) → length (session_of xs).plans ≡ 1024
unfolding session_of
plans_many xs = length_table plan_of 7 1024 (drop 1320 xs)

-- ---- what stands before the tables

pub config_there : (xs : List ℕ) → config_of xs ≡ (session_of xs).cfg
unfolding session_of
config_there xs = refl

pub head_there : (xs : List ℕ) → head_of xs ≡ (session_of xs).head
unfolding session_of
head_there xs = refl

pub reason_there : (xs : List ℕ) → fatal_of (tagged_of (drop 34 xs)) ≡ (session_of xs).fatal
unfolding session_of
reason_there xs = refl

-- whether the session is ending, by the reason that was read
pub ending_there :
    (xs : List ℕ) {f : Option IsoHaltReason} {b : Bool} → f ≡ fatal_of (tagged_of (drop 34 xs)) → b ≡ is_some f → b ≡ has_reason (session_of xs).fatal
ending_there xs {f} ef eb = eb ∙ by_case f ∙ ap has_reason (ef ∙ reason_there xs)
  where
    by_case : (o : Option IsoHaltReason) → is_some o ≡ has_reason o
    by_case None = refl
    by_case (Some r) = refl
