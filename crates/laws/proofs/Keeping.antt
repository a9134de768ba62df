-- What a call must leave for the invariant to be kept; and that cancelling, reset and recovery leave it.
use mathlib.Core.Path.{◌≡◌, refl, ◌∙◌, sym, ap, subst⁻¹}
use mathlib.Core.Bool.{Bool, true, false, cond}
use mathlib.Core.List.{List, ◌∷◌, map}
use Prim.Native.Nat.{ℕ, ◌-◌}
use native.Mathlib.Omega.{arith}
use lib.Dec.{eqb}
use lib.ListN.{length, set, drop}
use lib.Seq.{slice, map-set_same}
use Rattle.session.specs.declared.types.IsoMode.TheVariants.{Guarded}
use Rattle.session.specs.declared.types.IsoPacketPlan.{IsoPacketPlan}
use Rattle.session.specs.declared.types.IsoRequest.{IsoRequest}
use Rattle.session.specs.declared.types.IsoHaltReason.TheVariants as reason
use Rattle.session.specs.declared.types.IsoOutcome.TheVariants as outcome
use Rattle.session.specs.declared.types.IsoConfig.{IsoConfig}
use Rattle.session.specs.declared.types.IsoChannelState.{IsoChannelState}
use Rattle.session.specs.Session.{blank_request, ring_words, packets_of, all_packets, pending_packets}
use Rattle.session.specs.Way.{pending_plans}
use Rattle.session.specs.End.{with_outcome}
use Rattle.session.specs.Poll.{with_reason, at_start, reset_reply}
use Rattle.session.specs.Cancel.{request_at, with_cancelled, cancelled}
use Rattle.session.proofs.Laws.Record.{Sound}
use Rattle.session.proofs.Laws.Ended.{packets, packets_kept, reset_sound, amended_sound, reason_sound, reset_picked, cancel_picked}
use Rattle.session.specs.Reclaim.{request_of}
use Rattle.laws.proofs.Calls.Settled.{number}
use Rattle.laws.proofs.Calls.Places.{number_kept}
use Rattle.laws.specs.Drawing.{Laid, drawn, Among}
use Rattle.laws.specs.Run.{State, Cancel, Reset, still_put, left, step}
use Rattle.laws.specs.Demand3.{slot_of_plan}
use Rattle.laws.specs.Invariant.{Fits, Numbered, Invariant}
use Rattle.laws.proofs.Lists.{among_later}
use Rattle.laws.proofs.Fitting.{blank, put_length}

-- ---- what a call leaves

pub record Keeps (st : State) (s : IsoChannelState) (ring : List ℕ) : Type 0 where
  pub guarded : s.cfg.mode ≡ Guarded
  pub fits : Fits s ring (still_put s st.put)
  pub numbered : Numbered s st.numbers

-- one number more does no harm
pub numbered_more : (s : IsoChannelState) (b : Bool) (n : ℕ) (numbers : List ℕ) → Numbered s numbers → Numbered s (cond b numbers (n ∷ numbers))
numbered_more s true n numbers h = h
numbered_more s false n numbers h = record { used = λ i k. among_later (request_of i s).id n numbers (h.used i k); differ = h.differ }

pub left_invariant : (st : State) (s : IsoChannelState) (ring : List ℕ) → Keeps st s ring → Invariant (left st s ring)
left_invariant st s ring h =
    record {
      guarded = h.guarded;
      fits = h.fits;
      numbered =
          numbered_more s (eqb st.session.head.next_request_id s.head.next_request_id) st.session.head.next_request_id st.numbers
          h.numbered;
    }

-- ---- nothing that the ring or the tables show is altered

-- the packets pending are as many: what was put stays
pub still_all : (s : IsoChannelState) (put : List Laid) → length put ≡ pending_packets s → still_put s put ≡ put
still_all s put e = let z : length put - pending_packets s ≡ 0 = omega arith in ap (λ (n : ℕ). drop n put) z

-- the plans pending are the same where the tables of plans and the sums are
pub plans_same :
    (plans : List IsoPacketPlan) (all all' some some' : ℕ) → all' ≡ all → some' ≡ some → slice (all' - some') all' plans ≡ slice (all - some) all plans
plans_same plans all all' some some' a p = rw (a, p)

-- the session with other requests of the same packets and numbers, head and reason
pub fits_same :
    (s r : IsoChannelState) (ring : List ℕ) (put : List Laid) → Fits s ring put → Sound r → r.cfg ≡ s.cfg → r.plans ≡ s.plans → all_packets r ≡ all_packets s
    → pending_packets r ≡ pending_packets s → Fits r ring (still_put r put)
fits_same s r ring put f g c p a b =
    let still : still_put r put ≡ put = still_all r put (put_length f ∙ sym b) in
    let plans : pending_plans s ≡ pending_plans r =
    ap (slice (all_packets s - pending_packets s) (all_packets s)) (sym p)
    ∙ sym (plans_same r.plans (all_packets s) (all_packets r) (pending_packets s) (pending_packets r) a b) in
    subst⁻¹ (Fits r ring) still
    (record {
      sound = g;
      behind = f.behind;
      drawing = f.drawing ∙ ap (λ (x : IsoConfig). drawn put (blank (ring_words x) f.behind)) (sym c);
      in_order = f.in_order ∙ ap (map slot_of_plan) plans;
      apart = f.apart;
    })

-- the same numbers
pub numbered_same :
    (s r : IsoChannelState) (numbers : List ℕ) → Numbered s numbers → r.head.count ≡ s.head.count → map number r.requests ≡ map number s.requests
    → Numbered r numbers
numbered_same s r numbers h c e =
    let same : (i : ℕ) → (request_of i r).id ≡ (request_of i s).id = number_kept s r c e in
    record {
      used = λ i k. subst⁻¹ (λ (n : ℕ). Among n numbers) (same i) (h.used i (omega (arith, c)));
      differ = λ i j l k q. h.differ i j l (omega (arith, c)) (sym (same i) ∙ q ∙ same j);
    }

-- the call altered nothing
pub keeps_none : (st : State) → Invariant st → Keeps st st.session st.ring
keeps_none st v =
    record {
      guarded = v.guarded;
      fits = fits_same st.session st.session st.ring st.put v.fits v.fits.sound refl refl refl refl;
      numbered = v.numbered;
    }

-- ---- cancelling

module _ (st : State) (v : Invariant st) where
  module _ (at : ℕ) where
    abbrev amended : IsoRequest
    amended = with_outcome outcome.Cancelled (request_of at st.session)

    amended_sums : (f : ℕ)
        → packets_of (slice f st.session.head.count (set st.session.requests at amended))
        ≡ packets_of (slice f st.session.head.count st.session.requests)
    amended_sums f =
        packets_kept st.session.requests (set st.session.requests at amended)
        (map-set_same packets st.session.requests at amended blank_request refl) f st.session.head.count

    keeps_amended : Keeps st (with_cancelled at st.session) st.ring
    keeps_amended =
        record {
          guarded = v.guarded;
          fits =
              fits_same st.session (with_cancelled at st.session) st.ring st.put v.fits (amended_sound at st.session v.fits.sound)
              refl refl (amended_sums 0)
              (amended_sums st.session.head.done);
          numbered =
              numbered_same st.session (with_cancelled at st.session) st.numbers v.numbered refl
              (map-set_same number st.session.requests at amended blank_request refl);
        }

  keeps_reason : Sound (with_reason reason.Cancelled st.session) → Keeps st (with_reason reason.Cancelled st.session) st.ring
  keeps_reason g =
      record {
        guarded = v.guarded;
        fits = fits_same st.session (with_reason reason.Cancelled st.session) st.ring st.put v.fits g refl refl refl refl;
        numbered = numbered_same st.session (with_reason reason.Cancelled st.session) st.numbers v.numbered refl refl;
      }

  pub cancel : (id : ℕ) → Invariant (step st (Cancel id))
  cancel id =
      let s = st.session in
      left_invariant st (cancelled s id).session st.ring
      (cancel_picked (λ (r : IsoChannelState). Keeps st r st.ring) s id (keeps_none st v) (keeps_amended (request_at id s))
      (λ h. keeps_reason (reason_sound reason.Cancelled s v.fits.sound h)))

  -- ---- reset

  keeps_start : Keeps st (at_start st.session) st.ring
  keeps_start =
      record {
        guarded = v.guarded;
        fits = fits_same st.session (at_start st.session) st.ring st.put v.fits (reset_sound st.session v.fits.sound) refl refl refl refl;
        numbered = numbered_same st.session (at_start st.session) st.numbers v.numbered refl refl;
      }

  pub reset : Invariant (step st Reset)
  reset =
      left_invariant st (reset_reply st.session).session st.ring
      (reset_picked (λ (r : IsoChannelState). Keeps st r st.ring) st.session (keeps_none st v) keeps_start)
