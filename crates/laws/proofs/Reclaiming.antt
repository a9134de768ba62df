-- Reclaiming keeps the invariant: its poll does, and what is pending does not change where a completed request goes.
use mathlib.Core.Path.{◌≡◌, refl, ◌∙◌, sym, ap, subst⁻¹}
use mathlib.Core.Bool.{Bool, true, false, cond}
use mathlib.Core.List.{List, map}
use Prim.Native.Nat.{ℕ, ◌+◌, ◌-◌, ◌≤◌, ◌<◌}
use Rattle.std.specs.Prelude.{Option, Some, None, Ok, Err}
use native.Mathlib.Omega.{arith}
use lib.Dec.{ltb}
use lib.ListN.{length, drop}
use lib.Seq.{slice, length-slice}
use borrow.Author.Tests.{ltb-true, ltb-false}
use Rattle.session.specs.declared.types.IsoRequest.{IsoRequest}
use Rattle.session.specs.declared.types.IsoChannelState.{IsoChannelState}
use Rattle.session.specs.declared.reply.IsoEvent.{IsoEvent}
use Rattle.session.specs.declared.reply.Reclaimed.{Reclaimed}
use Rattle.session.specs.declared.refusal.IsoRefusal.TheVariants as refusal
use Rattle.session.specs.Session.{blank_request, packets_of}
use Rattle.session.specs.Record.{is_bad_record}
use Rattle.session.specs.Poll.{reply, poll_way, polled_by, polled_ring_by}
use Rattle.session.specs.Cancel.{request_at}
use Rattle.session.specs.Reclaim.{is_found, looked, looked_ring, request_of, removed, handed_answer, reclaim_reply, looked_again, is_short, reclaimed, reclaimed_ring}
use Rattle.session.proofs.Laws.Lists.{get_or-slice, get_d_sets_before, get_or-sets_in}
use Rattle.session.proofs.Laws.Record.{Sound}
use Rattle.session.proofs.Laws.Removed.{removed_pending, removed_sound}
use Rattle.laws.specs.Drawing.{Among}
use Rattle.laws.specs.Run.{State, Reclaim, still_put, step}
use Rattle.laws.specs.Demand3.{slot_of_plan}
use Rattle.laws.specs.Invariant.{Fits, Numbered, Invariant}
use Rattle.laws.proofs.Keeping.{Keeps, left_invariant, keeps_none}
use Rattle.laws.proofs.Polling.{polling}

-- the requests before the one that goes stay, those behind it move down
module _ (at : ℕ) (s : IsoChannelState) (g : Sound s) (h : at < s.head.done) where
  abbrev moved : List IsoRequest
  moved = slice (at + 1) s.head.count s.requests

  removed_before : (i : ℕ) → i < at → request_of i (removed at s) ≡ request_of i s
  removed_before i l = get_d_sets_before moved s.requests at i blank_request l

  removed_behind : (i : ℕ) → at ≤ i → i < s.head.count - 1 → request_of i (removed at s) ≡ request_of (i + 1) s
  removed_behind i l k =
      let fits : s.head.count ≤ length s.requests = omega (arith, g.requests_long, g.count_in) in
      let many : length moved ≡ s.head.count - (at + 1) = length-slice (at + 1) s.head.count s.requests fits in
      let here : i ≡ at + (i - at) = omega arith in
      let there : at + 1 + (i - at) ≡ i + 1 = omega arith in
      ap (λ (j : ℕ). request_of j (removed at s)) here
      ∙ get_or-sets_in moved s.requests at (i - at) blank_request (omega (arith, many)) (omega (arith, many, fits, g.done_in))
      ∙ get_or-slice (at + 1) s.head.count (i - at) s.requests blank_request (omega arith)
      ∙ ap (λ (j : ℕ). request_of j s) there

abbrev id_at : IsoChannelState → ℕ → ℕ
id_at s i = (request_of i s).id

-- the numbers left
module _ (s : IsoChannelState) (numbers : List ℕ) (v : Numbered s numbers) (at : ℕ)
    (before : (i : ℕ) → i < at → id_at (removed at s) i ≡ id_at s i)
    (behind : (i : ℕ) → at ≤ i → i < s.head.count - 1 → id_at (removed at s) i ≡ id_at s (i + 1)) where
  used : (i : ℕ) → i < s.head.count - 1 → (b : Bool) → ltb i at ≡ b → Among (id_at (removed at s) i) numbers
  used i l true e = subst⁻¹ (λ (n : ℕ). Among n numbers) (before i (ltb-true i at e)) (v.used i (omega arith))
  used i l false e = subst⁻¹ (λ (n : ℕ). Among n numbers) (behind i (ltb-false i at e) l) (v.used (i + 1) (omega arith))

  differ :
      (i j : ℕ) → i < j → j < s.head.count - 1 → (a b : Bool) → ltb i at ≡ a → ltb j at ≡ b → id_at (removed at s) i ≡ id_at (removed at s) j → ⊥
  differ i j l k true true e f q = v.differ i j l (omega arith) (sym (before i (ltb-true i at e)) ∙ q ∙ before j (ltb-true j at f))
  differ i j l k true false e f q = v.differ i (j + 1) (omega arith) (omega arith) (sym (before i (ltb-true i at e)) ∙ q ∙ behind j (ltb-false j at f) k)
  differ i j l k false true e f q = omega (arith, ltb-false i at e, ltb-true j at f)
  differ i j l k false false e f q =
      v.differ (i + 1) (j + 1) (omega arith) (omega arith) (sym (behind i (ltb-false i at e) (omega arith)) ∙ q ∙ behind j (ltb-false j at f) k)

  pub numbered_removed : Numbered (removed at s) numbers
  numbered_removed = record { used = λ i l. used i l (ltb i at) refl; differ = λ i j l k. differ i j l k (ltb i at) (ltb j at) refl refl }

removed_keeps : (st : State) (s : IsoChannelState) (ring : List ℕ) → Keeps st s ring → (at : ℕ) → at < s.head.done → Keeps st (removed at s) ring
removed_keeps st s ring k at h =
    let g = k.fits.sound in
    let still : still_put (removed at s) st.put ≡ still_put s st.put =
    ap (λ (n : ℕ). drop (length st.put - n) st.put) (ap packets_of (removed_pending at s g h).0) in
    record {
      guarded = k.guarded;
      fits =
          subst⁻¹ (Fits (removed at s) ring) still
          (record {
            sound = removed_sound at s g h;
            behind = k.fits.behind;
            drawing = k.fits.drawing;
            in_order = k.fits.in_order ∙ ap (map slot_of_plan) (sym (removed_pending at s g h).1);
            apart = k.fits.apart;
          });
      numbered =
          numbered_removed s st.numbers k.numbered at (λ i l. ap (λ (r : IsoRequest). r.id) (removed_before at s g h i l))
          (λ i l m. ap (λ (r : IsoRequest). r.id) (removed_behind at s g h i l m));
    }

-- ---- the call

-- "looks, polls if it found nothing"
looked_keeps : (st : State) → Invariant st → (id : ℕ) (e : Option IsoEvent)
    → Keeps st (looked id e st.session st.ring).session (looked_ring id e st.session st.ring)
looked_keeps st v id e = by (is_found id st.session)
  where
    by : (b : Bool)
        → Keeps st (cond b (reply (Ok tt) false false st.session) (polled_by (poll_way st.session e) st.session st.ring)).session
        (cond b st.ring (polled_ring_by (poll_way st.session e) st.session st.ring))
    by true = keeps_none st v
    by false = polling st v e

-- "looks again"
again_keeps : (st : State) (s : IsoChannelState) (ring : List ℕ) → Keeps st s ring → (id : ℕ) (taken halt : Bool)
    → Keeps st (looked_again id taken halt s).session ring
again_keeps st s ring k id taken halt = by (is_found id s) refl
  where
    by : (b : Bool) → is_found id s ≡ b
        → Keeps st (cond b (reclaim_reply (Ok (Some (handed_answer (request_of (request_at id s) s)))) taken halt (removed (request_at id s) s))
        (reclaim_reply (cond (ltb (request_at id s) s.head.count) (Ok None) (Err refusal.UnknownRequest)) taken halt s)).session ring
    by true e = removed_keeps st s ring k (request_at id s) (ltb-true (request_at id s) s.head.done e)
    by false e = k

chosen :
    (st : State) (b : Bool) (x y : Reclaimed) (u w : List ℕ) → Keeps st x.session u → Keeps st y.session w
    → Keeps st (cond b x y).session (cond b u w)
chosen st true x y u w f g = f
chosen st false x y u w f g = g

pub reclaiming : (st : State) (id : ℕ) (e : Option IsoEvent) (results : ℕ) → Invariant st → Invariant (step st (Reclaim id e results))
reclaiming st id e results v =
    let s = st.session in
    let r = looked id e s st.ring in
    let ring = looked_ring id e s st.ring in
    let last : Reclaimed = looked_again id r.taken r.halt r.session in
    let short : Reclaimed = reclaim_reply (Err refusal.ShortBuffer) false false s in
    let bad : Reclaimed = reclaim_reply (Err refusal.BadRecord) false false s in
    left_invariant st (reclaimed s id e st.ring results).session (reclaimed_ring s id e st.ring results)
    (chosen st (is_short s (length st.ring) results) short (cond (is_bad_record s) bad last) st.ring
    (cond (is_bad_record s) st.ring ring) (keeps_none st v)
    (chosen st (is_bad_record s) bad last st.ring ring (keeps_none st v) (again_keeps st r.session ring (looked_keeps st v id e) id r.taken r.halt)))
