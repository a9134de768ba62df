-- A sound record stays sound, whatever a submission answers.
use mathlib.Core.Path.{◌≡◌, refl, ◌∙◌, ap, subst⁻¹}
use mathlib.Core.Bool.{Bool, true, false}
use mathlib.Core.List.{List, [], ◌∷◌}
use Prim.Native.Nat.{ℕ, ◌+◌, ◌-◌, ◌*◌, ◌≤◌, ◌<◌}
use native.Mathlib.Nat.{mod-lt, add-zero}
use native.Mathlib.Omega.{arith}
use lib.Dec.{ltb}
use lib.ListN.{length, get_or, set, length-set}
use lib.Seq.{sets, slice, get_or-set_same, get_or-set_other, length-sets}
use borrow.Author.Tests.{ltb-true, ltb-false}
use Rattle.ring.specs.RingSums.{slot_at}
use Rattle.ring.proofs.RingFacts.{ring_size_pos}
use Rattle.session.specs.declared.types.IsoChannelState.{IsoChannelState}
use Rattle.session.specs.declared.types.IsoRequest.{IsoRequest}
use Rattle.session.specs.declared.types.IsoPacketPlan.{IsoPacketPlan}
use Rattle.session.specs.declared.transfer.IsoTransfer.{IsoTransfer}
use Rattle.session.specs.declared.transfer.SubmitWay.{SubmitWay}
use Rattle.session.specs.declared.transfer.SubmitWay.TheVariants.{Refuse, TooLong, Spend, Early, Cut, Late, Accept}
use Rattle.session.specs.Session.{blank_request, blank_plan, slots, packets_of, all_packets, pending_packets}
use Rattle.session.specs.Place.{insert_of, step_of, plans_from}
use Rattle.session.specs.Way.{submit_way}
use Rattle.session.specs.Submit.{with_head, spent, unplugged, new_request, accepted, session_after, submitted}
use Rattle.session.proofs.Laws.Sums.{packets_append, room_few}
use Rattle.session.proofs.Laws.Record.{Sound, GoodRequest, renewed_sound}
use Rattle.session.proofs.Laws.Settled.{Good}
use Rattle.session.proofs.Laws.Stores.{new_plan, length-plans_from, get_or-plans_from}
use Rattle.session.proofs.Laws.Admitted.{Admitted, admitted, Told, told}
use Rattle.session.proofs.Laws.Lists.{slice_pushed, get_d_sets_before, get_or-sets_in}

-- the packets of a table with one request more
pub packets_pushed :
    (f count : ℕ) (l : List IsoRequest) (r : IsoRequest) → f ≤ count → count < length l
    → packets_of (slice f (count + 1) (set l count r)) ≡ packets_of (slice f count l) + r.packets
packets_pushed f count l r h k =
    let one : packets_of (r ∷ []) ≡ r.packets = add-zero r.packets in
    ap packets_of (slice_pushed f count l r h k) ∙ packets_append (slice f count l) (r ∷ []) ∙ ap (λ (n : ℕ). packets_of (slice f count l) + n) one

-- a number spent
pub spent_sound : (s : IsoChannelState) → Sound s → Sound (with_head s (spent s.head))
spent_sound s g =
    renewed_sound s (spent s.head).next_request_id s.head.td_last s.head.start_full_frame s.fatal g g.cursor g.idle_nothing

-- unplugged at a gate
pub unplugged_sound : (s : IsoChannelState) → Sound s → Sound (with_head s (unplugged s.head))
unplugged_sound s g =
    renewed_sound s (unplugged s.head).next_request_id 0 0 s.fatal g (ring_size_pos s.cfg.speed) g.idle_nothing

-- the request and the plans of a submission, and what a plan of the session keeps to
abbrev pushed : IsoChannelState → List ℕ → IsoRequest
pushed s lengths = new_request s.head.next_request_id (length lengths)

abbrev new_plans : IsoChannelState → IsoTransfer → List ℕ → List ℕ → List IsoPacketPlan
new_plans s t lengths ring = plans_from (slots s.cfg) (insert_of s t ring) (step_of s.cfg) 0 lengths

-- an accepted submission
module _ (s : IsoChannelState) (t : IsoTransfer) (lengths ring : List ℕ) (g : Sound s) (h : Admitted s t lengths ring) where
  few : length lengths ≤ 255
  few = omega (arith, h.entry.capacity, room_few s.cfg)

  fits : s.head.count < length s.requests
  fits = omega (arith, h.entry.requests)

  -- the packets of the new request come to those that there were
  pub all_pushed : all_packets (accepted s t lengths ring) ≡ all_packets s + length lengths
  all_pushed = packets_pushed 0 s.head.count s.requests (pushed s lengths) (omega arith) fits

  pub pending_pushed : pending_packets (accepted s t lengths ring) ≡ pending_packets s + length lengths
  pending_pushed = packets_pushed s.head.done s.head.count s.requests (pushed s lengths) g.done_in fits

  -- each request in use is good: the new one, and those before it as they were
  request_kept : (i : ℕ) → i < s.head.count + 1 → GoodRequest (get_or (accepted s t lengths ring).requests i blank_request)
  request_kept i l = go (ltb i s.head.count) refl
    where
      go : (b : Bool) → ltb i s.head.count ≡ b → GoodRequest (get_or (accepted s t lengths ring).requests i blank_request)
      go true e =
          let before : i < s.head.count = ltb-true i s.head.count e in
          subst⁻¹ GoodRequest (get_or-set_other s.requests s.head.count i (pushed s lengths) blank_request (omega arith)) (g.request i before)
      go false e =
          let last : i ≡ s.head.count = omega (arith, ltb-false i s.head.count e) in
          let good : GoodRequest (pushed s lengths) = record { some = h.entry.some; few = few } in
          subst⁻¹ GoodRequest (ap (λ (k : ℕ). get_or (accepted s t lengths ring).requests k blank_request) last
          ∙ get_or-set_same s.requests s.head.count (pushed s lengths) blank_request fits) good

  -- and so is each plan
  plan_kept : (i : ℕ) → i < all_packets s + length lengths → Good s (get_or (accepted s t lengths ring).plans i blank_plan)
  plan_kept i l = go (ltb i (all_packets s)) refl
    where
      go : (b : Bool) → ltb i (all_packets s) ≡ b → Good s (get_or (accepted s t lengths ring).plans i blank_plan)
      go true e =
          let before : i < all_packets s = ltb-true i (all_packets s) e in
          subst⁻¹ (Good s) (get_d_sets_before (new_plans s t lengths ring) s.plans (all_packets s) i blank_plan before) (g.plan i before)
      go false e =
          let k = i - all_packets s in
          let from : all_packets s ≤ i = ltb-false i (all_packets s) e in
          let at : i ≡ all_packets s + k = omega arith in
          let less : k < length lengths = omega arith in
          let count = length-plans_from (slots s.cfg) (insert_of s t ring) (step_of s.cfg) 0 lengths in
          let good : Good s (new_plan (get_or lengths k 0) (slot_at (slots s.cfg) (insert_of s t ring) (step_of s.cfg) (0 + k))) =
          record { planned = h.short k less; moved = omega arith; slot = mod-lt _ (ring_size_pos s.cfg.speed) } in
          subst⁻¹ (Good s)
          (ap (λ (j : ℕ). get_or (sets s.plans (all_packets s) (new_plans s t lengths ring)) j blank_plan) at
          ∙ get_or-sets_in (new_plans s t lengths ring) s.plans (all_packets s) k blank_plan (omega arith) (omega arith)
          ∙ get_or-plans_from (slots s.cfg) (insert_of s t ring) (step_of s.cfg) 0 lengths k less)
          good

  pub accepted_sound : Sound (accepted s t lengths ring)
  accepted_sound =
      record {
        requests_long = length-set s.requests s.head.count (pushed s lengths) ∙ g.requests_long;
        plans_long = length-sets s.plans (all_packets s) (new_plans s t lengths ring) ∙ g.plans_long;
        config = g.config;
        done_in = omega arith;
        count_in = h.entry.requests;
        request = request_kept;
        all_few = omega (arith, h.entry.packets, all_pushed);
        pending_few = omega (arith, h.entry.capacity, pending_pushed);
        plan = λ i l. plan_kept i (omega (arith, all_pushed));
        cursor = mod-lt (insert_of s t ring + length lengths * step_of s.cfg) (ring_size_pos s.cfg.speed);
        idle_done = λ off. cc;
        idle_nothing = λ off. cc;
      }

-- any submission, whatever it answers
module _ (s : IsoChannelState) (t : IsoTransfer) (lengths ring : List ℕ) (g : Sound s) where
  after_sound : (way : SubmitWay) → Told s t lengths ring way → Sound (session_after way s t lengths ring)
  after_sound (Refuse n) h = g
  after_sound (TooLong i) h = spent_sound s g
  after_sound (Spend n) h = spent_sound s g
  after_sound Early h = unplugged_sound s g
  after_sound Cut h = g
  after_sound Late h = unplugged_sound s g
  after_sound Accept h = accepted_sound s t lengths ring g (admitted s t lengths ring h.0)

  pub submitted_sound : Sound (submitted s t lengths ring).session
  submitted_sound = after_sound (submit_way s t lengths ring) (told s t lengths ring)
