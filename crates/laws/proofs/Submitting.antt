-- A submission keeps the invariant, whatever it answers, where the number that it uses up was not used up before.
use mathlib.Core.Path.{◌≡◌, refl, ◌∙◌, sym, ap, subst, subst⁻¹}
use mathlib.Core.Bool.{Bool, true, false, cond}
use mathlib.Core.List.{List, [], ◌∷◌, ◌++◌, map, map-append}
use mathlib.Core.Logic.{inl, inr}
use Prim.Native.Nat.{ℕ, ◌+◌, ◌-◌, ◌<◌}
use Rattle.std.proofs.lemmas.List.{nil_from_length}
use native.Mathlib.Omega.{arith}
use lib.Dec.{ltb}
use lib.ListN.{length, take, drop}
use lib.Seq.{slice, sets, get_or-set_same, get_or-set_other}
use borrow.Author.Tests.{ltb-true, ltb-false, ne_eqb}
use Rattle.ring.specs.RingSums.{next_number}
use Rattle.session.specs.declared.types.IsoPacketPlan.{IsoPacketPlan}
use Rattle.session.specs.declared.types.IsoRequest.{IsoRequest}
use Rattle.session.specs.declared.types.IsoChannelState.{IsoChannelState}
use Rattle.session.specs.declared.transfer.IsoTransfer.{IsoTransfer}
use Rattle.session.specs.declared.transfer.SubmitWay.{SubmitWay}
use Rattle.session.specs.declared.transfer.SubmitWay.TheVariants.{Refuse, TooLong, Spend, Early, Cut, Late, Accept}
use Rattle.session.specs.Session.{blank_request, slots, ring_words, cleared, all_packets, pending_packets}
use Rattle.ring.specs.Stores.{Store, stored}
use Rattle.session.specs.Place.{insert_of, step_of, stores_of, plans_from}
use Rattle.session.specs.Way.{pending_plans, submit_way}
use Rattle.session.specs.Submit.{with_head, spent, unplugged, new_request, accepted, session_after, ring_after, answer_of, submitted, submitted_ring}
use Rattle.laws.proofs.Calls.Facts.{accept_admitted, unplugged_first}
use Rattle.session.proofs.Laws.Sums.{packets_past}
use Rattle.session.proofs.Laws.Record.{Sound}
use Rattle.ring.proofs.Stores.{length_stored}
use Rattle.session.proofs.Laws.Stores.{length-plans_from}
use Rattle.laws.proofs.Calls.Kept.{spent_sound, unplugged_sound, all_pushed, pending_pushed, accepted_sound}
use Rattle.session.proofs.Laws.Admitted.{Admitted}
use Rattle.session.specs.Reclaim.{request_of}
use Rattle.laws.specs.Drawing.{Laid, drawn, slot_of, Among, Absent, Distinct}
use Rattle.laws.specs.Run.{State, Touch, Submit, touched_by, planned, used_up, left, left_with, recover, submit_by, step}
use Rattle.laws.specs.Demand3.{slot_of_plan}
use Rattle.laws.specs.Invariant.{Fits, Numbered, Invariant}
use Rattle.laws.proofs.Lists.{among_later, distinct_head, distinct_append, slice_behind}
use Rattle.laws.proofs.Drawn.{drawn_append, stored_drawn, stores_are}
use Rattle.laws.proofs.Fitting.{blank, put_length, ring_long, pending_within}
use Rattle.laws.proofs.Controller.{length-touched_by}
use Rattle.laws.proofs.Keeping.{Keeps, left_invariant, still_all, fits_same, numbered_same, keeps_none}
use Rattle.laws.proofs.Ended.{recovery_step}
use Rattle.laws.proofs.Planned.{planned_slots, plans_slots, planned_distinct, put_apart}

-- ---- refused

module _ (st : State) (v : Invariant st) where
  keeps_spent : Keeps st (with_head st.session (spent st.session.head)) st.ring
  keeps_spent =
      let r = with_head st.session (spent st.session.head) in
      record {
        guarded = v.guarded;
        fits = fits_same st.session r st.ring st.put v.fits (spent_sound st.session v.fits.sound) refl refl refl refl;
        numbered = numbered_same st.session r st.numbers v.numbered refl refl;
      }

  -- without a live channel nothing is put
  pub idle_put : st.session.head.live ≡ false → st.put ≡ []
  idle_put off =
      nil_from_length st.put
      (put_length v.fits
      ∙ packets_past st.session.head.done st.session.head.count st.session.requests (omega (arith, v.fits.sound.idle_done off)))

  keeps_unplugged : st.session.head.live ≡ false
      → Keeps st (with_head st.session (unplugged st.session.head)) (cleared (ring_words st.session.cfg) st.ring)
  keeps_unplugged off =
      let s = st.session in
      let r = with_head s (unplugged s.head) in
      let zeros = cleared (ring_words s.cfg) st.ring in
      record {
        guarded = v.guarded;
        fits =
            subst⁻¹ (Fits r zeros) (still_all r st.put (put_length v.fits))
            (record {
              sound = unplugged_sound s v.fits.sound;
              behind = drop (ring_words s.cfg) st.ring;
              drawing = sym (ap (λ (l : List Laid). drawn l zeros) (idle_put off));
              in_order = v.fits.in_order;
              apart = v.fits.apart;
            });
        numbered = numbered_same s r st.numbers v.numbered refl refl;
      }

-- ---- accepted

module _ (s : IsoChannelState) (t : IsoTransfer) (lengths ring : List ℕ) (g : Sound s) (h : Admitted s t lengths ring) where
  abbrev new : List IsoPacketPlan
  new = plans_from (slots s.cfg) (insert_of s t ring) (step_of s.cfg) 0 lengths

  new_length : length new ≡ length lengths
  new_length = length-plans_from (slots s.cfg) (insert_of s t ring) (step_of s.cfg) 0 lengths

  -- the plans pending are those before and the new ones
  plans_pushed : pending_plans (accepted s t lengths ring) ≡ pending_plans s ++ new
  plans_pushed =
      let all = all_packets (accepted s t lengths ring) in
      let from : all - pending_packets (accepted s t lengths ring) ≡ all_packets s - pending_packets s =
      omega (arith, all_pushed s t lengths ring g h, pending_pushed s t lengths ring g h, pending_within s g) in
      let to : all ≡ all_packets s + length new = omega (arith, all_pushed s t lengths ring g h, new_length) in
      ap (λ (n : ℕ). slice n all (sets s.plans (all_packets s) new)) from
      ∙ ap (λ (n : ℕ). slice (all_packets s - pending_packets s) n (sets s.plans (all_packets s) new)) to
      ∙ slice_behind new s.plans (all_packets s - pending_packets s) (all_packets s) (omega arith) (omega (arith, h.entry.packets, g.plans_long, new_length))

  same_slots : map slot_of (planned s t lengths ring) ≡ map slot_of_plan new
  same_slots =
      planned_slots (slots s.cfg) (insert_of s t ring) (step_of s.cfg) 0 t.base lengths
      ∙ sym (plans_slots (slots s.cfg) (insert_of s t ring) (step_of s.cfg) 0 lengths)

-- the number of a request and the next one differ
next_differs : (n : ℕ) → n ≡ next_number n → ⊥
next_differs n e = omega arith

module _ (st : State) (t : IsoTransfer) (lengths : List ℕ) (v : Invariant st) (h : Admitted st.session t lengths st.ring) where
  abbrev s : IsoChannelState
  s = st.session

  accepted_fits : Fits (accepted s t lengths st.ring) (stored (stores_of s t lengths st.ring) st.ring) (st.put ++ planned s t lengths st.ring)
  accepted_fits =
      let f = v.fits in
      let zeros = blank (ring_words s.cfg) f.behind in
      let laid = planned s t lengths st.ring in
      record {
        sound = accepted_sound s t lengths st.ring f.sound h;
        behind = f.behind;
        drawing =
            ap (λ (ws : List Store). stored ws st.ring) (stores_are (slots s.cfg) (insert_of s t st.ring) (step_of s.cfg) 0 t.base lengths)
            ∙ stored_drawn laid st.ring
            ∙ ap (drawn laid) f.drawing
            ∙ sym (drawn_append st.put laid zeros);
        in_order =
            map-append slot_of st.put laid
            ∙ ap (λ (l : List ℕ). l ++ map slot_of laid) f.in_order
            ∙ ap (λ (l : List ℕ). map slot_of_plan (pending_plans s) ++ l) (same_slots s t lengths st.ring f.sound h)
            ∙ sym (map-append slot_of_plan (pending_plans s) (new s t lengths st.ring f.sound h))
            ∙ ap (map slot_of_plan) (sym (plans_pushed s t lengths st.ring f.sound h));
        apart =
            subst⁻¹ Distinct (map-append slot_of st.put laid)
            (distinct_append (map slot_of st.put) (map slot_of laid) f.apart (planned_distinct s t lengths st.ring h)
            (put_apart s t lengths st.ring h f v.guarded));
      }

  -- the new request's number, and those of the others
  abbrev next : ℕ
  next = s.head.next_request_id

  fits_in : s.head.count < length s.requests
  fits_in = omega (arith, h.entry.requests, v.fits.sound.requests_long)

  id_before : (i : ℕ) → i < s.head.count → (request_of i (accepted s t lengths st.ring)).id ≡ (request_of i s).id
  id_before i k = ap (λ (r : IsoRequest). r.id) (get_or-set_other s.requests s.head.count i (new_request next (length lengths)) blank_request (omega arith))

  id_last : (request_of s.head.count (accepted s t lengths st.ring)).id ≡ next
  id_last = ap (λ (r : IsoRequest). r.id) (get_or-set_same s.requests s.head.count (new_request next (length lengths)) blank_request fits_in)

  accepted_numbered : Absent next st.numbers → Numbered (accepted s t lengths st.ring) (next ∷ st.numbers)
  accepted_numbered fresh = record { used = λ i k. used i k (ltb i s.head.count) refl; differ = λ i j l k. differ i j l k (ltb j s.head.count) refl }
    where
      used : (i : ℕ) → i < s.head.count + 1 → (b : Bool) → ltb i s.head.count ≡ b
          → Among (request_of i (accepted s t lengths st.ring)).id (next ∷ st.numbers)
      used i k true e =
          let before : i < s.head.count = ltb-true i s.head.count e in
          subst⁻¹ (λ (n : ℕ). Among n (next ∷ st.numbers)) (id_before i before)
          (among_later (request_of i s).id next st.numbers (v.numbered.used i before))
      used i k false e =
          let last : i ≡ s.head.count = omega (arith, ltb-false i s.head.count e) in
          subst⁻¹ (λ (n : ℕ). Among n (next ∷ st.numbers)) (ap (λ (n : ℕ). (request_of n (accepted s t lengths st.ring)).id) last ∙ id_last)
          (0, omega arith, refl)

      differ :
          (i j : ℕ) → i < j → j < s.head.count + 1 → (b : Bool) → ltb j s.head.count ≡ b
          → (request_of i (accepted s t lengths st.ring)).id ≡ (request_of j (accepted s t lengths st.ring)).id → ⊥
      differ i j l k true e q =
          let before : j < s.head.count = ltb-true j s.head.count e in
          v.numbered.differ i j l before (sym (id_before i (omega arith)) ∙ q ∙ id_before j before)
      differ i j l k false e q =
          let last : j ≡ s.head.count = omega (arith, ltb-false j s.head.count e) in
          let before : i < s.head.count = omega arith in
          let same : (request_of i s).id ≡ next =
          sym (id_before i before) ∙ q ∙ ap (λ (n : ℕ). (request_of n (accepted s t lengths st.ring)).id) last ∙ id_last in
          let a = v.numbered.used i before in
          fresh a.0 a.1 (a.2 ∙ same)

  accepted_used : used_up s (accepted s t lengths st.ring) st.numbers ≡ next ∷ st.numbers
  accepted_used = ap (λ (b : Bool). cond b st.numbers (next ∷ st.numbers)) (ne_eqb next (next_number next) (next_differs next))

-- ---- each way

module _ (st : State) (t : IsoTransfer) (lengths : List ℕ) (between : List Touch) (v : Invariant st) where
  abbrev way : SubmitWay
  way = submit_way st.session t lengths st.ring

  abbrev after : IsoChannelState
  after = (submitted st.session t lengths st.ring).session

  abbrev ring_after_lem : List ℕ
  ring_after_lem = submitted_ring st.session t lengths st.ring

  -- what the way leaves, kept
  keeps_way : (w : SubmitWay) → way ≡ w
      → Keeps st (session_after w st.session t lengths st.ring) (ring_after w st.session t lengths st.ring) → Invariant (left st after ring_after_lem)
  keeps_way w e k =
      left_invariant st after ring_after_lem
      (subst⁻¹ (λ (x : SubmitWay). Keeps st (session_after x st.session t lengths st.ring) (ring_after x st.session t lengths st.ring)) e k)

  keeps_cut : way ≡ Cut → Invariant (recover st (touched_by st.session.cfg between ring_after_lem))
  keeps_cut e =
      let words = take t.words (stores_of st.session t lengths st.ring) in
      let same : length ring_after_lem ≡ length st.ring =
      ap (λ (w : SubmitWay). length (ring_after w st.session t lengths st.ring)) e ∙ length_stored words st.ring in
      recovery_step st v (touched_by st.session.cfg between ring_after_lem)
      (omega (arith, ring_long v.fits, same, length-touched_by st.session.cfg between ring_after_lem))

  keeps_accept : way ≡ Accept → Distinct (used_up st.session after st.numbers)
      → Invariant (left_with (planned st.session t lengths st.ring) st after ring_after_lem)
  keeps_accept e d =
      let h : Admitted st.session t lengths st.ring = accept_admitted st.session t lengths st.ring e in
      let used = accepted_used st t lengths v h in
      let laid = planned st.session t lengths st.ring in
      let fresh : Distinct (st.session.head.next_request_id ∷ st.numbers) =
      subst Distinct (ap (λ (w : SubmitWay). used_up st.session (session_after w st.session t lengths st.ring) st.numbers) e ∙ used) d in
      let absent = distinct_head st.session.head.next_request_id st.numbers fresh in
      subst⁻¹
      (λ (w : SubmitWay). Invariant (left_with laid st (session_after w st.session t lengths st.ring) (ring_after w st.session t lengths st.ring))) e
      (record {
        guarded = v.guarded;
        fits = accepted_fits st t lengths v h;
        numbered = subst⁻¹ (Numbered (accepted st.session t lengths st.ring)) used (accepted_numbered st t lengths v h absent);
      })

  by_way :
      (w : SubmitWay) → way ≡ w → Distinct (submit_by (answer_of w st.session) st t lengths between).numbers
      → Invariant (submit_by (answer_of w st.session) st t lengths between)
  by_way (Refuse n) e d = keeps_way (Refuse n) e (keeps_none st v)
  by_way (TooLong i) e d = keeps_way (TooLong i) e (keeps_spent st v)
  by_way (Spend n) e d = keeps_way (Spend n) e (keeps_spent st v)
  by_way Early e d = keeps_way Early e (keeps_unplugged st v (unplugged_first st.session t lengths st.ring (inl e)))
  by_way Cut e d = keeps_cut e
  by_way Late e d = keeps_way Late e (keeps_unplugged st v (unplugged_first st.session t lengths st.ring (inr e)))
  by_way Accept e d = keeps_accept e d

  pub submit : Distinct (step st (Submit t lengths between)).numbers → Invariant (step st (Submit t lengths between))
  submit d = by_way way refl d
