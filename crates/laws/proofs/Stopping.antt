-- Demand 3 in a state that keeps the invariant: the ring where an accepted submission was stopped, and the recovery that follows.
use mathlib.Core.Path.{◌≡◌, refl, ◌∙◌, sym, ap, subst, subst⁻¹}
use mathlib.Core.Bool.{Bool, true, false}
use mathlib.Core.List.{List, ◌++◌, map}
use mathlib.Core.Logic.{◌⊎◌, inl, inr, ⊎_elim}
use Prim.Native.Nat.{ℕ, ◌+◌, ◌*◌, ◌≤◌, ◌<◌}
use Rattle.std.specs.Prelude.{Ok}
use native.Mathlib.Omega.{arith}
use lib.Dec.{ltb}
use lib.ListN.{length, get_or, take, drop, replicate, length-map, get_or-map}
use borrow.Author.Tests.{ltb-true, ltb-false}
use Rattle.words.specs.Words.{is_set, active}
use Rattle.session.specs.declared.types.IsoOutcome.TheVariants as outcome
use Rattle.session.specs.declared.types.IsoChannelState.{IsoChannelState}
use Rattle.session.specs.declared.transfer.IsoTransfer.{IsoTransfer}
use Rattle.session.specs.declared.transfer.IsoSubmission.TheVariants.{Accepted}
use Rattle.session.specs.declared.transfer.SubmitWay.{SubmitWay}
use Rattle.session.specs.declared.transfer.SubmitWay.TheVariants.{Cut, Accept}
use Rattle.session.specs.declared.reply.IsoReply.{IsoReply}
use Rattle.session.specs.Session.{slots, ring_words}
use Rattle.ring.specs.Stores.{Store, stored}
use Rattle.session.specs.Place.{stores_of, insert_of, step_of}
use Rattle.session.specs.Way.{submit_way}
use Rattle.session.specs.Submit.{answer_of}
use Rattle.session.specs.Poll.{recovered, recovered_ring}
use Rattle.laws.proofs.Calls.Facts.{accept_admitted, accept_gates, accept_if, cut_if, cut_ring, whole_ring, whole_session}
use Rattle.laws.proofs.Calls.Recovery.{recovery}
use Rattle.laws.proofs.Calls.Ending.{recovery_answers, recovery_idle, recovery_zeroes, recovery_fails, recovery_keeps}
use Rattle.session.proofs.Laws.Record.{not_bad}
use Rattle.ring.proofs.Stores.{length_stored, whole_plan}
use Rattle.session.proofs.Laws.Admitted.{Admitted}
use Rattle.session.specs.Reclaim.{request_of}
use Rattle.laws.specs.Drawing.{Laid, blank_laid, words_of, slot_of, word_at, Holds, Among, Absent}
use Rattle.laws.specs.Run.{State, Touch}
use Rattle.laws.specs.Demand3.{up_to, Submission, whole, stopped, plan, slot_of_packet, found, Stopped, Recovered}
use Rattle.laws.specs.Invariant.{Invariant}
use Rattle.laws.proofs.Lists.{among_or_absent}
use Rattle.laws.proofs.Drawn.{stores_are, stored_drawn, stored_other, stored_holds, absent_first, first_hold, status_among, Within, first_behind}
use Rattle.laws.proofs.Fitting.{blank, blank_zero, ring_long, put_held, other_zero}
use Rattle.laws.proofs.Controller.{inactive, length-touched_by, behind-touched_by}
use Rattle.laws.proofs.Ended.{ended_numbered}
use Rattle.laws.proofs.Planned.{planned_length, planned_at, planned_below, planned_apart, planned_off_cursor, planned_distinct, put_apart}

-- ---- the way of a submission that is accepted

accepted_way : (s : IsoChannelState) (w : SubmitWay) (id : ℕ) → answer_of w s ≡ Ok (Accepted id) → w ≡ Accept
accepted_way s Accept id e = refl
accepted_way s w id e = cc

-- no test asks how many words may be stored
any_words : (s : IsoChannelState) (t : IsoTransfer) (lengths ring : List ℕ) (k m : ℕ) → Admitted s (up_to k t) lengths ring → Admitted s (up_to m t) lengths ring
any_words s t lengths ring k m h =
    record {
      entry =
          record {
            ring_long = h.entry.ring_long;
            record_good = h.entry.record_good;
            no_reason = h.entry.no_reason;
            not_low = h.entry.not_low;
            isochronous = h.entry.isochronous;
            some = h.entry.some;
            buffer = h.entry.buffer;
            capacity = h.entry.capacity;
            requests = h.entry.requests;
            packets = h.entry.packets;
          };
      short = h.short;
      sums = h.sums;
      address = h.address;
      channel = h.channel;
      apart = h.apart;
    }

module _ (st : State) (x : Submission st) where
  abbrev s : IsoChannelState
  s = st.session

  abbrev n : ℕ
  n = length x.lengths

  abbrev words : List Store
  words = words_of (plan st x)

  way_whole : submit_way s (up_to (2 * n) x.transfer) x.lengths st.ring ≡ Accept
  way_whole = accepted_way s (submit_way s (up_to (2 * n) x.transfer) x.lengths st.ring) x.id x.accepted

  pub admitted_whole : Admitted s (up_to (2 * n) x.transfer) x.lengths st.ring
  admitted_whole = accept_admitted s (up_to (2 * n) x.transfer) x.lengths st.ring way_whole

  gates : s.head.live ≡ false → (x.transfer.gate_program ≡ true) × (x.transfer.gate_enable ≡ true)
  gates = accept_gates s (up_to (2 * n) x.transfer) x.lengths st.ring way_whole

  -- the ring where it was stopped
  stores_words : (k : ℕ) → stores_of s (up_to k x.transfer) x.lengths st.ring ≡ words
  stores_words k = stores_are (slots s.cfg) (insert_of s x.transfer st.ring) (step_of s.cfg) 0 x.transfer.base x.lengths

  pub stopped_is : (k : ℕ) → k ≤ 2 * n → stopped st x k ≡ stored (take k words) st.ring
  stopped_is k l = by (ltb k (2 * n)) refl
    where
      by : (b : Bool) → ltb k (2 * n) ≡ b → stopped st x k ≡ stored (take k words) st.ring
      by true e =
          let w : submit_way s (up_to k x.transfer) x.lengths st.ring ≡ Cut =
          cut_if s (up_to k x.transfer) x.lengths st.ring (any_words s x.transfer x.lengths st.ring (2 * n) k admitted_whole)
          (ltb-true k (2 * n) e) (λ off. (gates off).0) in
          cut_ring s (up_to k x.transfer) x.lengths st.ring w ∙ ap (λ (ws : List Store). stored (take k ws) st.ring) (stores_words k)
      by false e =
          let enough : 2 * n ≤ k = ltb-false k (2 * n) e in
          let w : submit_way s (up_to k x.transfer) x.lengths st.ring ≡ Accept =
          accept_if s (up_to k x.transfer) x.lengths st.ring (any_words s x.transfer x.lengths st.ring (2 * n) k admitted_whole) enough
          gates in
          whole_ring s (up_to k x.transfer) x.lengths st.ring w
          ∙ sym (whole_plan (slots s.cfg) (insert_of s x.transfer st.ring) (step_of s.cfg) 0 x.transfer.base k x.lengths st.ring enough)
          ∙ ap (λ (ws : List Store). stored (take k ws) st.ring) (stores_words k)

  -- ---- what holds of it

  module _ (v : Invariant st) (k : ℕ) (l : k ≤ 2 * n) where
    abbrev laid : List Laid
    laid = plan st x

    admitted : Admitted s (up_to k x.transfer) x.lengths st.ring
    admitted = any_words s x.transfer x.lengths st.ring (2 * n) k admitted_whole

    -- a slot of put is none of those planned
    put_off : (i : ℕ) → i < length st.put → Absent (get_or st.put i blank_laid).slot (map slot_of laid)
    put_off i h =
        subst (λ (m : ℕ). Absent m (map slot_of laid)) (get_or-map slot_of st.put i blank_laid)
        (put_apart s (up_to k x.transfer) x.lengths st.ring admitted v.fits v.guarded i (omega (arith, length-map st.put slot_of)))

    held : (i : ℕ) → i < length st.put → Holds (stopped st x k) (get_or st.put i blank_laid)
    held i h =
        let p = get_or st.put i blank_laid in
        subst⁻¹ (λ (r : List ℕ). Holds r p) (stopped_is k l)
        (stored_holds p (take k words) st.ring
        (absent_first k p.slot (2 * p.slot) laid (omega arith) (omega arith) (put_off i h))
        (absent_first k p.slot (2 * p.slot + 1) laid (omega arith) (omega arith) (put_off i h))
        (put_held v.fits i h))

    planned_within : (m : ℕ) → ring_words s.cfg ≤ m → Within m laid
    planned_within m long i h =
        let few : i < n = omega (arith, planned_length s x.transfer x.lengths st.ring) in
        omega (arith, planned_at s x.transfer x.lengths st.ring i few, planned_below s x.transfer x.lengths st.ring i)

    -- a word that is neither put nor new
    zero_word :
        (w : ℕ) → w < ring_words s.cfg → Absent w (map word_at (words_of st.put)) → Absent w (map word_at (take k words)) → get_or (stopped st x k) w 0 ≡ 0
    zero_word w h a b =
        let zeros = blank (ring_words s.cfg) v.fits.behind in
        ap (λ (r : List ℕ). get_or r w 0) (stopped_is k l)
        ∙ stored_other w (take k words) st.ring b
        ∙ ap (λ (r : List ℕ). get_or r w 0) (v.fits.drawing ∙ sym (stored_drawn st.put zeros))
        ∙ stored_other w (words_of st.put) zeros a
        ∙ blank_zero (ring_words s.cfg) v.fits.behind w h

    new_slot : (slot : ℕ) → Among (2 * slot) (map word_at (take k words))
        → (i : ℕ) × (2 * i + 2 ≤ k) × (i < n) × (slot_of_packet st x i ≡ slot) × Holds (stopped st x k) (get_or laid i blank_laid)
    new_slot slot a =
        let r = status_among laid k slot a in
        let few : r.0 < n = subst (λ (m : ℕ). r.0 < m) (planned_length s x.transfer x.lengths st.ring) r.2 in (
          r.0,
          r.1,
          few,
          sym (planned_at s x.transfer x.lengths st.ring r.0 few) ∙ r.3,
          subst⁻¹ (λ (q : List ℕ). Holds q (get_or laid r.0 blank_laid)) (stopped_is k l)
              (first_hold laid k st.ring (planned_distinct s (up_to k x.transfer) x.lengths st.ring admitted)
              (planned_within (length st.ring) (ring_long v.fits)) r.0 r.2 r.1),
        )

    whole_slot : (slot : ℕ) → slot < slots s.cfg → is_set active (get_or (stopped st x k) (2 * slot) 0) ≡ true
        → Among slot (map slot_of st.put)
        ⊎ ((i : ℕ) × (2 * i + 2 ≤ k) × (i < n) × (slot_of_packet st x i ≡ slot) × Holds (stopped st x k) (get_or laid i blank_laid))
    whole_slot slot below on =
        ⊎_elim (λ h. inl h)
        (λ off.
        ⊎_elim (λ h. inr (new_slot slot h))
        (λ b.
        absurd (inactive (get_or (stopped st x k) (2 * slot) 0)
        (ap (λ (r : List ℕ). get_or r (2 * slot) 0) (stopped_is k l)
        ∙ stored_other (2 * slot) (take k words) st.ring b
        ∙ other_zero v.fits slot (2 * slot) below (omega arith) (omega arith) off)
        on))
        (among_or_absent (2 * slot) (map word_at (take k words))))
        (among_or_absent slot (map slot_of st.put))

    off_cursor : (i : ℕ) → i < n → slot_of_packet st x i ≡ (whole st x).session.head.td_last → ⊥
    off_cursor i h e =
        planned_off_cursor s (up_to k x.transfer) x.lengths st.ring admitted i h
        (e ∙ ap (λ (r : IsoChannelState). r.head.td_last) (whole_session s (up_to (2 * n) x.transfer) x.lengths st.ring way_whole))

    pub stopping : Stopped st x k (stopped st x k)
    stopping =
        record {
          pending_slots = v.fits.in_order;
          pending_held = held;
          leading_run = stopped_is k l;
          slots_differ = planned_apart s (up_to k x.transfer) x.lengths st.ring admitted;
          packets = planned_length s x.transfer x.lengths st.ring;
          interval_apart = planned_at s x.transfer x.lengths st.ring;
          off_cursor = off_cursor;
          active_whole = whole_slot;
          others_zero = zero_word;
        }

    -- ---- and of the recovery

    found_length : (touches : List Touch) → length (found st x k touches) ≡ length st.ring
    found_length touches =
        length-touched_by s.cfg touches (stopped st x k) ∙ ap length (stopped_is k l) ∙ length_stored (take k words) st.ring

    found_behind : (touches : List Touch) → drop (ring_words s.cfg) (found st x k touches) ≡ drop (ring_words s.cfg) st.ring
    found_behind touches =
        behind-touched_by s.cfg touches (stopped st x k) ∙ ap (drop (ring_words s.cfg)) (stopped_is k l)
        ∙ first_behind laid k (ring_words s.cfg) st.ring (planned_within (ring_words s.cfg) (omega arith))

    found_long : (touches : List Touch) → ring_words s.cfg ≤ length (found st x k touches)
    found_long touches = omega (arith, found_length touches, ring_long v.fits)

    pub ring_recovered_lem :
        (touches : List Touch) → recovered_ring s (found st x k touches) ≡ replicate (ring_words s.cfg) 0 ++ drop (ring_words s.cfg) st.ring
    ring_recovered_lem touches =
        (recovery s (found st x k touches) (found_long touches) (not_bad s v.fits.sound)).1
        ∙ ap (λ (r : List ℕ). replicate (ring_words s.cfg) 0 ++ r) (found_behind touches)

  module _ (v : Invariant st) (k : ℕ) (l : k ≤ 2 * n) (meanwhile : List Touch) where
    abbrev left : List ℕ
    left = found st x k meanwhile

    long : ring_words s.cfg ≤ length left
    long = found_long v k l meanwhile

    once :
        (i j : ℕ) → i < j → j < s.head.count → (request_of i (recovered s (length left)).session).id ≡ (request_of j (recovered s (length left)).session).id → ⊥
    once i j h m =
        subst⁻¹ (λ (r : IsoReply). (request_of i r.session).id ≡ (request_of j r.session).id → ⊥) (recovery s left long (not_bad s v.fits.sound)).0
        ((ended_numbered outcome.Disconnected s v.fits.sound st.numbers v.numbered).differ i j h m)

    pub recovering : Recovered st x (recovered s (length left)) (recovered_ring s left)
    recovering =
        let good = not_bad s v.fits.sound in
        let requests = v.fits.sound.requests_long in
        let plans = v.fits.sound.plans_long in
        record {
          answered = recovery_answers s left long good;
          ring_zero = recovery_zeroes s left long good;
          idle = recovery_idle s left long good;
          disconnected = recovery_fails s left long good requests plans;
          completed_stay = recovery_keeps s left long good requests plans;
          once = once;
          same_reply = λ other m touches. ap (recovered s) (found_length v other m touches ∙ sym (found_length v k l meanwhile));
          same_ring = λ other m touches. ring_recovered_lem v other m touches ∙ sym (ring_recovered_lem v k l meanwhile);
        }
