-- What the calls do to slots and to the order of requests over time: which of them clear slots, and that requests complete in the order of their
-- submission. `cancel` and `reset` are lent no ring; what opening, a session's end and recovery leave of it, its definitions say outright. Each is a fact of
-- the session's definitions, and so, by the promises of the calls, of the code. Results.antt and HandedOut.antt go on from here.
use mathlib.Core.Path.{◌≡◌, refl, ◌∙◌, sym, ap, subst⁻¹}
use mathlib.Core.Bool.{Bool, true, false, ◌||◌, cond}
use mathlib.Core.List.{List, [], map}
use mathlib.Core.Logic.{◌≢◌, ◌⊎◌, inl, inr, ⊎_elim}
use Prim.Native.Nat.{ℕ, ◌+◌, ◌-◌, ◌*◌, ◌/◌, ◌≤◌, ◌<◌}
use Rattle.std.specs.Prelude.{Option, Err}
use native.Mathlib.Omega.{arith}
use lib.Dec.{ltb}
use lib.ListN.{length, get_or}
use lib.Seq.{get_or-set_same, get_or-set_other}
use Rattle.session.specs.declared.types.IsoChannelState.{IsoChannelState}
use Rattle.session.specs.declared.types.IsoOutcome.{IsoOutcome}
use Rattle.session.specs.declared.types.IsoOutcome.TheVariants as outcome
use Rattle.session.specs.declared.transfer.IsoTransfer.{IsoTransfer}
use Rattle.session.specs.declared.transfer.SubmitWay.{SubmitWay}
use Rattle.session.specs.declared.transfer.SubmitWay.TheVariants as way
use Rattle.session.specs.declared.reply.IsoEvent.{IsoEvent}
use Rattle.session.specs.declared.reply.PollWay.{PollWay}
use Rattle.session.specs.declared.reply.PollWay.TheVariants.{Nothing, End, Halt, Wait, Settle}
use Rattle.session.specs.declared.refusal.IsoRefusal.TheVariants as refusal
use Rattle.session.specs.Session.{blank_request, blank_plan, slots, ring_words}
use Rattle.session.specs.Record.{is_bad_record}
use Rattle.session.specs.Settle.{oldest_from}
use Rattle.session.specs.End.{with_outcome, ended}
use Rattle.session.specs.Place.{step_of, insert_of}
use Rattle.session.specs.Way.{submit_way}
use Rattle.session.specs.Submit.{new_request, answer_of, session_after, ring_after, submitted, submitted_ring}
use Rattle.session.specs.Poll.{poll_way, polled_by, polled_ring_by, polled, polled_ring, recovered, recovered_ring}
use Rattle.session.specs.Reclaim.{is_found, reclaimed_ring}
use Rattle.laws.proofs.Calls.WellFormed.{WellFormed, facts, Call, Submit, Poll, Reclaim, Cancel, Reset, Recover}
use Rattle.session.proofs.Laws.Record.{Sound}
use Rattle.session.proofs.Laws.Admitted.{admitted, told_of}
use Rattle.session.proofs.Laws.Lists.{map_amend}
use Rattle.session.proofs.Laws.Ended.{packets, ended_packets}
use Rattle.session.proofs.Laws.Stores.{stores_some, first_stores_some}
use Rattle.laws.proofs.Calls.Settled.{number, slot}
use Rattle.laws.proofs.Calls.Drained.{drained_leaves, drained_none}
use Rattle.laws.proofs.Calls.Recovery.{recovered_picked}
use Rattle.session.proofs.Laws.Polls.{by_way}

-- ---- what the theorems speak of

-- a slot is cleared where its status word was not 0 and is
abbrev pub IsCleared : ℕ → List ℕ → List ℕ → Type 0
IsCleared at ring now = (get_or ring (2 * at) 0 ≢ 0) × (get_or now (2 * at) 0 ≡ 0)

-- the ways of a poll that do not end the session, and those that do not settle either
abbrev pub GoesOn : PollWay → Type 0
GoesOn Nothing = Unit
GoesOn (End o) = ⊥
GoesOn (Halt r) = Unit
GoesOn Wait = Unit
GoesOn (Settle bit) = Unit

abbrev pub IsStill : PollWay → Type 0
IsStill Nothing = Unit
IsStill (End o) = ⊥
IsStill (Halt r) = Unit
IsStill Wait = Unit
IsStill (Settle bit) = ⊥

-- r has the requests of s at their places, with the same numbers and packets, and may have completed more of the oldest
pub record InOrder (s r : IsoChannelState) : Type 0 where
  pub count : r.head.count ≡ s.head.count
  pub done : s.head.done ≤ r.head.done
  pub within : r.head.done ≤ r.head.count
  pub numbers : map number r.requests ≡ map number s.requests
  pub packets : map packets r.requests ≡ map packets s.requests

-- r is s with a request of so many packets behind the others, pending
pub record Behind (s : IsoChannelState) (lengths : List ℕ) (r : IsoChannelState) : Type 0 where
  pub count : r.head.count ≡ s.head.count + 1
  pub done : r.head.done ≡ s.head.done
  pub last : get_or r.requests s.head.count blank_request ≡ new_request s.head.next_request_id (length lengths)

-- the ring that a call is lent, the ring that it leaves, and when it may clear a slot
abbrev pub lent : Call → List ℕ
lent (Submit t lengths ring) = ring
lent (Poll e ring) = ring
lent (Reclaim id e ring results) = ring
lent (Cancel id) = []
lent Reset = []
lent (Recover ring) = ring

abbrev pub lent_after : Call → IsoChannelState → List ℕ
lent_after (Submit t lengths ring) s = submitted_ring s t lengths ring
lent_after (Poll e ring) s = polled_ring s e ring
lent_after (Reclaim id e ring results) s = reclaimed_ring s id e ring (length results)
lent_after (Cancel id) s = []
lent_after Reset s = []
lent_after (Recover ring) s = recovered_ring s ring

abbrev pub MayClear : Call → IsoChannelState → Type 0
MayClear (Submit t lengths ring) s = (submitted s t lengths ring).answer ≡ Err refusal.Unplugged
MayClear (Poll e ring) s = IsStill (poll_way s e) → ⊥
MayClear (Reclaim id e ring results) s = IsStill (poll_way s e) → ⊥
MayClear (Cancel id) s = ⊥
MayClear Reset s = ⊥
MayClear (Recover ring) s = Unit

-- ---- "nothing but opening, settling, session end, refusal 14 and recovery ever clears a slot"

submit_way_clears :
    (w : SubmitWay) (s : IsoChannelState) (t : IsoTransfer) (lengths ring : List ℕ) (at : ℕ) → IsCleared at ring (ring_after w s t lengths ring)
    → answer_of w s ≡ Err refusal.Unplugged
submit_way_clears way.Early s t lengths ring at c = refl
submit_way_clears way.Cut s t lengths ring at c =
    absurd (first_stores_some (slots s.cfg) (insert_of s t ring) (step_of s.cfg) t.words 0 t.base lengths ring at c.0 c.1)
submit_way_clears way.Late s t lengths ring at c = refl
submit_way_clears way.Accept s t lengths ring at c =
    absurd (stores_some (slots s.cfg) (insert_of s t ring) (step_of s.cfg) 0 t.base lengths ring at c.0 c.1)
submit_way_clears w s t lengths ring at c = absurd (c.0 c.1)

-- A submission that is not refused with 14, whole or cut, clears no slot.
pub submit_clears_none :
    (s : IsoChannelState) (t : IsoTransfer) (lengths ring : List ℕ) → (submitted s t lengths ring).answer ≢ Err refusal.Unplugged
    → (at : ℕ) → IsCleared at ring (submitted_ring s t lengths ring) → ⊥
submit_clears_none s t lengths ring h at c = h (submit_way_clears (submit_way s t lengths ring) s t lengths ring at c)

module _ (s : IsoChannelState) (e : Option IsoEvent) (ring : List ℕ) where
  -- A poll that neither ends the session nor settles leaves the ring as it is.
  pub poll_still : IsStill (poll_way s e) → polled_ring s e ring ≡ ring
  poll_still h = by_way s e ring (λ (r : IsoChannelState) (now : List ℕ). now ≡ ring) refl (go (poll_way s e) h)
    where
      go : (w : PollWay) → IsStill w → polled_ring_by w s ring ≡ ring
      go (End o) u = absurd u
      go (Settle bit) u = absurd u
      go w u = refl

  abbrev WordKept : ℕ → IsoChannelState → List ℕ → Type 0
  WordKept w r now = ((j : ℕ) → oldest_from s ≤ j → j < oldest_from r → slot (get_or s.plans j blank_plan) ≢ w / 2) → get_or now w 0 ≡ get_or ring w 0

  -- One that goes on leaves each word whose slot, half its index, is that of no plan of a request that it completed.
  pub poll_word :
      WellFormed s → GoesOn (poll_way s e) → (w : ℕ)
      → ((j : ℕ) → oldest_from s ≤ j → j < oldest_from (polled s e ring).session → slot (get_or s.plans j blank_plan) ≢ w / 2)
      → get_or (polled_ring s e ring) w 0 ≡ get_or ring w 0
  poll_word well h w = by_way s e ring (WordKept w) (λ apart. refl) (go (poll_way s e) h)
    where
      go : (p : PollWay) → GoesOn p → WordKept w (polled_by p s ring).session (polled_ring_by p s ring)
      go (End o) u apart = absurd u
      go (Settle bit) u apart = (drained_leaves bit s ring (facts s well)).word w apart
      go p u apart = refl

  -- A reclaim leaves the ring as it is, or as its poll leaves it.
  pub reclaim_ring :
      (id results : ℕ) → (reclaimed_ring s id e ring results ≡ ring) ⊎ (reclaimed_ring s id e ring results ≡ polled_ring s e ring)
  reclaim_ring id results = go (ltb (length ring) (ring_words s.cfg)) (ltb results 255) (is_bad_record s) (is_found id s)
    where
      by : List ℕ
      by = polled_ring_by (poll_way s e) s ring

      go :
          (a b c d : Bool) → (cond (a || b) ring (cond c ring (cond d ring by)) ≡ ring)
          ⊎ (cond (a || b) ring (cond c ring (cond d ring by)) ≡ cond a ring (cond c ring by))
      go true b c d = inl refl
      go false true c d = inl refl
      go false false true d = inl refl
      go false false false true = inl refl
      go false false false false = inr refl

-- The sentence itself: a call on a session that clears a slot is refused with 14, or its poll ends the session or settles, or it is recovery.
pub only_these_clear : (call : Call) (s : IsoChannelState) (at : ℕ) → IsCleared at (lent call) (lent_after call s) → MayClear call s
only_these_clear (Submit t lengths ring) s at c = submit_way_clears (submit_way s t lengths ring) s t lengths ring at c
only_these_clear (Poll e ring) s at c = λ still. c.0 (sym (ap (λ (now : List ℕ). get_or now (2 * at) 0) (poll_still s e ring still)) ∙ c.1)
only_these_clear (Reclaim id e ring results) s at c =
    ⊎_elim (λ same. absurd (c.0 (sym (ap (λ (now : List ℕ). get_or now (2 * at) 0) same) ∙ c.1)))
    (λ by still. c.0 (sym (ap (λ (now : List ℕ). get_or now (2 * at) 0) (by ∙ poll_still s e ring still)) ∙ c.1))
    (reclaim_ring s e ring id (length results))
only_these_clear (Cancel id) s at c = c.0 c.1
only_these_clear Reset s at c = c.0 c.1
only_these_clear (Recover ring) s at c = tt

-- ---- "a poll that settles nothing leaves the ring as it is"

-- The poll goes on, and as many are completed as before it.
pub poll_settles_none :
    (s : IsoChannelState) (e : Option IsoEvent) (ring : List ℕ) → WellFormed s → GoesOn (poll_way s e)
    → (polled s e ring).session.head.done ≡ s.head.done → polled_ring s e ring ≡ ring
poll_settles_none s e ring well h =
    by_way s e ring (λ (r : IsoChannelState) (now : List ℕ). r.head.done ≡ s.head.done → now ≡ ring) (λ same. refl) (go (poll_way s e) h)
  where
    go : (p : PollWay) → GoesOn p → (polled_by p s ring).session.head.done ≡ s.head.done → polled_ring_by p s ring ≡ ring
    go (End o) u same = absurd u
    go (Settle bit) u same = drained_none bit s ring (facts s well) same
    go p u same = refl

-- ---- "requests complete in order of submission"

pub order_same : (s : IsoChannelState) → Sound s → InOrder s s
order_same s g = record { count = refl; done = omega arith; within = g.done_in; numbers = refl; packets = refl }

pub ended_order : (o : IsoOutcome) (s : IsoChannelState) → Sound s → InOrder s (ended o s)
ended_order o s g =
    let same =
    map_amend number (with_outcome o) blank_request (λ r. refl) (s.head.count - s.head.done) s.head.done s.head.count s.requests
    (omega (arith, g.done_in)) (omega (arith, g.count_in, g.requests_long)) in
    record { count = refl; done = g.done_in; within = omega arith; numbers = same; packets = ended_packets o s g }

pub way_order : (p : PollWay) (s : IsoChannelState) (ring : List ℕ) → Sound s → InOrder s (polled_by p s ring).session
way_order (End o) s ring g = ended_order o s g
way_order (Settle bit) s ring g =
    let d = drained_leaves bit s ring g in
    record { count = d.count; done = d.done; within = omega (arith, d.count, d.within); numbers = d.numbers; packets = d.packets }
way_order p s ring g = record { count = refl; done = omega arith; within = g.done_in; numbers = refl; packets = refl }

-- A poll leaves every request at its place; those completed are the first ones, before it and after it.
pub poll_order : (s : IsoChannelState) (e : Option IsoEvent) (ring : List ℕ) → WellFormed s → InOrder s (polled s e ring).session
poll_order s e ring well =
    by_way s e ring (λ (r : IsoChannelState) (now : List ℕ). InOrder s r) (order_same s (facts s well)) (way_order (poll_way s e) s ring (facts s well))

-- Those that a poll leaves pending are as they were: it settles the oldest ones and touches no other.
pub poll_pending :
    (s : IsoChannelState) (e : Option IsoEvent) (ring : List ℕ) → WellFormed s → GoesOn (poll_way s e) → (i : ℕ)
    → (polled s e ring).session.head.done ≤ i → get_or (polled s e ring).session.requests i blank_request ≡ get_or s.requests i blank_request
poll_pending s e ring well h i = by_way s e ring (λ (r : IsoChannelState) (now : List ℕ). AsItWas r) (λ u. refl) (go (poll_way s e) h)
  where
    AsItWas : IsoChannelState → Type 0
    AsItWas r = r.head.done ≤ i → get_or r.requests i blank_request ≡ get_or s.requests i blank_request

    go : (p : PollWay) → GoesOn p → AsItWas (polled_by p s ring).session
    go (End o) u = absurd u
    go (Settle bit) u = (drained_leaves bit s ring (facts s well)).later i
    go p u = λ v. refl

-- Recovery leaves every request at its place too, and completes all.
pub recover_order : (s : IsoChannelState) (words : ℕ) → WellFormed s → InOrder s (recovered s words).session
recover_order s words well = recovered_picked (InOrder s) s words (order_same s (facts s well)) (ended_order outcome.Disconnected s (facts s well))

-- A submission changes no request in use, whatever it answers.
pub submit_order :
    (s : IsoChannelState) (t : IsoTransfer) (lengths ring : List ℕ) (i : ℕ) → i < s.head.count
    → get_or (submitted s t lengths ring).session.requests i blank_request ≡ get_or s.requests i blank_request
submit_order s t lengths ring i h = go (submit_way s t lengths ring)
  where
    go : (w : SubmitWay) → get_or (session_after w s t lengths ring).requests i blank_request ≡ get_or s.requests i blank_request
    go way.Accept = get_or-set_other s.requests s.head.count i (new_request s.head.next_request_id (length lengths)) blank_request (omega arith)
    go w = refl

-- Accepted, it puts its request behind them, pending.
pub submit_behind :
    (s : IsoChannelState) (t : IsoTransfer) (lengths ring : List ℕ) → WellFormed s → submit_way s t lengths ring ≡ way.Accept
    → Behind s lengths (submitted s t lengths ring).session
submit_behind s t lengths ring well h =
    let new = new_request s.head.next_request_id (length lengths) in
    let room = admitted s t lengths ring (told_of s t lengths ring way.Accept h).0 in
    subst⁻¹ (λ (w : SubmitWay). Behind s lengths (session_after w s t lengths ring)) h
    (record {
      count = refl;
      done = refl;
      last = get_or-set_same s.requests s.head.count new blank_request (omega (arith, well.requests, room.entry.requests));
    })
