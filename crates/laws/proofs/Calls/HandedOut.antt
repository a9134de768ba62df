-- Reclaim hands out each completed request once and frees exactly its packets; the other results are as they were, in order. Each is a fact of the session's
-- definitions, and so, by the promise of `reclaim`, of the call.
use mathlib.Core.Path.{◌≡◌, ◌∙◌, sym, ap, subst}
use mathlib.Core.Bool.{Bool, true, false, cond}
use mathlib.Core.List.{List, ◌++◌}
use mathlib.Core.Logic.{◌⊎◌, inl, inr}
use Prim.Native.Nat.{ℕ, ◌+◌, ◌-◌, ◌≤◌, ◌<◌}
use Rattle.std.specs.Prelude.{Option, Some, None, Result, Ok, Err}
use native.Mathlib.Omega.{arith}
use lib.Dec.{ltb}
use lib.ListN.{length}
use lib.Seq.{slice}
use borrow.Author.Tests.{ltb-true, le-ltb}
use Rattle.session.specs.declared.types.IsoChannelState.{IsoChannelState}
use Rattle.session.specs.declared.reply.IsoEvent.{IsoEvent}
use Rattle.session.specs.declared.reply.IsoCompletion.{IsoCompletion}
use Rattle.session.specs.declared.reply.Reclaimed.{Reclaimed}
use Rattle.session.specs.declared.refusal.IsoRefusal.{IsoRefusal}
use Rattle.session.specs.declared.refusal.IsoRefusal.TheVariants as refusal
use Rattle.session.specs.Session.{ring_words, packets_of, all_packets, pending_requests}
use Rattle.session.specs.Record.{is_bad_record}
use Rattle.session.specs.Settle.{oldest_from}
use Rattle.session.specs.Way.{pending_plans}
use Rattle.session.specs.Poll.{reply, poll_way, polled_by}
use Rattle.session.specs.Cancel.{request_at}
use Rattle.session.specs.Reclaim.{is_found, looked, request_of, plans_begin, plans_end, removed, handed_answer, reclaim_reply, looked_again, is_short, reclaimed}
use Rattle.laws.proofs.Calls.WellFormed.{WellFormed, facts}
use Rattle.laws.proofs.Calls.Results.{ResultsKept, results_same, way_results}
use Rattle.laws.proofs.Calls.Course.{InOrder, order_same, way_order}
use Rattle.session.proofs.Laws.Record.{Sound, not_bad}
use Rattle.session.proofs.Laws.Ended.{packets_kept, picked}
use Rattle.laws.proofs.Calls.Places.{NumbersDiffer, differ_kept, place_kept, number_at, place_gone}
use Rattle.session.proofs.Laws.Reclaims.{looked_sound, reclaimed_sound}
use Rattle.session.proofs.Laws.Removed.{removed_completed, removed_completed_plans, removed_pending, removed_packets}
use Rattle.session.proofs.Laws.Tests.{chosen, second, in_turn, none}

-- ---- what the theorems speak of

-- r is s without the completed request at a place: the other completed requests and their plans in order, those pending as they were, and as many
-- packets fewer as it had
pub record Without (at : ℕ) (s r : IsoChannelState) : Type 0 where
  pub place : at < s.head.done
  pub count : r.head.count + 1 ≡ s.head.count
  pub done : r.head.done + 1 ≡ s.head.done
  pub requests : slice 0 r.head.done r.requests ≡ slice 0 at s.requests ++ slice (at + 1) s.head.done s.requests
  pub plans : slice 0 (oldest_from r) r.plans ≡ slice 0 (plans_begin at s) s.plans ++ slice (plans_end at s) (oldest_from s) s.plans
  pub pending : (pending_requests r ≡ pending_requests s) × (pending_plans r ≡ pending_plans s)
  pub packets : all_packets r + (request_of at s).packets ≡ all_packets s

-- r is l without the request of that number, whose outcome, length and packets are those answered
pub record HandedOut (id : ℕ) (l : IsoChannelState) (c : IsoCompletion) (r : IsoChannelState) : Type 0 where
  pub without : Without (request_at id l) l r
  pub number : (request_of (request_at id l) l).id ≡ id
  pub answer : c ≡ handed_answer (request_of (request_at id l) l)

-- ---- what they lean on

without : (at : ℕ) (s : IsoChannelState) → Sound s → at < s.head.done → Without at s (removed at s)
without at s g h =
    record {
      place = h;
      count = omega (arith, g.done_in);
      done = omega arith;
      requests = removed_completed at s g h;
      plans = removed_completed_plans at s g h;
      pending = removed_pending at s g h;
      packets = removed_packets at s g h;
    }

looked_results_lem : (id : ℕ) (e : Option IsoEvent) (s : IsoChannelState) (ring : List ℕ) → Sound s → ResultsKept s (looked id e s ring).session
looked_results_lem id e s ring g =
    picked (ResultsKept s) (is_found id s) (reply (Ok tt) false false s) (polled_by (poll_way s e) s ring) (λ f. results_same s)
    (λ f. way_results (poll_way s e) s ring g)

looked_order : (id : ℕ) (e : Option IsoEvent) (s : IsoChannelState) (ring : List ℕ) → Sound s → InOrder s (looked id e s ring).session
looked_order id e s ring g =
    picked (InOrder s) (is_found id s) (reply (Ok tt) false false s) (polled_by (poll_way s e) s ring) (λ f. order_same s g)
    (λ f. way_order (poll_way s e) s ring g)

-- "not yet" and 15 hand nothing out
abbrev left : Bool → Result (Option IsoCompletion) IsoRefusal
left pending = cond pending (Ok None) (Err refusal.UnknownRequest)

none_handed : (b : Bool) (c : IsoCompletion) → left b ≡ Ok (Some c) → ⊥
none_handed true c e = cc
none_handed false c e = cc

-- a number that is at no place is refused with 15, whatever the poll does
unknown :
    (s : IsoChannelState) (id : ℕ) (e : Option IsoEvent) (ring : List ℕ) (results : ℕ) → Sound s → request_at id s ≡ s.head.count
    → ring_words s.cfg ≤ length ring → 255 ≤ results → (reclaimed s id e ring results).answer ≡ Err refusal.UnknownRequest
unknown s id e ring results g gone long wide =
    let k = looked id e s ring in
    let l = k.session in
    let at : ℕ = request_at id l in
    let order = looked_order id e s ring g in
    let none_at : at ≡ l.head.count = place_kept s l order.count order.numbers id ∙ gone ∙ sym order.count in
    let enough : is_short s (length ring) results ≡ false = none (le-ltb (length ring) (ring_words s.cfg) long) (le-ltb results 255 wide) in
    let out = reclaim_reply (Ok (Some (handed_answer (request_of at l)))) k.taken k.halt (removed at l) in
    let stays : Result (Option IsoCompletion) IsoRefusal → Reclaimed = λ a. reclaim_reply a k.taken k.halt l in
    let within : ℕ = l.head.count in
    let first-refusal = reclaim_reply (Err refusal.ShortBuffer) false false s in
    let bad = reclaim_reply (Err refusal.BadRecord) false false s in
    ap (λ (x : Reclaimed). x.answer)
    (in_turn first-refusal bad (looked_again id k.taken k.halt l) enough (not_bad s g)
    ∙ second (is_found id l) out (stays (left (ltb at within)))
    (le-ltb at l.head.done (omega (arith, none_at, order.within)))
    ∙ ap stays (second (ltb at within) (Ok None) (Err refusal.UnknownRequest) (le-ltb at within (omega (arith, none_at)))))

module _ (s : IsoChannelState) (id : ℕ) (e : Option IsoEvent) (ring : List ℕ) (results : ℕ) (well : WellFormed s) where
  -- the session after the first look and its poll, the place of the number in it, and the session after the call
  abbrev l : IsoChannelState
  l = (looked id e s ring).session

  abbrev at : ℕ
  at = request_at id l

  abbrev r : IsoChannelState
  r = (reclaimed s id e ring results).session

  l_sound : Sound l
  l_sound = looked_sound id e s ring (facts s well)

  -- what holds where the call is refused at first, where the number is found and where it is not
  by_look :
      (P : Reclaimed → Type 0) → ((q : IsoRefusal) → P (reclaim_reply (Err q) false false s))
      → (at < l.head.done → P (reclaim_reply (Ok (Some (handed_answer (request_of at l)))) (looked id e s ring).taken (looked id e s ring).halt (removed at l)))
      → ((b : Bool) → P (reclaim_reply (left b) (looked id e s ring).taken (looked id e s ring).halt l))
      → P (reclaimed s id e ring results)
  by_look P refused found stayed =
      let taken = (looked id e s ring).taken in
      let halt = (looked id e s ring).halt in
      let again = looked_again id taken halt l in
      let out = reclaim_reply (Ok (Some (handed_answer (request_of at l)))) taken halt (removed at l) in
      let stays = reclaim_reply (left (ltb at l.head.count)) taken halt l in
      let bad = reclaim_reply (Err refusal.BadRecord) false false s in
      chosen P (is_short s (length ring) results) (reclaim_reply (Err refusal.ShortBuffer) false false s) (cond (is_bad_record s) bad again)
      (λ h. refused refusal.ShortBuffer)
      (λ h. chosen P (is_bad_record s) bad again (λ b. refused refusal.BadRecord)
      (λ b. chosen P (is_found id l) out stays (λ f. found (ltb-true at l.head.done f)) (λ f. stayed (ltb at l.head.count))))

  -- Reclaim changes none that it leaves: it hands one out, or leaves all of them.
  pub reclaim_results : ResultsKept s r ⊎ (ResultsKept s l × Without at l r)
  reclaim_results =
      let kept = looked_results_lem id e s ring (facts s well) in
      by_look (λ (x : Reclaimed). ResultsKept s x.session ⊎ (ResultsKept s l × Without at l x.session)) (λ n. inl (results_same s))
      (λ h. inr (kept, without at l l_sound h)) (λ b. inl kept)

  -- ---- "reclaim hands out each completed request once and frees exactly its packets"

  -- The one that it hands out had the number, and the session is without it.
  pub reclaim_hands_out :
      (c : IsoCompletion) → (reclaimed s id e ring results).answer ≡ Ok (Some c) → HandedOut id l c r
  reclaim_hands_out c =
      by_look (λ (x : Reclaimed). x.answer ≡ Ok (Some c) → HandedOut id l c x.session)
      (λ q u. cc)
      (λ h u. record { without = without at l l_sound h; number = number_at l l_sound id (omega (arith, l_sound.done_in)); answer = cc })
      (λ b u. absurd (none_handed b c u))

  module _ (c : IsoCompletion) (completed : (reclaimed s id e ring results).answer ≡ Ok (Some c)) where
    out : HandedOut id l c r
    out = reclaim_hands_out c completed

    order : InOrder s l
    order = looked_order id e s ring (facts s well)

    -- There is one request less, and its packets are free again.
    pub reclaim_fewer : r.head.count + 1 ≡ s.head.count
    reclaim_fewer = out.without.count ∙ order.count

    pub reclaim_frees : all_packets r + c.packets ≡ all_packets s
    reclaim_frees =
        let its : c.packets ≡ (request_of at l).packets = ap (λ (x : IsoCompletion). x.packets) out.answer in
        let all : all_packets l ≡ all_packets s =
        packets_kept s.requests l.requests order.packets 0 l.head.count ∙ ap (λ (k : ℕ). packets_of (slice 0 k s.requests)) order.count in
        ap (λ (k : ℕ). all_packets r + k) its ∙ out.without.packets ∙ all

    abbrev IsGone : Reclaimed → Type 0
    IsGone x = x.answer ≡ Ok (Some c) → request_at id x.session ≡ x.session.head.count

    -- Where the numbers in use differ, its number is at no place any more: neither completed nor pending.
    pub reclaim_gone : NumbersDiffer s → request_at id r ≡ r.head.count
    reclaim_gone differ =
        by_look IsGone (λ q u. cc)
        (λ h u. subst (λ (k : ℕ). request_at k (removed at l) ≡ l.head.count - 1) (number_at l l_sound id (omega (arith, l_sound.done_in)))
        (place_gone l l_sound at h (differ_kept s l order.count order.numbers differ)))
        (λ b u. absurd (none_handed b c u))
        completed

    r_sound : Sound r
    r_sound = reclaimed_sound s id e ring results (facts s well)

    pub reclaim_not_found : NumbersDiffer s → is_found id r ≡ false
    reclaim_not_found differ = le-ltb (request_at id r) r.head.done (omega (arith, reclaim_gone differ, r_sound.done_in))

    -- So reclaiming it again answers 15, whatever the event and the ring: the poll changes no number.
    pub reclaim_once :
        NumbersDiffer s → (later : Option IsoEvent) (words : List ℕ) (room : ℕ) → ring_words r.cfg ≤ length words → 255 ≤ room
        → (reclaimed r id later words room).answer ≡ Err refusal.UnknownRequest
    reclaim_once differ later words room long wide = unknown r id later words room r_sound (reclaim_gone differ) long wide
