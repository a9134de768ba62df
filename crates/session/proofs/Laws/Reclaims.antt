-- Reclaiming: what looking, looking again and the whole call answer at each exit; and that a sound record stays sound through the call.
use mathlib.Core.Path.{◌≡◌, ◌∙◌, sym, ap}
use mathlib.Core.Bool.{Bool, true, false, cond}
use mathlib.Core.List.{List}
use Prim.Native.Nat.{ℕ, ◌≤◌, ◌<◌}
use Rattle.std.specs.Prelude.{Option, Some, None, Result, Ok, Err}
use lib.Dec.{ltb}
use lib.ListN.{length}
use borrow.Author.Tests.{ltb-true}
use Rattle.session.specs.declared.types.IsoChannelState.{IsoChannelState}
use Rattle.session.specs.declared.reply.IsoEvent.{IsoEvent}
use Rattle.session.specs.declared.reply.IsoReply.{IsoReply}
use Rattle.session.specs.declared.reply.PollWay.{PollWay}
use Rattle.session.specs.declared.reply.IsoCompletion.{IsoCompletion}
use Rattle.session.specs.declared.refusal.IsoRefusal.{IsoRefusal}
use Rattle.session.specs.declared.refusal.IsoRefusal.TheVariants as refusal
use Rattle.session.specs.declared.reply.Reclaimed.{Reclaimed}
use Rattle.session.specs.Record.{is_bad_record}
use Rattle.session.specs.Poll.{reply, poll_way, polled_by, polled_ring_by}
use Rattle.session.specs.Cancel.{request_at}
use Rattle.session.specs.Reclaim.{is_found, looked_at, looked_ring_at, looked_again_at, looked_results_at, looked, looked_ring, request_of, removed, handed_answer, handed_results, reclaim_reply, looked_again, looked_results, is_short, reclaimed, reclaimed_ring, reclaimed_results}
use Rattle.session.proofs.Laws.Ended.{picked}
use Rattle.session.proofs.Laws.Polled.{polled_sound}
use Rattle.session.proofs.Laws.Polls.{polled_by_lem, polled_ring_by_lem}
use Rattle.session.proofs.Laws.Record.{Sound}
use Rattle.session.proofs.Laws.Removed.{removed_sound}
use Rattle.session.proofs.Laws.Tests.{below, not_below, first, second, in_turn, chosen}

abbrev Answer : Type 0
Answer = Result (Option IsoCompletion) IsoRefusal

-- completed, or not, by the place `n` of the request, which the code found as `at`
module _ (s : IsoChannelState) {at n : ℕ} (place : at ≡ n) where
  found : at < s.head.done → ltb n s.head.done ≡ true
  found h = below s.head.done place h

  not_found : s.head.done ≤ at → ltb n s.head.done ≡ false
  not_found h = not_below s.head.done place h

  -- ---- looking

  abbrev stands : IsoReply
  stands = reply (Ok tt) false false s

  pub looked_found :
      (e : Option IsoEvent) (ring : List ℕ) {r : IsoReply} → at < s.head.done → r ≡ stands → (r ≡ looked_at n e s ring) × (ring ≡ looked_ring_at n e s ring)
  looked_found e ring h p =
      let way = poll_way s e in (
        p ∙ sym (first (ltb n s.head.done) stands (polled_by way s ring) (found h)),
        sym (first (ltb n s.head.done) ring (polled_ring_by way s ring) (found h)),
      )

  pub looked_polled :
      (e : Option IsoEvent) (ring : List ℕ) {w : PollWay} {r : IsoReply} {words : List ℕ} → s.head.done ≤ at → w ≡ poll_way s e
      → r ≡ polled_by w s ring → words ≡ polled_ring_by w s ring → (r ≡ looked_at n e s ring) × (words ≡ looked_ring_at n e s ring)
  looked_polled e ring h by p q = (
    polled_by_lem s ring (sym by) p ∙ sym (second (ltb n s.head.done) stands (polled_by (poll_way s e) s ring) (not_found h)),
    polled_ring_by_lem s ring (sym by) q ∙ sym (second (ltb n s.head.done) ring (polled_ring_by (poll_way s e) s ring) (not_found h)),
  )

  -- ---- looking again

  module _ (taken halt : Bool) (results : List ℕ) where
    abbrev out : Reclaimed
    out = reclaim_reply (Ok (Some (handed_answer (request_of (n) s)))) taken halt (removed (n) s)

    abbrev within : Bool
    within = ltb (n) s.head.count

    abbrev stays : Answer → Reclaimed
    stays a = reclaim_reply a taken halt s

    abbrev handed : List ℕ
    handed = handed_results (n) s results

    pub again_found :
        {r : Reclaimed} {a : IsoCompletion} {t : IsoChannelState} {words : List ℕ} → at < s.head.done → a ≡ handed_answer (request_of at s) → t ≡ removed at s
        → r ≡ reclaim_reply (Ok (Some a)) taken halt t → words ≡ handed_results at s results
        → (r ≡ looked_again_at n taken halt s) × (words ≡ looked_results_at n s results)
    again_found {r} {a} {t} h f g p q = (
      p
          ∙ ap (λ (x : IsoCompletion). reclaim_reply (Ok (Some x)) taken halt t) (f ∙ ap (λ (k : ℕ). handed_answer (request_of k s)) place)
          ∙ ap (reclaim_reply (Ok (Some (handed_answer (request_of (n) s)))) taken halt) (g ∙ ap (λ (k : ℕ). removed k s) place)
          ∙ sym (first (ltb n s.head.done) out (stays (cond within (Ok None) (Err refusal.UnknownRequest))) (found h)),
      q ∙ ap (λ (k : ℕ). handed_results k s results) place ∙ sym (first (ltb n s.head.done) handed results (found h)),
    )

    again_left :
        {r : Reclaimed} (a : Answer) → s.head.done ≤ at → cond within (Ok None) (Err refusal.UnknownRequest) ≡ a → r ≡ stays a
        → (r ≡ looked_again_at n taken halt s) × (results ≡ looked_results_at n s results)
    again_left a h e p = (
      p ∙ ap stays (sym e) ∙ sym (second (ltb n s.head.done) out (stays (cond within (Ok None) (Err refusal.UnknownRequest))) (not_found h)),
      sym (second (ltb n s.head.done) handed results (not_found h)),
    )

    pub again_pending :
        {r : Reclaimed} → s.head.done ≤ at → at < s.head.count → r ≡ stays (Ok None)
        → (r ≡ looked_again_at n taken halt s) × (results ≡ looked_results_at n s results)
    again_pending h k p =
        let known : within ≡ true = below s.head.count place k in
        again_left (Ok None) h (first within (Ok None) (Err refusal.UnknownRequest) known) p

    pub again_unknown :
        {r : Reclaimed} → s.head.done ≤ at → s.head.count ≤ at → r ≡ stays (Err refusal.UnknownRequest)
        → (r ≡ looked_again_at n taken halt s) × (results ≡ looked_results_at n s results)
    again_unknown h k p =
        let unknown : within ≡ false = not_below s.head.count place k in
        again_left (Err refusal.UnknownRequest) h (second within (Ok None) (Err refusal.UnknownRequest) unknown) p

-- ---- the whole call

module _ (s : IsoChannelState) (id : ℕ) (e : Option IsoEvent) (ring results : List ℕ) where
  abbrev refused : IsoRefusal → Reclaimed
  refused r = reclaim_reply (Err r) false false s

  abbrev short : Bool
  short = is_short s (length ring) (length results)

  abbrev Told : Reclaimed → List ℕ → List ℕ → Type 0
  Told r words after =
      (r ≡ reclaimed s id e ring (length results))
      × (words ≡ reclaimed_ring s id e ring (length results))
      × (after ≡ reclaimed_results s id e ring results)

  -- the answer after looking again
  abbrev again : Reclaimed
  again = looked_again id (looked id e s ring).taken (looked id e s ring).halt (looked id e s ring).session

  abbrev after_again : List ℕ
  after_again = looked_results id (looked id e s ring).session results

  pub reclaim_short : {r : Reclaimed} → short ≡ true → r ≡ refused refusal.ShortBuffer → Told r ring results
  reclaim_short h p = (
    p ∙ sym (first short (refused refusal.ShortBuffer) (cond (is_bad_record s) (refused refusal.BadRecord) again) h),
    sym (first short ring (cond (is_bad_record s) ring (looked_ring id e s ring)) h),
    sym (first short results (cond (is_bad_record s) results after_again) h),
  )

  pub reclaim_bad : {r : Reclaimed} → short ≡ false → is_bad_record s ≡ true → r ≡ refused refusal.BadRecord → Told r ring results
  reclaim_bad h b p = (
    p ∙ sym (in_turn (refused refusal.ShortBuffer) (refused refusal.BadRecord) again h b),
    sym (in_turn ring ring (looked_ring id e s ring) h b),
    sym (in_turn results results after_again h b),
  )

  pub reclaim_done :
      {r : Reclaimed} {first-look : IsoReply} {words after : List ℕ} → short ≡ false → is_bad_record s ≡ false → first-look ≡ looked id e s ring
      → r ≡ looked_again id first-look.taken first-look.halt first-look.session → words ≡ looked_ring id e s ring
      → after ≡ looked_results id first-look.session results → Told r words after
  reclaim_done h b l p q u = (
    p
        ∙ ap (λ (x : IsoReply). looked_again id x.taken x.halt x.session) l
        ∙ sym (in_turn (refused refusal.ShortBuffer) (refused refusal.BadRecord) again h b),
    q ∙ sym (in_turn ring ring (looked_ring id e s ring) h b),
    u ∙ ap (λ (x : IsoReply). looked_results id x.session results) l ∙ sym (in_turn results results after_again h b),
  )

-- ---- a sound record stays sound

pub looked_sound : (id : ℕ) (e : Option IsoEvent) (s : IsoChannelState) (ring : List ℕ) → Sound s → Sound (looked id e s ring).session
looked_sound id e s ring g =
    picked Sound (is_found id s) (reply (Ok tt) false false s) (polled_by (poll_way s e) s ring) (λ f. g) (λ f. polled_sound s e ring g)

picked_sound : (b : Bool) (x y : Reclaimed) → (b ≡ true → Sound x.session) → (b ≡ false → Sound y.session) → Sound (cond b x y).session
picked_sound = chosen (λ (x : Reclaimed). Sound x.session)

pub again_sound : (id : ℕ) (taken halt : Bool) (s : IsoChannelState) → Sound s → Sound (looked_again id taken halt s).session
again_sound id taken halt s g =
    let at : ℕ = request_at id s in
    picked_sound (is_found id s) (reclaim_reply (Ok (Some (handed_answer (request_of at s)))) taken halt (removed at s))
    (reclaim_reply (cond (ltb at s.head.count) (Ok None) (Err refusal.UnknownRequest)) taken halt s)
    (λ f. removed_sound at s g (ltb-true at s.head.done f)) (λ f. g)

pub reclaimed_sound :
    (s : IsoChannelState) (id : ℕ) (e : Option IsoEvent) (ring : List ℕ) (results : ℕ) → Sound s → Sound (reclaimed s id e ring results).session
reclaimed_sound s id e ring results g =
    let l = looked id e s ring in
    let again = looked_again id l.taken l.halt l.session in
    let bad = reclaim_reply (Err refusal.BadRecord) false false s in
    picked_sound (is_short s (length ring) results) (reclaim_reply (Err refusal.ShortBuffer) false false s) (cond (is_bad_record s) bad again) (λ h. g)
    (λ h. picked_sound (is_bad_record s) bad again (λ b. g) (λ b. again_sound id l.taken l.halt l.session (looked_sound id e s ring g)))
