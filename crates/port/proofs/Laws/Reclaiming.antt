-- Reclaiming in place: the answer, the bytes and the lent words at each exit, where the code looked, and looked again at what that left.
use Rattle.std.proofs.Common.{Option, Some, None, Result, Ok, Err, ◌≡◌, ℕ, ◌+◌, ◌≤◌, Bool, true, false, cond, ◌||◌, ltb, ltb-false, List, length, get_or, sym, refl, ap, ◌∙◌, subst, ap₂}
use mathlib.Core.Path.{subst⁻¹}
use Rattle.words.proofs.Laws.Tests.{neither}
use lib.Seq.{slice}
use Rattle.session.specs.declared.types.IsoConfig.{IsoConfig}
use Rattle.session.specs.declared.types.IsoHead.{IsoHead}
use Rattle.session.specs.declared.types.IsoChannelState.{IsoChannelState}
use Rattle.session.specs.declared.reply.IsoEvent.{IsoEvent}
use Rattle.session.specs.declared.reply.IsoReply.{IsoReply}
use Rattle.session.specs.declared.refusal.IsoRefusal.{IsoRefusal}
use Rattle.session.specs.declared.refusal.IsoRefusal.TheVariants.{UnknownRequest}
use Rattle.session.specs.declared.reply.IsoCompletion.{IsoCompletion}
use Rattle.session.specs.Numbers.{refusal_number}
use Rattle.session.specs.declared.reply.Reclaimed.{Reclaimed}
use Rattle.session.specs.Session.{blank_request, ring_words, all_packets}
use Rattle.session.specs.Record.{is_bad_record}
use Rattle.session.specs.Cancel.{place_of, request_at}
use Rattle.session.specs.Settle.{settled_session, settled_ring}
use Rattle.session.specs.Poll.{reply, poll_way, polled_by, polled_ring_by}
use Rattle.session.specs.Reclaim.{looked_at, looked_ring_at, looked, looked_ring, request_of, removed, handed_answer, handed_results, reclaim_reply, looked_again_at, looked_results_at, looked_again, looked_results, is_short, reclaimed, reclaimed_ring, reclaimed_results}
use Rattle.session.proofs.Laws.Record.{Sound, not_bad}
use Rattle.session.proofs.Laws.Reclaims.{reclaim_done, looked_sound}
use Rattle.port.specs.declared.answers.PortReclaimed.{PortReclaimed}
use Rattle.port.specs.declared.poll.PollSaid.{PollSaid}
use Rattle.port.specs.Tags.{flag_tag}
use Rattle.port.specs.Layout.{config_of, head_of, layout_number, session_of}
use Rattle.port.specs.Calls.{reclaim_port, reclaim_refused, reclaimed_port}
use Rattle.port.specs.Places.{Acted, Left}
use Rattle.port.specs.First.{FirstOnly}
use Rattle.port.proofs.Laws.Calls.{long_enough}
use Rattle.port.proofs.Laws.InUse.{InUse, kept_layout, looked_in_use, same_place}
use Rattle.port.proofs.Laws.Left.{left_is, left_over}
use Rattle.port.proofs.Laws.Placed.{config_there, head_there}

-- ---- what the code reads

module _ (xs : List ℕ) where
  -- where the request with the number stands
  pub place_there :
      (id : ℕ) {h : IsoHead} {at : ℕ} → h ≡ head_of xs → at ≡ place_of id (slice 0 h.count (session_of xs).requests) → at ≡ request_at id (session_of xs)
  place_there id eh e = e ∙ ap (λ (h : IsoHead). place_of id (slice 0 h.count (session_of xs).requests)) (eh ∙ head_there xs)

  module _ (ring results : List ℕ) where
    -- the test of the lent arrays
    pub short_there :
        {cfg : IsoConfig} {words : ℕ} → cfg ≡ config_of xs → words ≡ ring_words cfg
        → is_short (session_of xs) (length ring) (length results) ≡ (ltb (length ring) words || ltb (length results) 255)
    short_there ec ew = ap (λ (n : ℕ). ltb (length ring) n || ltb (length results) 255) (sym (ew ∙ ap ring_words (ec ∙ config_there xs)))

    pub long_results : is_short (session_of xs) (length ring) (length results) ≡ false → 255 ≤ length results
    long_results e =
        ltb-false (length results) 255 (neither (ltb (length ring) (ring_words (session_of xs).cfg)) (ltb (length results) 255) e).1

-- ---- what is left

module _ (xs ring results : List ℕ) (id : ℕ) (e : Option IsoEvent) where
  abbrev s : IsoChannelState
  s = session_of xs

  -- what the whole call promises, of an answer, the bytes and the words afterwards
  abbrev Told : PortReclaimed → List ℕ → List ℕ → List ℕ → Type 0
  Told p ys words after =
      (p ≡ reclaimed_port (reclaimed s id e ring (length results)))
      × Left xs ys (reclaimed s id e ring (length results)).session
      × (words ≡ reclaimed_ring s id e ring (length results))
      × (after ≡ reclaimed_results s id e ring results)

  pub refused_in_place :
      {r : IsoRefusal} {p : PortReclaimed} → Left xs xs s → p ≡ reclaim_refused (refusal_number r)
      → (reclaim_reply (Err r) false false s ≡ reclaimed s id e ring (length results))
      × (ring ≡ reclaimed_ring s id e ring (length results))
      × (results ≡ reclaimed_results s id e ring results)
      → Told p xs ring results
  refused_in_place same ep told = (
    ep ∙ ap reclaimed_port told.0,
    left_is same (ap (λ (r : Reclaimed). r.session) told.0),
    told.1,
    told.2,
  )

  -- the code looks by the request's place
  module _ (z : layout_number xs ≡ 0) (g : Sound s) {at : ℕ} (place : at ≡ request_at id s) {look : PollSaid} {b : List ℕ}
      (acts : Acted xs b look (looked_at at e s ring)) where
    abbrev t : IsoChannelState
    t = (looked id e s ring).session

    act : Acted xs b look (looked id e s ring)
    act = subst (λ (n : ℕ). Acted xs b look (looked_at n e s ring)) place acts

    pub looked_layout : layout_number b ≡ 0
    looked_layout = kept_layout xs z g (looked_in_use id e s ring g) act.bytes

    pub looked_good : is_bad_record (session_of b) ≡ false
    looked_good = not_bad (session_of b) (subst⁻¹ Sound act.bytes.holds (looked_sound id e s ring g))

    pub looked_all : all_packets (session_of b) ≡ all_packets s
    looked_all = ap all_packets act.bytes.holds ∙ (looked_in_use id e s ring g).packets

    -- where it still stands afterwards
    still : at ≡ request_at id (session_of b)
    still = place ∙ sym (ap (request_at id) act.bytes.holds ∙ same_place id s t (looked_in_use id e s ring g))

    pub done_in_place :
        {a : Result (Option IsoCompletion) IsoRefusal} {c words after : List ℕ} {p : PortReclaimed} → is_short s (length ring) (length results) ≡ false → is_bad_record s ≡ false
        → words ≡ looked_ring_at at e s ring
        → ((taken halt : Bool) → reclaim_reply a taken halt (session_of c) ≡ looked_again_at at taken halt (session_of b))
        → Left b c (session_of c)
        → after ≡ looked_results_at at (session_of b) results
        → p ≡ reclaim_port a (flag_tag look.taken) (flag_tag look.halt)
        → Told p c words after
    done_in_place {a} {c} h k ew again ec ea ep =
        let x : IsoReply = looked id e s ring in
        let r : reclaim_reply a look.taken look.halt (session_of c) ≡ looked_again id x.taken x.halt x.session =
        again look.taken look.halt
        ∙ ap (λ (n : ℕ). looked_again_at n look.taken look.halt (session_of b)) still
        ∙ ap (looked_again id look.taken look.halt) act.bytes.holds
        ∙ ap (λ (y : Bool). looked_again id y look.halt t) act.taken
        ∙ ap (λ (y : Bool). looked_again id x.taken y t) act.halt in
        let told =
        reclaim_done s id e ring results {first-look = x} h k refl r (ew ∙ ap (λ (n : ℕ). looked_ring_at n e s ring) place)
        (ea ∙ ap (λ (n : ℕ). looked_results_at n (session_of b) results) still ∙ ap (λ (u : IsoChannelState). looked_results id u results) act.bytes.holds) in (
          ep ∙ ap reclaimed_port told.0,
          left_is (left_over (long_enough xs refl z) act.bytes ec) (ap (λ (y : Reclaimed). y.session) told.0),
          told.1,
          told.2,
        )

  -- the first request, settled and handed out in one
  pub first_in_place :
      {c words after : List ℕ} {p : PortReclaimed} → Sound s → is_short s (length ring) (length results) ≡ false → is_bad_record s ≡ false
      → 0 ≡ request_at id s
      → FirstOnly s e ring
      → p ≡ reclaim_port (Ok (Some (handed_answer (get_or (settled_session s ring).requests 0 blank_request)))) 1 0
      → Left xs c (removed 0 (settled_session s ring))
      → words ≡ settled_ring s ring
      → after ≡ handed_results 0 (settled_session s ring) results
      → Told p c words after
  first_in_place {c} g h k place f ep ec ew ea =
      let t : IsoChannelState = settled_session s ring in
      let x : IsoReply = reply (Ok tt) true false t in
      let off : ltb (request_at id s) s.head.done ≡ false = ap₂ ltb (sym place) f.none_done in
      let look : x ≡ looked id e s ring =
      sym f.polled ∙ sym (ap (λ (b : Bool). cond b (reply (Ok tt) false false s) (polled_by (poll_way s e) s ring)) off) in
      let words_looked : settled_ring s ring ≡ looked_ring id e s ring =
      sym f.cleared ∙ sym (ap (λ (b : Bool). cond b ring (polled_ring_by (poll_way s e) s ring)) off) in
      let in_use : InUse s t = subst⁻¹ (λ (r : IsoReply). InUse s r.session) look (looked_in_use id e s ring g) in
      let still : 0 ≡ request_at id t = place ∙ sym (same_place id s t in_use) in
      let on : ltb 0 t.head.done ≡ true = ap (λ (d : ℕ). ltb 0 (d + 1)) f.none_done in
      let again : reclaim_reply (Ok (Some (handed_answer (request_of 0 t)))) true false (removed 0 t) ≡ looked_again id true false t =
      sym
      (ap (λ (b : Bool).
      cond b (reclaim_reply (Ok (Some (handed_answer (request_of 0 t)))) true false (removed 0 t))
      (reclaim_reply (cond (ltb 0 t.head.count) (Ok None) (Err UnknownRequest)) true false t)) on)
      ∙ ap (λ (n : ℕ). looked_again_at n true false t) still in
      let handed : handed_results 0 t results ≡ looked_results id t results =
      sym (ap (λ (b : Bool). cond b (handed_results 0 t results) results) on) ∙ ap (λ (n : ℕ). looked_results_at n t results) still in
      let told = reclaim_done s id e ring results {first-look = x} h k look again (ew ∙ words_looked) (ea ∙ handed) in
      (ep ∙ ap reclaimed_port told.0, left_is ec (ap (λ (y : Reclaimed). y.session) told.0), told.1, told.2)
