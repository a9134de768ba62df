-- What recovery leaves, for every session and every ring long enough: an idle session that says nothing of the ring, a ring of zeros, and each request
-- that was pending with outcome Disconnected, those completed before as they were. Each is a fact of the session's definitions, and so, by the
-- promise of `recover`, of the call.
use mathlib.Core.Path.{◌≡◌, refl, ◌∙◌, sym, ap, subst⁻¹}
use mathlib.Core.Bool.{false}
use mathlib.Core.List.{List, map, ◌++◌}
use Prim.Native.Nat.{ℕ, ◌+◌, ◌-◌, ◌≤◌, ◌<◌}
use Rattle.std.specs.Prelude.{Ok}
use native.Mathlib.Omega.{arith}
use lib.ListN.{length, get_or, drop, replicate, length-replicate, get_or-replicate, get_or-append}
use lib.Seq.{get_or-append-add, get_or-drop}
use borrow.Author.Tests.{le-ltb}
use Rattle.session.specs.declared.types.IsoChannelState.{IsoChannelState}
use Rattle.session.specs.declared.types.IsoOutcome.TheVariants as outcome
use Rattle.session.specs.declared.reply.IsoReply.{IsoReply}
use Rattle.session.specs.Session.{blank_request, ring_words, pending_requests}
use Rattle.session.specs.Record.{is_bad_record}
use Rattle.session.specs.End.{with_outcome, ended, ended_ring}
use Rattle.session.specs.Poll.{reply, recovered, recovered_ring}
use Rattle.laws.specs.Ending.{IdleAfter, Disconnected}
use Rattle.session.proofs.Laws.Lists.{get_d_sets_before, get_or-amended}
use Rattle.session.proofs.Laws.Record.{Sound, sound, not_bad}
use Rattle.session.proofs.Laws.Replies.{lent_done}
use Rattle.session.proofs.Laws.Ended.{recovered_sound}
use Rattle.laws.proofs.Calls.Recovery.{recovery}

-- ---- recovery, where the ring is long enough and the record good

module _ (s : IsoChannelState) (ring : List ℕ) (long : ring_words s.cfg ≤ length ring) (good : is_bad_record s ≡ false) where
  pub recovery_answers : (recovered s (length ring)).answer ≡ Ok tt
  recovery_answers = ap (λ (r : IsoReply). r.answer) (recovery s ring long good).0

  pub recovery_idle : IdleAfter s (recovered s (length ring)).session
  recovery_idle =
      subst⁻¹ (λ (r : IsoReply). IdleAfter s r.session) (recovery s ring long good).0
      (record { live = refl; done = refl; fatal = refl; cursor = refl; start = refl; number = refl; count = refl; cfg = refl; plans = refl })

  -- the ring's words are zero
  pub recovery_zeroes : (i : ℕ) → i < ring_words s.cfg → get_or (recovered_ring s ring) i 0 ≡ 0
  recovery_zeroes i h =
      let zeros : List ℕ = replicate (ring_words s.cfg) 0 in
      ap (λ (l : List ℕ). get_or l i 0) (recovery s ring long good).1
      ∙ get_or-append zeros (drop (ring_words s.cfg) ring) 0 i (omega (arith, h, length-replicate {A = ℕ} (ring_words s.cfg) 0))
      ∙ get_or-replicate (ring_words s.cfg) i 0 0 h

  -- and those behind them as they were
  pub recovery_behind : (i : ℕ) → ring_words s.cfg ≤ i → get_or (recovered_ring s ring) i 0 ≡ get_or ring i 0
  recovery_behind i h =
      let n : ℕ = ring_words s.cfg in
      let j : ℕ = i - n in
      let zeros : List ℕ = replicate n 0 in
      let at : i ≡ length zeros + j = omega (arith, h, length-replicate {A = ℕ} n 0) in
      let back : n + j ≡ i = omega (arith, h) in
      ap (λ (l : List ℕ). get_or l i 0) (recovery s ring long good).1
      ∙ ap (λ (k : ℕ). get_or (zeros ++ drop n ring) k 0) at
      ∙ get_or-append-add zeros (drop n ring) j 0
      ∙ get_or-drop n ring j 0
      ∙ ap (λ (k : ℕ). get_or ring k 0) back

  -- what stands in the ring does not matter: any other gives the same session and the same answer
  pub recovery_same : (other : List ℕ) → ring_words s.cfg ≤ length other → recovered s (length other) ≡ recovered s (length ring)
  recovery_same other h =
      (lent_done s other (reply (Ok tt) false false (ended outcome.Disconnected s)) (ended_ring s other) (le-ltb (length other) (ring_words s.cfg) h)
      good).0
      ∙ sym (recovery s ring long good).0

  -- ---- the requests, in tables of their lengths

  module _ (requests_long : length s.requests ≡ 64) (plans_long : length s.plans ≡ 1024) where
    facts : Sound s
    facts = sound s requests_long plans_long good

    pub recovery_fails :
        (i : ℕ) → s.head.done ≤ i → i < s.head.count
        → Disconnected (get_or s.requests i blank_request) (get_or (recovered s (length ring)).session.requests i blank_request)
    recovery_fails i h k =
        let e : get_or (recovered s (length ring)).session.requests i blank_request ≡ with_outcome outcome.Disconnected (get_or s.requests i blank_request) =
        ap (λ (r : IsoReply). get_or r.session.requests i blank_request) (recovery s ring long good).0
        ∙ get_or-amended (with_outcome outcome.Disconnected) s.head.done s.head.count i s.requests blank_request h k
        (omega (arith, facts.count_in, requests_long)) in
        subst⁻¹ (Disconnected (get_or s.requests i blank_request)) e (record { outcome = refl; id = refl; packets = refl; length_moved = refl })

    pub recovery_keeps :
        (i : ℕ) → i < s.head.done → get_or (recovered s (length ring)).session.requests i blank_request ≡ get_or s.requests i blank_request
    recovery_keeps i h =
        ap (λ (r : IsoReply). get_or r.session.requests i blank_request) (recovery s ring long good).0
        ∙ get_d_sets_before (map (with_outcome outcome.Disconnected) (pending_requests s)) s.requests s.head.done i blank_request h

    -- and the record is good again
    pub recovery_good : is_bad_record (recovered s (length ring)).session ≡ false
    recovery_good = not_bad (recovered s (length ring)).session (recovered_sound s (length ring) facts)
