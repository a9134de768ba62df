-- What a submission does, way by way, for every session, transfer, list of lengths and ring: what each refusal leaves, what a cut and a whole
-- submission store, and what no test held means. Each is a fact of the session's definitions, and so, by the promise of `submit`, of the call.
use mathlib.Core.Path.{◌≡◌, refl, ◌∙◌, ap, subst, subst⁻¹}
use mathlib.Core.List.{List}
use mathlib.Core.Logic.{◌⊎◌, ⊎_elim}
use mathlib.Core.Bool.{Bool, true, false, cond}
use Prim.Native.Nat.{ℕ, ◌*◌, ◌≤◌, ◌<◌}
use Rattle.std.specs.Prelude.{Ok, Err}
use lib.ListN.{length, get_or, take}
use Rattle.ring.specs.RingSums.{packet_limit, next_number, starting_frame}
use Rattle.session.specs.declared.types.IsoChannelState.{IsoChannelState}
use Rattle.session.specs.declared.transfer.IsoTransfer.{IsoTransfer}
use Rattle.session.specs.declared.transfer.IsoSubmission.TheVariants as submission
use Rattle.session.specs.declared.transfer.SubmitWay.{SubmitWay}
use Rattle.session.specs.declared.transfer.SubmitWay.TheVariants.{Refuse, TooLong, Spend, Early, Cut, Late, Accept}
use Rattle.session.specs.declared.refusal.IsoRefusal.TheVariants as refusal
use Rattle.session.specs.declared.refusal.IsoRefusal.{IsoRefusal}
use Rattle.session.specs.declared.refusal.IsoRefusal.TheVariants as refusal
use Rattle.session.specs.Numbers.{refusal_number}
use Rattle.session.specs.Session.{ring_words, cleared}
use Rattle.ring.specs.Stores.{stored}
use Rattle.session.specs.Place.{stores_of}
use Rattle.session.specs.Way.{too_long, submit_way}
use Rattle.session.specs.Submit.{with_head, spent, unplugged, answer_of}
use Rattle.session.specs.Submit.{accepted}
use Rattle.session.specs.Submit.{session_after, submitted}
use Rattle.session.specs.Submit.{ring_after, submitted_ring}
use Rattle.session.proofs.Laws.Checks.{EntryNumber, SpendNumber, entry_number_lem, spend_number_lem, first_is_long, before_is_short}
use Rattle.session.proofs.Laws.Admitted.{told_of, Admitted, admitted, clear_if, accepts, cuts}

-- ---- what the theorems speak of

-- r is s with a request number spent: every other field is as it came
pub record NumberSpent (s r : IsoChannelState) : Type 0 where
  pub number : r.head.next_request_id ≡ next_number s.head.next_request_id
  pub cfg : r.cfg ≡ s.cfg
  pub live : r.head.live ≡ s.head.live
  pub cursor : r.head.td_last ≡ s.head.td_last
  pub start : r.head.start_full_frame ≡ s.head.start_full_frame
  pub done : r.head.done ≡ s.head.done
  pub count : r.head.count ≡ s.head.count
  pub fatal : r.fatal ≡ s.fatal
  pub requests : r.requests ≡ s.requests
  pub plans : r.plans ≡ s.plans

-- r is s with a request number spent and cursor and start zero: every other field is as it came
pub record Unplugged (s r : IsoChannelState) : Type 0 where
  pub number : r.head.next_request_id ≡ next_number s.head.next_request_id
  pub cursor : r.head.td_last ≡ 0
  pub start : r.head.start_full_frame ≡ 0
  pub cfg : r.cfg ≡ s.cfg
  pub live : r.head.live ≡ s.head.live
  pub done : r.head.done ≡ s.head.done
  pub count : r.head.count ≡ s.head.count
  pub fatal : r.fatal ≡ s.fatal
  pub requests : r.requests ≡ s.requests
  pub plans : r.plans ≡ s.plans

-- ---- what they lean on

-- what a number spent, and what a gate that finds the port unplugged, leave
number_spent : (s : IsoChannelState) → NumberSpent s (with_head s (spent s.head))
number_spent s =
    record { number = refl; cfg = refl; live = refl; cursor = refl; start = refl; done = refl; count = refl; fatal = refl; requests = refl; plans = refl }

unplugged_leaves : (s : IsoChannelState) → Unplugged s (with_head s (unplugged s.head))
unplugged_leaves s =
    record { number = refl; cursor = refl; start = refl; cfg = refl; live = refl; done = refl; count = refl; fatal = refl; requests = refl; plans = refl }

module _ (s : IsoChannelState) (t : IsoTransfer) (lengths ring : List ℕ) where
  -- ---- no test held

  -- An accepted submission passed every test: `Admitted` lists what that says of its ring, record, transfer, lengths and room.
  pub accept_admitted : submit_way s t lengths ring ≡ Accept → Admitted s t lengths ring
  accept_admitted h = admitted s t lengths ring (told_of s t lengths ring Accept h).0

  -- So did one that was cut: the number of words that it may store decides no test.
  pub cut_admitted : submit_way s t lengths ring ≡ Cut → Admitted s t lengths ring
  cut_admitted h = admitted s t lengths ring (told_of s t lengths ring Cut h).0

  -- An accepted submission may store both words of every packet.
  pub accept_words : submit_way s t lengths ring ≡ Accept → 2 * length lengths ≤ t.words
  accept_words h = (told_of s t lengths ring Accept h).1

  -- Accepted without a live channel, it found the port connected at both gates.
  pub accept_gates : submit_way s t lengths ring ≡ Accept → s.head.live ≡ false → (t.gate_program ≡ true) × (t.gate_enable ≡ true)
  accept_gates h off = ((told_of s t lengths ring Accept h).2 off, (told_of s t lengths ring Accept h).3 off)

  -- The other way round: with these facts and enough words a submission is accepted, so refusing everything does not keep the promise.
  pub accept_if :
      Admitted s t lengths ring → 2 * length lengths ≤ t.words → (s.head.live ≡ false → (t.gate_program ≡ true) × (t.gate_enable ≡ true))
      → submit_way s t lengths ring ≡ Accept
  accept_if h words gates = accepts s t lengths ring (clear_if s t lengths ring h) (λ off. (gates off).0) words (λ off. (gates off).1)

  -- With fewer words it is cut: it does not fall back on a refusal.
  pub cut_if : Admitted s t lengths ring → t.words < 2 * length lengths → (s.head.live ≡ false → t.gate_program ≡ true) → submit_way s t lengths ring ≡ Cut
  cut_if h words gate = cuts s t lengths ring (clear_if s t lengths ring h) gate words

  -- ---- refused, nothing altered

  -- Refused by 17, 18 or one of 1 to 8, a submission hands the session back as it came.
  pub refused_session : (r : IsoRefusal) → submit_way s t lengths ring ≡ Refuse r → (submitted s t lengths ring).session ≡ s
  refused_session r h = ap (λ (w : SubmitWay). session_after w s t lengths ring) h

  -- The ring is as it came too.
  pub refused_ring : (r : IsoRefusal) → submit_way s t lengths ring ≡ Refuse r → submitted_ring s t lengths ring ≡ ring
  refused_ring r h = ap (λ (w : SubmitWay). ring_after w s t lengths ring) h

  -- The answer is the refusal.
  pub refused_answer : (r : IsoRefusal) → submit_way s t lengths ring ≡ Refuse r → (submitted s t lengths ring).answer ≡ Err r
  refused_answer r h = ap (λ (w : SubmitWay). answer_of w s) h

  -- Its number is 17, 18 or one of 1 to 8.
  pub refused_number_lem : (r : IsoRefusal) → submit_way s t lengths ring ≡ Refuse r → EntryNumber (refusal_number r)
  refused_number_lem r h = entry_number_lem s t lengths ring r (told_of s t lengths ring (Refuse r) h)

  -- ---- refused, a number spent

  -- A packet that is too long spends a request number and alters nothing else of the session.
  pub long_session : (i : ℕ) → submit_way s t lengths ring ≡ TooLong i → NumberSpent s (submitted s t lengths ring).session
  long_session i h = subst⁻¹ (λ (w : SubmitWay). NumberSpent s (session_after w s t lengths ring)) h (number_spent s)

  -- The ring is as it came.
  pub long_ring : (i : ℕ) → submit_way s t lengths ring ≡ TooLong i → submitted_ring s t lengths ring ≡ ring
  long_ring i h = ap (λ (w : SubmitWay). ring_after w s t lengths ring) h

  -- The answer is refusal 9 with the index of a packet.
  pub long_answer : (i : ℕ) → submit_way s t lengths ring ≡ TooLong i → (submitted s t lengths ring).answer ≡ Err (refusal.PacketTooLong i)
  long_answer i h = ap (λ (w : SubmitWay). answer_of w s) h

  -- That packet is too long.
  pub long_there : (i : ℕ) → submit_way s t lengths ring ≡ TooLong i → (i < length lengths) × (packet_limit s.cfg.speed < get_or lengths i 0)
  long_there i h =
      let e = told_of s t lengths ring (TooLong i) h in
      let less : too_long s lengths < length lengths = subst (λ (k : ℕ). k < length lengths) e.1 e.2 in
      (e.2, subst⁻¹ (λ (k : ℕ). packet_limit s.cfg.speed < get_or lengths k 0) e.1 (first_is_long (packet_limit s.cfg.speed) lengths less))

  -- It is the first: none before it is.
  pub long_first : (i : ℕ) → submit_way s t lengths ring ≡ TooLong i → (k : ℕ) → k < i → get_or lengths k 0 ≤ packet_limit s.cfg.speed
  long_first i h k l =
      before_is_short (packet_limit s.cfg.speed) lengths k (subst (λ (j : ℕ). k < j) (told_of s t lengths ring (TooLong i) h).1 l)

  -- A refusal by one of 10 to 13 spends a request number and alters nothing else of the session.
  pub spent_session : (r : IsoRefusal) → submit_way s t lengths ring ≡ Spend r → NumberSpent s (submitted s t lengths ring).session
  spent_session r h = subst⁻¹ (λ (w : SubmitWay). NumberSpent s (session_after w s t lengths ring)) h (number_spent s)

  -- The ring is as it came.
  pub spent_ring : (r : IsoRefusal) → submit_way s t lengths ring ≡ Spend r → submitted_ring s t lengths ring ≡ ring
  spent_ring r h = ap (λ (w : SubmitWay). ring_after w s t lengths ring) h

  -- The answer is the refusal.
  pub spent_answer : (r : IsoRefusal) → submit_way s t lengths ring ≡ Spend r → (submitted s t lengths ring).answer ≡ Err r
  spent_answer r h = ap (λ (w : SubmitWay). answer_of w s) h

  -- Its number is one of 10 to 13.
  pub spent_number : (r : IsoRefusal) → submit_way s t lengths ring ≡ Spend r → SpendNumber (refusal_number r)
  spent_number r h = spend_number_lem s t lengths ring r (told_of s t lengths ring (Spend r) h).2

  -- ---- unplugged at a gate

  -- Unplugged at the first gate or the second, a submission finds no live channel: the gates are those of a first one.
  pub unplugged_first : (submit_way s t lengths ring ≡ Early) ⊎ (submit_way s t lengths ring ≡ Late) → s.head.live ≡ false
  unplugged_first = ⊎_elim (λ h. (told_of s t lengths ring Early h).1) (λ h. (told_of s t lengths ring Late h).1)

  -- The whole ring becomes zero; words behind it stay.
  pub unplugged_ring :
      (submit_way s t lengths ring ≡ Early) ⊎ (submit_way s t lengths ring ≡ Late) → submitted_ring s t lengths ring ≡ cleared (ring_words s.cfg) ring
  unplugged_ring = ⊎_elim (λ h. ap (λ (w : SubmitWay). ring_after w s t lengths ring) h) (λ h. ap (λ (w : SubmitWay). ring_after w s t lengths ring) h)

  -- Cursor and start become zero, a request number is spent, and all else is as it came.
  pub unplugged_session : (submit_way s t lengths ring ≡ Early) ⊎ (submit_way s t lengths ring ≡ Late) → Unplugged s (submitted s t lengths ring).session
  unplugged_session =
      ⊎_elim
      (λ h. subst⁻¹ (λ (w : SubmitWay). Unplugged s (session_after w s t lengths ring)) h (unplugged_leaves s))
      (λ h. subst⁻¹ (λ (w : SubmitWay). Unplugged s (session_after w s t lengths ring)) h (unplugged_leaves s))

  -- The answer is refusal 14.
  pub unplugged_answer : (submit_way s t lengths ring ≡ Early) ⊎ (submit_way s t lengths ring ≡ Late) → (submitted s t lengths ring).answer ≡ Err refusal.Unplugged
  unplugged_answer = ⊎_elim (λ h. ap (λ (w : SubmitWay). answer_of w s) h) (λ h. ap (λ (w : SubmitWay). answer_of w s) h)

  -- ---- cut and whole

  -- A submission is cut only where it may store fewer words than its packets have.
  pub cut_words : submit_way s t lengths ring ≡ Cut → t.words < 2 * length lengths
  cut_words h = (told_of s t lengths ring Cut h).1

  -- It hands the session back as it came.
  pub cut_session : submit_way s t lengths ring ≡ Cut → (submitted s t lengths ring).session ≡ s
  cut_session h = ap (λ (w : SubmitWay). session_after w s t lengths ring) h

  -- It answers that it was cut.
  pub cut_answer : submit_way s t lengths ring ≡ Cut → (submitted s t lengths ring).answer ≡ Ok submission.Cut
  cut_answer h = ap (λ (w : SubmitWay). answer_of w s) h

  -- The ring is the one that came with the first words of the plan stored into it in their order, as many as it may store.
  pub cut_ring : submit_way s t lengths ring ≡ Cut → submitted_ring s t lengths ring ≡ stored (take t.words (stores_of s t lengths ring)) ring
  cut_ring h = ap (λ (w : SubmitWay). ring_after w s t lengths ring) h

  -- Accepted, a submission leaves the ring that came with the whole plan stored into it.
  pub whole_ring : submit_way s t lengths ring ≡ Accept → submitted_ring s t lengths ring ≡ stored (stores_of s t lengths ring) ring
  whole_ring h = ap (λ (w : SubmitWay). ring_after w s t lengths ring) h

  -- It answers with the request number that the session held.
  pub whole_answer : submit_way s t lengths ring ≡ Accept → (submitted s t lengths ring).answer ≡ Ok (submission.Accepted s.head.next_request_id)
  whole_answer h = ap (λ (w : SubmitWay). answer_of w s) h

  -- It leaves the session with the request and its plans behind the others.
  pub whole_session : submit_way s t lengths ring ≡ Accept → (submitted s t lengths ring).session ≡ accepted s t lengths ring
  whole_session h = ap (λ (w : SubmitWay). session_after w s t lengths ring) h

  -- A first one takes its start from the first reading.
  pub whole_start :
      submit_way s t lengths ring ≡ Accept → s.head.live ≡ false
      → (submitted s t lengths ring).session.head.start_full_frame ≡ starting_frame s.cfg.speed t.start_reading
  whole_start h off =
      ap (λ (w : SubmitWay). (session_after w s t lengths ring).head.start_full_frame) h
      ∙ ap (λ (live : Bool). cond live s.head.start_full_frame (starting_frame s.cfg.speed t.start_reading)) off
