-- Well-formedness is kept: a session whose record passes the check of refusal 18 passes it after every call, whatever the call is lent and answers. So
-- a caller who starts with an accepted opening never sees 18. Each is a fact of the session's definitions, and so, by the promises of the calls, of
-- the code.
use mathlib.Core.Path.{◌≡◌, refl, ◌∙◌, sym, ap, subst⁻¹}
use mathlib.Core.Bool.{Bool, true, false, cond}
use mathlib.Core.List.{List, [], ◌∷◌}
use Prim.Native.Nat.{ℕ}
use Rattle.std.specs.Prelude.{Option, Some, None, Result, Ok, Err, ⊤}
use native.Mathlib.Omega.{arith}
use lib.Dec.{ltb}
use lib.ListN.{length, length-replicate}
use Rattle.session.specs.declared.types.IsoChannelState.{IsoChannelState}
use Rattle.session.specs.declared.types.IsoConfig.{IsoConfig}
use Rattle.session.specs.declared.types.IsoPacketPlan.{IsoPacketPlan}
use Rattle.session.specs.declared.types.IsoRequest.{IsoRequest}
use Rattle.session.specs.declared.transfer.IsoTransfer.{IsoTransfer}
use Rattle.session.specs.declared.transfer.SubmitWay.{SubmitWay}
use Rattle.session.specs.declared.transfer.SubmitWay.TheVariants as way
use Rattle.session.specs.declared.types.IsoHaltReason.TheVariants as reason
use Rattle.session.specs.declared.types.IsoOutcome.TheVariants as outcome
use Rattle.session.specs.declared.reply.IsoEvent.{IsoEvent}
use Rattle.session.specs.declared.reply.IsoReply.{IsoReply}
use Rattle.session.specs.declared.reply.PollWay.{PollWay}
use Rattle.session.specs.declared.reply.PollWay.TheVariants as poll
use Rattle.session.specs.declared.reply.IsoCompletion.{IsoCompletion}
use Rattle.session.specs.declared.reply.Reclaimed.{Reclaimed}
use Rattle.session.specs.declared.refusal.IsoRefusal.{IsoRefusal}
use Rattle.session.specs.declared.refusal.IsoRefusal.TheVariants as refusal
use Rattle.session.specs.Numbers.{refusal_number, submit_number, answer_number, reclaim_number}
use Rattle.session.specs.Session.{blank_request, blank_plan, ring_words, has_reason}
use Rattle.session.specs.Record.{is_bad_config, is_bad_record}
use Rattle.session.specs.Open.{open_answer, opened}
use Rattle.session.specs.Way.{◌⇒◌, first_of, room_checks, entry_refusal, submit_way}
use Rattle.session.specs.Submit.{answer_of, submitted}
use Rattle.session.specs.End.{ended}
use Rattle.session.specs.Poll.{reply, refused_reply, with_reason, poll_way, polled_by, polled, recovered, is_empty, at_start, reset_reply}
use Rattle.session.specs.Cancel.{request_at, with_cancelled, cancelled}
use Rattle.session.specs.Reclaim.{is_found, looked, request_of, removed, handed_answer, reclaim_reply, looked_again, is_short, reclaimed}
use Rattle.session.proofs.Laws.Checks.{◌and◌, one_of, spend_number_lem}
use Rattle.session.proofs.Laws.Admitted.{Told, told}
use Rattle.session.proofs.Laws.Tests.{chosen}
use Rattle.session.proofs.Laws.Record.{Sound, sound, not_bad, idle_sound}
use Rattle.laws.proofs.Calls.Kept.{submitted_sound}
use Rattle.session.proofs.Laws.Ended.{recovered_sound, reset_reply_sound, cancelled_sound}
use Rattle.session.proofs.Laws.Polled.{polled_sound}
use Rattle.session.proofs.Laws.Polls.{by_way}
use Rattle.session.proofs.Laws.Reclaims.{reclaimed_sound}

-- ---- what the theorems speak of

-- a record that passes the check: its tables have their lengths, and no test of 18 holds
pub record WellFormed (s : IsoChannelState) : Type 0 where
  pub requests : length s.requests ≡ 64
  pub plans : length s.plans ≡ 1024
  pub good : is_bad_record s ≡ false

-- the calls on a session, with what each is given and the ring that it is lent
pub data Call : Type 0 where
  Submit : (t : IsoTransfer) (lengths ring : List ℕ) → Call
  Poll : (e : Option IsoEvent) (ring : List ℕ) → Call
  Reclaim : (id : ℕ) (e : Option IsoEvent) (ring results : List ℕ) → Call
  Cancel : (id : ℕ) → Call
  Reset : Call
  Recover : (ring : List ℕ) → Call

-- the session that a call gives back
abbrev pub after : Call → IsoChannelState → IsoChannelState
after (Submit t lengths ring) s = (submitted s t lengths ring).session
after (Poll e ring) s = (polled s e ring).session
after (Reclaim id e ring results) s = (reclaimed s id e ring (length results)).session
after (Cancel id) s = (cancelled s id).session
after Reset s = (reset_reply s).session
after (Recover ring) s = (recovered s (length ring)).session

-- document 01's number of its answer, 0 where it is not refused
abbrev pub number : Call → IsoChannelState → ℕ
number (Submit t lengths ring) s = submit_number (submitted s t lengths ring).answer
number (Poll e ring) s = answer_number (polled s e ring).answer
number (Reclaim id e ring results) s = reclaim_number (reclaimed s id e ring (length results)).answer
number (Cancel id) s = answer_number (cancelled s id).answer
number Reset s = answer_number (reset_reply s).answer
number (Recover ring) s = answer_number (recovered s (length ring)).answer

-- the session after some calls, one after the other
abbrev pub after_all : List Call → IsoChannelState → IsoChannelState
after_all [] s = s
after_all (c ∷ cs) s = after_all cs (after c s)

-- ---- what they lean on

pub facts : (s : IsoChannelState) → WellFormed s → Sound s
facts s w = sound s w.requests w.plans w.good

pub well_formed : (s : IsoChannelState) → Sound s → WellFormed s
well_formed s g = record { requests = g.requests_long; plans = g.plans_long; good = not_bad s g }

call_sound : (call : Call) (s : IsoChannelState) → Sound s → Sound (after call s)
call_sound (Submit t lengths ring) s g = submitted_sound s t lengths ring g
call_sound (Poll e ring) s g = by_way s e ring (λ (r : IsoChannelState) (now : List ℕ). Sound r) g (polled_sound s e ring g)
call_sound (Reclaim id e ring results) s g = reclaimed_sound s id e ring (length results) g
call_sound (Cancel id) s g = cancelled_sound s id g
call_sound Reset s g = reset_reply_sound s g
call_sound (Recover ring) s g = recovered_sound s (length ring) g

-- ---- the theorems

-- Every call on a record that passes the check of 18 gives a record that passes it.
pub kept : (call : Call) (s : IsoChannelState) → WellFormed s → WellFormed (after call s)
kept call s w = well_formed (after call s) (call_sound call s (facts s w))

-- So do any calls one after the other.
pub all_kept : (calls : List Call) (s : IsoChannelState) → WellFormed s → WellFormed (after_all calls s)
all_kept [] s w = w
all_kept (c ∷ cs) s w = all_kept cs (after c s) (kept c s w)

-- where an opening is accepted, its configuration passes
accepted_config :
    (short bad : Bool) → ◌≡◌ {A = Result ⊤ IsoRefusal} (cond short (Err refusal.ShortBuffer) (cond bad (Err refusal.BadRecord) (Ok tt))) (Ok tt)
    → bad ≡ false
accepted_config false false e = refl
accepted_config short bad e = cc

-- An accepted opening gives one.
pub opening : (cfg : IsoConfig) (ring : List ℕ) → open_answer cfg (length ring) ≡ Ok tt → WellFormed (opened cfg (length ring)).session
opening cfg ring e =
    record {
      requests = length-replicate {A = IsoRequest} 64 blank_request;
      plans = length-replicate {A = IsoPacketPlan} 1024 blank_plan;
      good = idle_sound cfg (accepted_config (ltb (length ring) (ring_words cfg)) (is_bad_config cfg) e);
    }

-- A caller who starts with `open` has a record that passes the check, whatever the calls between.
pub never_bad :
    (cfg : IsoConfig) (ring : List ℕ) → open_answer cfg (length ring) ≡ Ok tt
    → (calls : List Call) → is_bad_record (after_all calls (opened cfg (length ring)).session) ≡ false
never_bad cfg ring e calls = (all_kept calls (opened cfg (length ring)).session (opening cfg ring e)).good

-- ---- the answers

-- a number that is not 18
abbrev Other : ℕ → Type 0
Other n = n ≡ 18 → ⊥

-- the first tests of a submission, where the record is good
entry_other :
    (s : IsoChannelState) (t : IsoTransfer) (n words : ℕ) (r : IsoRefusal) → is_bad_record s ≡ false → entry_refusal s t n words ≡ Err r
    → Other (refusal_number r)
entry_other s t n words r good h =
    let short = ltb words (ring_words s.cfg) in
    let left = ap (λ (b : Bool). cond short (Err refusal.ShortBuffer) (cond b (Err refusal.BadRecord) (first_of (room_checks s t n)))) good in
    one_of (λ (q : IsoRefusal). Other (refusal_number q)) (short ⇒ refusal.ShortBuffer ∷ room_checks s t n)
    ((λ e. omega arith)
    and (λ e. omega arith)
    and (λ e. omega arith)
    and (λ e. omega arith)
    and (λ e. omega arith)
    and (λ e. omega arith)
    and (λ e. omega arith)
    and (λ e. omega arith)
    and (λ e. omega arith)
    and tt)
    r
    (sym left ∙ h)

submit_other :
    (s : IsoChannelState) (t : IsoTransfer) (lengths ring : List ℕ) (w : SubmitWay) → is_bad_record s ≡ false → Told s t lengths ring w
    → Other (submit_number (answer_of w s))
submit_other s t lengths ring (way.Refuse r) good h = entry_other s t (length lengths) (length ring) r good h
submit_other s t lengths ring (way.Spend r) good h = let few = spend_number_lem s t lengths ring r h.2 in λ e. omega (arith, few.to)
submit_other s t lengths ring w good h = λ e. omega arith

-- a reply that is chosen by a test, and one behind the test of the record
reply_other :
    (b : Bool) (x y : IsoReply) → (b ≡ true → Other (answer_number x.answer)) → (b ≡ false → Other (answer_number y.answer))
    → Other (answer_number (cond b x y).answer)
reply_other = chosen (λ (r : IsoReply). Other (answer_number r.answer))

past_record :
    (s : IsoChannelState) (r : IsoReply) → is_bad_record s ≡ false → Other (answer_number r.answer)
    → Other (answer_number (cond (is_bad_record s) (refused_reply refusal.BadRecord s) r).answer)
past_record s r good h = subst⁻¹ (λ (b : Bool). Other (answer_number (cond b (refused_reply refusal.BadRecord s) r).answer)) good h

poll_other : (w : PollWay) (s : IsoChannelState) (ring : List ℕ) → Other (answer_number (polled_by w s ring).answer)
poll_other poll.Nothing s ring = λ e. omega arith
poll_other w s ring = λ e. omega arith

reclaim_other :
    (b : Bool) (x y : Reclaimed) → (b ≡ true → Other (reclaim_number x.answer)) → (b ≡ false → Other (reclaim_number y.answer))
    → Other (reclaim_number (cond b x y).answer)
reclaim_other = chosen (λ (r : Reclaimed). Other (reclaim_number r.answer))

again_other : (id : ℕ) (taken halt : Bool) (s : IsoChannelState) → Other (reclaim_number (looked_again id taken halt s).answer)
again_other id taken halt s =
    let at : ℕ = request_at id s in
    let within = ltb at s.head.count in
    reclaim_other (is_found id s) (reclaim_reply (Ok (Some (handed_answer (request_of at s)))) taken halt (removed at s))
    (reclaim_reply (cond within (Ok None) (Err refusal.UnknownRequest)) taken halt s)
    (λ f e. omega arith)
    (λ f. chosen (λ (a : Result (Option IsoCompletion) IsoRefusal). Other (reclaim_number a)) within (Ok None) (Err refusal.UnknownRequest) (λ h e. omega arith)
    (λ h e. omega arith))

-- No call on a record that passes the check answers 18.
pub not_refused : (call : Call) (s : IsoChannelState) → is_bad_record s ≡ false → number call s ≡ 18 → ⊥
not_refused (Submit t lengths ring) s good = submit_other s t lengths ring (submit_way s t lengths ring) good (told s t lengths ring)
not_refused (Poll e ring) s good =
    let by_way = polled_by (poll_way s e) s ring in
    reply_other (ltb (length ring) (ring_words s.cfg)) (refused_reply refusal.ShortBuffer s) (cond (is_bad_record s) (refused_reply refusal.BadRecord s) by_way)
    (λ h u. omega arith) (λ h. past_record s by_way good (poll_other (poll_way s e) s ring))
not_refused (Reclaim id e ring results) s good =
    let l = looked id e s ring in
    let again = looked_again id l.taken l.halt l.session in
    let bad = reclaim_reply (Err refusal.BadRecord) false false s in
    reclaim_other (is_short s (length ring) (length results)) (reclaim_reply (Err refusal.ShortBuffer) false false s) (cond (is_bad_record s) bad again)
    (λ h u. omega arith)
    (λ h. subst⁻¹ (λ (b : Bool). Other (reclaim_number (cond b bad again).answer)) good (again_other id l.taken l.halt l.session))
not_refused (Cancel id) s good =
    let at : ℕ = request_at id s in
    let amended = reply (Ok tt) false false (with_cancelled at s) in
    let stands = reply (Ok tt) false false s in
    let halting = reply (Ok tt) false true (with_reason reason.Cancelled s) in
    let pending = cond (has_reason s.fatal) stands halting in
    let known = cond (ltb at s.head.count) pending (refused_reply refusal.UnknownRequest s) in
    past_record s (cond (ltb at s.head.done) amended known) good
    (reply_other (ltb at s.head.done) amended known (λ h u. omega arith)
    (λ h. reply_other (ltb at s.head.count) pending (refused_reply refusal.UnknownRequest s)
    (λ k. reply_other (has_reason s.fatal) stands halting (λ f u. omega arith) (λ f u. omega arith)) (λ k u. omega arith)))
not_refused Reset s good =
    let empty = reply (Ok tt) false false (at_start s) in
    past_record s (cond (is_empty s) empty (refused_reply refusal.NotEmpty s)) good
    (reply_other (is_empty s) empty (refused_reply refusal.NotEmpty s) (λ h u. omega arith) (λ h u. omega arith))
not_refused (Recover ring) s good =
    let over = reply (Ok tt) false false (ended outcome.Disconnected s) in
    reply_other (ltb (length ring) (ring_words s.cfg)) (refused_reply refusal.ShortBuffer s) (cond (is_bad_record s) (refused_reply refusal.BadRecord s) over)
    (λ h u. omega arith) (λ h. past_record s over good (λ u. omega arith))

-- So a caller who starts with `open` never sees 18.
pub never_refused :
    (cfg : IsoConfig) (ring : List ℕ) → open_answer cfg (length ring) ≡ Ok tt
    → (calls : List Call) (call : Call) → number call (after_all calls (opened cfg (length ring)).session) ≡ 18 → ⊥
never_refused cfg ring e calls call = not_refused call (after_all calls (opened cfg (length ring)).session) (never_bad cfg ring e calls)
