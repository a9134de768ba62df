-- A completed result never changes again except by cancel: what each call leaves of the completed requests and their plans. For reclaim see
-- HandedOut.antt. Each is a fact of the session's definitions, and so, by the promises of the calls, of the code.
use mathlib.Core.Path.{◌≡◌, refl}
use mathlib.Core.Bool.{Bool, true, false, cond}
use mathlib.Core.List.{List, map}
use mathlib.Core.Logic.{◌≢◌, ◌⊎◌, inl, inr}
use Prim.Native.Nat.{ℕ, ◌≤◌, ◌<◌}
use Rattle.std.specs.Prelude.{Option, Ok}
use native.Mathlib.Omega.{arith}
use lib.Dec.{ltb}
use lib.ListN.{length, get_or}
use lib.Seq.{get_or-set_same, get_or-set_other}
use borrow.Author.Tests.{ltb-true}
use Rattle.session.specs.declared.types.IsoChannelState.{IsoChannelState}
use Rattle.session.specs.declared.types.IsoHaltReason.TheVariants as reason
use Rattle.session.specs.declared.types.IsoOutcome.{IsoOutcome}
use Rattle.session.specs.declared.types.IsoOutcome.TheVariants as outcome
use Rattle.session.specs.declared.transfer.IsoTransfer.{IsoTransfer}
use Rattle.session.specs.declared.transfer.SubmitWay.{SubmitWay}
use Rattle.session.specs.declared.transfer.SubmitWay.TheVariants as way
use Rattle.session.specs.declared.reply.IsoEvent.{IsoEvent}
use Rattle.session.specs.declared.reply.IsoReply.{IsoReply}
use Rattle.session.specs.declared.reply.PollWay.{PollWay}
use Rattle.session.specs.declared.reply.PollWay.TheVariants.{End, Settle}
use Rattle.session.specs.declared.refusal.IsoRefusal.TheVariants as refusal
use Rattle.session.specs.Session.{blank_request, blank_plan, slots, all_packets, pending_requests, has_reason}
use Rattle.session.specs.Record.{is_bad_record}
use Rattle.session.specs.Settle.{oldest_from}
use Rattle.session.specs.End.{with_outcome, ended}
use Rattle.session.specs.Place.{step_of, insert_of, plans_from}
use Rattle.session.specs.Way.{submit_way}
use Rattle.session.specs.Submit.{new_request, accepted, session_after, submitted}
use Rattle.session.specs.Poll.{reply, refused_reply, with_reason, poll_way, polled_by, polled, recovered, reset_reply}
use Rattle.session.specs.Cancel.{request_at, with_cancelled, cancelled}
use Rattle.laws.proofs.Calls.WellFormed.{WellFormed, facts}
use Rattle.session.proofs.Laws.Sums.{packets_split}
use Rattle.session.proofs.Laws.Record.{Sound}
use Rattle.laws.proofs.Calls.Drained.{drained_leaves}
use Rattle.laws.proofs.Calls.Recovery.{recovered_picked}
use Rattle.session.proofs.Laws.Ended.{reset_picked}
use Rattle.session.proofs.Laws.Lists.{get_d_sets_before}
use Rattle.session.proofs.Laws.Polls.{by_way}

-- ---- what the theorems speak of

-- what s had completed, r has completed with the same result; the plans of completed requests stand before those of the oldest pending one
pub record ResultsKept (s r : IsoChannelState) : Type 0 where
  pub done : s.head.done ≤ r.head.done
  pub request : (i : ℕ) → i < s.head.done → get_or r.requests i blank_request ≡ get_or s.requests i blank_request
  pub plan : (j : ℕ) → j < oldest_from s → get_or r.plans j blank_plan ≡ get_or s.plans j blank_plan

-- r is s but for the outcome of the request at a place, which may have become Cancelled
pub record AtMostCancelled (at : ℕ) (s r : IsoChannelState) : Type 0 where
  pub head : r.head ≡ s.head
  pub plans : r.plans ≡ s.plans
  pub other : (i : ℕ) → i ≢ at → get_or r.requests i blank_request ≡ get_or s.requests i blank_request
  pub named :
      (get_or r.requests at blank_request ≡ get_or s.requests at blank_request)
      ⊎ (get_or r.requests at blank_request ≡ with_outcome outcome.Cancelled (get_or s.requests at blank_request))

-- ---- "a completed result never changes again except by cancel"

pub results_same : (s : IsoChannelState) → ResultsKept s s
results_same s = record { done = omega arith; request = λ i u. refl; plan = λ j u. refl }

ended_results : (o : IsoOutcome) (s : IsoChannelState) → Sound s → ResultsKept s (ended o s)
ended_results o s g =
    record {
      done = g.done_in;
      request = λ i u. get_d_sets_before (map (with_outcome o) (pending_requests s)) s.requests s.head.done i blank_request u;
      plan = λ j u. refl;
    }

accepted_results : (s : IsoChannelState) (t : IsoTransfer) (lengths ring : List ℕ) → Sound s → ResultsKept s (accepted s t lengths ring)
accepted_results s t lengths ring g =
    let new = new_request s.head.next_request_id (length lengths) in
    let plans = plans_from (slots s.cfg) (insert_of s t ring) (step_of s.cfg) 0 lengths in
    let parts = packets_split s.head.done s.head.count s.requests g.done_in (omega (arith, g.requests_long, g.count_in)) in
    record {
      done = omega arith;
      request = λ i u. get_or-set_other s.requests s.head.count i new blank_request (omega (arith, g.done_in));
      plan = λ j u. get_d_sets_before plans s.plans (all_packets s) j blank_plan (omega (arith, parts));
    }

-- A submission changes none, whatever it answers.
pub submit_results : (s : IsoChannelState) (t : IsoTransfer) (lengths ring : List ℕ) → WellFormed s → ResultsKept s (submitted s t lengths ring).session
submit_results s t lengths ring well = go (submit_way s t lengths ring)
  where
    go : (w : SubmitWay) → ResultsKept s (session_after w s t lengths ring)
    go way.Accept = accepted_results s t lengths ring (facts s well)
    go w = record { done = omega arith; request = λ i u. refl; plan = λ j u. refl }

pub way_results : (p : PollWay) (s : IsoChannelState) (ring : List ℕ) → Sound s → ResultsKept s (polled_by p s ring).session
way_results (End o) s ring g = ended_results o s g
way_results (Settle bit) s ring g =
    let d = drained_leaves bit s ring g in
    record { done = d.done; request = d.request; plan = d.plan }
way_results p s ring g = record { done = omega arith; request = λ i u. refl; plan = λ j u. refl }

-- Nor does a poll.
pub poll_results : (s : IsoChannelState) (e : Option IsoEvent) (ring : List ℕ) → WellFormed s → ResultsKept s (polled s e ring).session
poll_results s e ring well =
    by_way s e ring (λ (r : IsoChannelState) (now : List ℕ). ResultsKept s r) (results_same s) (way_results (poll_way s e) s ring (facts s well))

-- Nor does a reset, nor recovery.
pub reset_results : (s : IsoChannelState) → ResultsKept s (reset_reply s).session
reset_results s = reset_picked (ResultsKept s) s (results_same s) (record { done = omega arith; request = λ i u. refl; plan = λ j u. refl })

pub recover_results : (s : IsoChannelState) (words : ℕ) → WellFormed s → ResultsKept s (recovered s words).session
recover_results s words well = recovered_picked (ResultsKept s) s words (results_same s) (ended_results outcome.Disconnected s (facts s well))

-- Cancel changes at most the outcome of the one that is named.
pub cancel_results : (s : IsoChannelState) (id : ℕ) → WellFormed s → AtMostCancelled (request_at id s) s (cancelled s id).session
cancel_results s id well = go (is_bad_record s) (ltb at s.head.done) refl (ltb at s.head.count) (has_reason s.fatal)
  where
    at : ℕ
    at = request_at id s

    amended : IsoReply
    amended = reply (Ok tt) false false (with_cancelled at s)

    stands : IsoReply
    stands = reply (Ok tt) false false s

    halting : IsoReply
    halting = reply (Ok tt) false true (with_reason reason.Cancelled s)

    same : AtMostCancelled at s s
    same = record { head = refl; plans = refl; other = λ i u. refl; named = inl refl }

    go :
        (a b : Bool) → ltb at s.head.done ≡ b → (c d : Bool)
        → AtMostCancelled at s (cond a (refused_reply refusal.BadRecord s) (cond b amended (cond c (cond d stands halting) (refused_reply refusal.UnknownRequest s)))).session
    go true b e c d = same
    go false true e c d =
        let g : Sound s = facts s well in
        let new = with_outcome outcome.Cancelled (get_or s.requests at blank_request) in
        let less : at < s.head.done = ltb-true at s.head.done e in
        record {
          head = refl;
          plans = refl;
          other = λ i u. get_or-set_other s.requests at i new blank_request u;
          named = inr (get_or-set_same s.requests at new blank_request (omega (arith, less, g.done_in, g.count_in, g.requests_long)));
        }
    go false false e true true = same
    go false false e true false = record { head = refl; plans = refl; other = λ i u. refl; named = inl refl }
    go false false e false d = same
