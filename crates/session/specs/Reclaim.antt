-- Reclaiming: document 01, "Reclaim". "Reclaim looks, polls if it found nothing, looks again; a pending number answers "not yet". It writes one
-- result a packet into the lent results and leaves the others, or all of them where the outcome is an error."
use Rattle.std.specs.Prelude.{Bool, true, false, ◌||◌, cond, Option, Some, None, Result, Ok, Err, List, map, ℕ, ◌+◌, ◌-◌, ◌*◌, ltb, length, get_or}
use Rattle.std.proofs.Math.Seq.{slice}
use Rattle.std.proofs.lemmas.List.Edits.{sets}
use Rattle.session.specs.declared.types.IsoOutcome.{IsoOutcome}
use Rattle.session.specs.declared.types.IsoOutcome.TheVariants as outcome
use Rattle.session.specs.declared.types.TransferStatus.{TransferStatus}
use Rattle.session.specs.declared.types.TransferStatus.TheVariants.{Completed, Error}
use Rattle.session.specs.declared.types.IsoRequest.{IsoRequest}
use Rattle.session.specs.declared.types.IsoPacketPlan.{IsoPacketPlan}
use Rattle.session.specs.declared.types.IsoHead.{IsoHead}
use Rattle.session.specs.declared.types.IsoChannelState.{IsoChannelState}
use Rattle.session.specs.declared.reply.IsoEvent.{IsoEvent}
use Rattle.session.specs.declared.reply.IsoReply.{IsoReply}
use Rattle.session.specs.declared.reply.IsoCompletion.{IsoCompletion}
use Rattle.session.specs.declared.reply.Reclaimed.{Reclaimed}
use Rattle.session.specs.declared.refusal.IsoRefusal.{IsoRefusal}
use Rattle.session.specs.declared.refusal.IsoRefusal.TheVariants.{UnknownRequest, ShortBuffer, BadRecord}
use Rattle.session.specs.Session.{blank_request, ring_words, packets_of, all_packets}
use Rattle.session.specs.Record.{is_bad_record}
use Rattle.session.specs.Poll.{reply, poll_way, polled_by, polled_ring_by}
use Rattle.session.specs.Cancel.{request_at}

-- all other outcomes are errors
abbrev pub is_done : IsoOutcome → Bool
is_done outcome.Done = true
is_done outcome.Disconnected = false
is_done outcome.Cancelled = false
is_done (outcome.Fault kind word) = false
is_done (outcome.UnexpectedHalt word) = false

-- one result: the length moved in bits 0 to 11, the length asked for in 12 to 23, a packet error in 24
abbrev pub error_bit : TransferStatus → ℕ
error_bit Completed = 0
error_bit Error = 16777216

abbrev pub result_word : IsoPacketPlan → ℕ
result_word p = p.actual + 4096 * p.planned + error_bit p.status

-- the number of a completed request
abbrev pub is_found : ℕ → IsoChannelState → Bool
is_found id s = ltb (request_at id s) s.head.done

-- "looks, polls if it found nothing": by the place of the request, then by its number
abbrev pub looked_at : ℕ → Option IsoEvent → IsoChannelState → List ℕ → IsoReply
looked_at at e s ring = cond (ltb at s.head.done) (reply (Ok tt) false false s) (polled_by (poll_way s e) s ring)

abbrev pub looked_ring_at : ℕ → Option IsoEvent → IsoChannelState → List ℕ → List ℕ
looked_ring_at at e s ring = cond (ltb at s.head.done) ring (polled_ring_by (poll_way s e) s ring)

abbrev pub looked : ℕ → Option IsoEvent → IsoChannelState → List ℕ → IsoReply
looked id e s ring = looked_at (request_at id s) e s ring

abbrev pub looked_ring : ℕ → Option IsoEvent → IsoChannelState → List ℕ → List ℕ
looked_ring id e s ring = looked_ring_at (request_at id s) e s ring

-- the request at a place, and where its plans begin and end
abbrev pub request_of : ℕ → IsoChannelState → IsoRequest
request_of at s = get_or s.requests at blank_request

abbrev pub plans_begin : ℕ → IsoChannelState → ℕ
plans_begin at s = packets_of (slice 0 at s.requests)

abbrev pub plans_end : ℕ → IsoChannelState → ℕ
plans_end at s = plans_begin at s + (request_of at s).packets

-- the entries from `from` to `to` move down to `at`; those behind them stay
abbrev pub closed_up : {A : Type 0} → ℕ → ℕ → ℕ → List A → List A
closed_up at from to xs = sets xs at (slice from to xs)

abbrev pub one_less : IsoHead → IsoHead
one_less h =
    record {
      next_request_id = h.next_request_id;
      live = h.live;
      td_last = h.td_last;
      start_full_frame = h.start_full_frame;
      done = h.done - 1;
      count = h.count - 1;
    }

-- "Room freed by reclaim is used again.": the session without the request at a place and without its plans
abbrev pub removed : ℕ → IsoChannelState → IsoChannelState
removed at s =
    record {
      cfg = s.cfg;
      head = one_less s.head;
      fatal = s.fatal;
      requests = closed_up at (at + 1) s.head.count s.requests;
      plans = closed_up (plans_begin at s) (plans_end at s) (all_packets s) s.plans;
    }

-- an error has no length
abbrev pub handed_length : IsoRequest → ℕ
handed_length r = cond (is_done r.outcome) r.actual_length 0

abbrev pub handed_answer : IsoRequest → IsoCompletion
handed_answer r = record { outcome = r.outcome; actual_length = handed_length r; packets = r.packets }

abbrev pub handed_results : ℕ → IsoChannelState → List ℕ → List ℕ
handed_results at s results =
    cond (is_done (request_of at s).outcome) (sets results 0 (map result_word (slice (plans_begin at s) (plans_end at s) s.plans))) results

abbrev pub reclaim_reply : Result (Option IsoCompletion) IsoRefusal → Bool → Bool → IsoChannelState → Reclaimed
reclaim_reply a taken halt s = record { answer = a; taken = taken; halt = halt; session = s }

-- "looks again; a pending number answers "not yet""; 15: unknown number, what the poll did is kept
abbrev pub looked_again_at : ℕ → Bool → Bool → IsoChannelState → Reclaimed
looked_again_at at taken halt s =
    cond (ltb at s.head.done) (reclaim_reply (Ok (Some (handed_answer (request_of at s)))) taken halt (removed at s))
    (reclaim_reply (cond (ltb at s.head.count) (Ok None) (Err UnknownRequest)) taken halt s)

abbrev pub looked_results_at : ℕ → IsoChannelState → List ℕ → List ℕ
looked_results_at at s results = cond (ltb at s.head.done) (handed_results at s results) results

abbrev pub looked_again : ℕ → Bool → Bool → IsoChannelState → Reclaimed
looked_again id taken halt s = looked_again_at (request_at id s) taken halt s

abbrev pub looked_results : ℕ → IsoChannelState → List ℕ → List ℕ
looked_results id s results = looked_results_at (request_at id s) s results

-- "results under 255"
abbrev pub is_short : IsoChannelState → ℕ → ℕ → Bool
is_short s words results = ltb words (ring_words s.cfg) || ltb results 255

abbrev pub reclaimed : IsoChannelState → ℕ → Option IsoEvent → List ℕ → ℕ → Reclaimed
reclaimed s id e ring results =
    cond (is_short s (length ring) results) (reclaim_reply (Err ShortBuffer) false false s)
    (cond (is_bad_record s) (reclaim_reply (Err BadRecord) false false s)
    (looked_again id (looked id e s ring).taken (looked id e s ring).halt (looked id e s ring).session))

abbrev pub reclaimed_ring : IsoChannelState → ℕ → Option IsoEvent → List ℕ → ℕ → List ℕ
reclaimed_ring s id e ring results =
    cond (is_short s (length ring) results) ring (cond (is_bad_record s) ring (looked_ring id e s ring))

abbrev pub reclaimed_results : IsoChannelState → ℕ → Option IsoEvent → List ℕ → List ℕ → List ℕ
reclaimed_results s id e ring results =
    cond (is_short s (length ring) (length results)) results
    (cond (is_bad_record s) results (looked_results id (looked id e s ring).session results))
