-- Polling and recovery: document 01, "Poll", "Reset" and "Recovery", in their order.
use Rattle.std.specs.Prelude.{Bool, true, false, not, ◌||◌, cond, Option, Some, None, Result, Ok, Err, ⊤, List, ℕ, eqb, ltb, length}
use Rattle.words.specs.Words.{is_set, complete, halted, hcint_fault}
use Rattle.words.specs.declared.types.Dwc2TransferFault.{Dwc2TransferFault}
use Rattle.session.specs.declared.types.IsoHaltReason.{IsoHaltReason}
use Rattle.session.specs.declared.types.IsoHaltReason.TheVariants as reason
use Rattle.session.specs.declared.types.IsoHead.{IsoHead}
use Rattle.session.specs.declared.types.IsoOutcome.{IsoOutcome}
use Rattle.session.specs.declared.types.IsoOutcome.TheVariants as outcome
use Rattle.session.specs.declared.types.IsoChannelState.{IsoChannelState}
use Rattle.session.specs.declared.reply.IsoEvent.{IsoEvent}
use Rattle.session.specs.declared.reply.PollWay.{PollWay}
use Rattle.session.specs.declared.reply.PollWay.TheVariants.{Nothing, End, Halt, Wait, Settle}
use Rattle.session.specs.declared.refusal.IsoRefusal.{IsoRefusal}
use Rattle.session.specs.declared.refusal.IsoRefusal.TheVariants.{NotEmpty, ShortBuffer, BadRecord}
use Rattle.session.specs.declared.reply.IsoReply.{IsoReply}
use Rattle.session.specs.Session.{ring_words, has_reason}
use Rattle.session.specs.Record.{is_bad_record}
use Rattle.session.specs.End.{ended, ended_ring}
use Rattle.session.specs.Settle.{drained}

-- the outcome of a reason
abbrev pub outcome_of : IsoHaltReason → IsoOutcome
outcome_of reason.Cancelled = outcome.Cancelled
outcome_of (reason.Fault kind word) = outcome.Fault kind word

-- "with a reason, wait for halted; halted without a reason ends it; else settle"
abbrev pub way_by_reason : Option IsoHaltReason → ℕ → PollWay
way_by_reason None word = cond (is_set halted word) (End (outcome.UnexpectedHalt word)) (Settle (is_set complete word))
way_by_reason (Some r) word = cond (is_set halted word) (End (outcome_of r)) Wait

-- "a fault ends it if halted, else becomes the halt reason, replacing an earlier one, and asks for a halt"
abbrev pub way_by_fault : Option Dwc2TransferFault → Option IsoHaltReason → ℕ → PollWay
way_by_fault None f word = way_by_reason f word
way_by_fault (Some kind) f word = cond (is_set halted word) (End (outcome.Fault kind word)) (Halt (reason.Fault kind word))

-- "Poll changes nothing without a live channel or a reported event (0 may be one)"; "unplugged ends the session with that error"
abbrev pub way_by_event : Option IsoHaltReason → IsoEvent → PollWay
way_by_event f e = cond e.unplugged (End outcome.Disconnected) (way_by_fault (hcint_fault e.hcint) f e.hcint)

abbrev pub way_of : IsoHead → Option IsoHaltReason → Option IsoEvent → PollWay
way_of h f None = Nothing
way_of h f (Some e) = cond h.live (way_by_event f e) Nothing

abbrev pub poll_way : IsoChannelState → Option IsoEvent → PollWay
poll_way s e = way_of s.head s.fatal e

abbrev pub with_reason : IsoHaltReason → IsoChannelState → IsoChannelState
with_reason r s = record { cfg = s.cfg; head = s.head; fatal = Some r; requests = s.requests; plans = s.plans }

abbrev pub reply : Result ⊤ IsoRefusal → Bool → Bool → IsoChannelState → IsoReply
reply a taken halt s = record { answer = a; taken = taken; halt = halt; session = s }

abbrev pub polled_by : PollWay → IsoChannelState → List ℕ → IsoReply
polled_by Nothing s ring = reply (Ok tt) false false s
polled_by (End o) s ring = reply (Ok tt) true false (ended o s)
polled_by (Halt r) s ring = reply (Ok tt) true true (with_reason r s)
polled_by Wait s ring = reply (Ok tt) true false s
polled_by (Settle bit) s ring = reply (Ok tt) true false (drained bit s ring).session

abbrev pub polled_ring_by : PollWay → IsoChannelState → List ℕ → List ℕ
polled_ring_by Nothing s ring = ring
polled_ring_by (End o) s ring = ended_ring s ring
polled_ring_by (Halt r) s ring = ring
polled_ring_by Wait s ring = ring
polled_ring_by (Settle bit) s ring = (drained bit s ring).ring

-- "The other session calls test 17 and 18, then their own."

abbrev pub refused_reply : IsoRefusal → IsoChannelState → IsoReply
refused_reply r s = reply (Err r) false false s

abbrev pub polled : IsoChannelState → Option IsoEvent → List ℕ → IsoReply
polled s e ring =
    cond (ltb (length ring) (ring_words s.cfg)) (refused_reply ShortBuffer s)
    (cond (is_bad_record s) (refused_reply BadRecord s) (polled_by (poll_way s e) s ring))

abbrev pub polled_ring : IsoChannelState → Option IsoEvent → List ℕ → List ℕ
polled_ring s e ring =
    cond (ltb (length ring) (ring_words s.cfg)) ring (cond (is_bad_record s) ring (polled_ring_by (poll_way s e) s ring))

-- "Recovery takes the record from before a cut call and acts as unplugged, zeroing the ring also where no channel was live"
abbrev pub recovered : IsoChannelState → ℕ → IsoReply
recovered s words =
    cond (ltb words (ring_words s.cfg)) (refused_reply ShortBuffer s)
    (cond (is_bad_record s) (refused_reply BadRecord s) (reply (Ok tt) false false (ended outcome.Disconnected s)))

abbrev pub recovered_ring : IsoChannelState → List ℕ → List ℕ
recovered_ring s ring = cond (ltb (length ring) (ring_words s.cfg)) ring (cond (is_bad_record s) ring (ended_ring s ring))

-- "Reset, when all is empty, sets the cursor to 0." 16: reset while not empty
abbrev pub is_empty : IsoChannelState → Bool
is_empty s = not (not (eqb s.head.count 0) || has_reason s.fatal)

abbrev pub at_start : IsoChannelState → IsoChannelState
at_start s =
    record {
      cfg = s.cfg;
      head =
          record {
            next_request_id = s.head.next_request_id;
            live = s.head.live;
            td_last = 0;
            start_full_frame = s.head.start_full_frame;
            done = s.head.done;
            count = s.head.count;
          };
      fatal = s.fatal;
      requests = s.requests;
      plans = s.plans;
    }

abbrev pub reset_reply : IsoChannelState → IsoReply
reset_reply s =
    cond (is_bad_record s) (refused_reply BadRecord s) (cond (is_empty s) (reply (Ok tt) false false (at_start s)) (refused_reply NotEmpty s))
