-- Definitions that no code has: wrong rules, each with the name of the right one. An edit of must-fail/ puts it in the right one's place, and a fact for the
-- reader, which is false of it, is refused.
use Rattle.std.specs.Prelude.{false, cond, Ok, List, ℕ, ◌-◌, ltb, length}
use Rattle.std.proofs.Math.Seq.{slice}
use Rattle.session.specs.declared.types.IsoPacketPlan.{IsoPacketPlan}
use Rattle.session.specs.declared.types.IsoChannelState.{IsoChannelState}
use Rattle.session.specs.declared.refusal.IsoRefusal.TheVariants.{NotEmpty, BadRecord}
use Rattle.session.specs.declared.reply.IsoReply.{IsoReply}
use Rattle.session.specs.Session.{ring_words, packets_of, all_packets}
use Rattle.session.specs.Record.{is_bad_record}
use Rattle.session.specs.declared.transfer.IsoTransfer.{IsoTransfer}
use Rattle.session.specs.declared.transfer.SubmitWay.{SubmitWay}
use Rattle.session.specs.declared.transfer.SubmitWay.TheVariants.{TooLong, Early, Cut, Late, Accept}
use Rattle.session.specs.declared.transfer.Submitted.{Submitted}
use Rattle.ring.specs.RingSums.{starting_frame}
use Rattle.session.specs.Way.{submit_way}
use Rattle.session.specs.Submit.{with_head, spent, answer_of, start_after}
use Rattle.session.specs.Submit as rightly
use Rattle.session.specs.End.{ended_ring}
use Rattle.session.specs.Settle as right
use Rattle.session.specs.Settle.{one_more}
use Rattle.session.specs.Poll.{refused_reply, reply, is_empty}

-- clash_with_newest_only: the plans of the newest request alone
abbrev pub pending_plans : IsoChannelState → List IsoPacketPlan
pending_plans s = slice (all_packets s - packets_of (slice (s.head.count - 1) s.head.count s.requests)) (all_packets s) s.plans

-- newest_settled_first: settling takes the newest request for the oldest
abbrev newest : IsoChannelState → IsoChannelState
newest s = with_head s (record s.head { done = s.head.count - 1 })

abbrev pub settled_session : IsoChannelState → List ℕ → IsoChannelState
settled_session s ring = with_head (right.settled_session (newest s) ring) (one_more s.head)

-- recovery_leaves_an_idle_ring: recovery zeroes the ring of a live channel only
abbrev pub recovered_ring : IsoChannelState → List ℕ → List ℕ
recovered_ring s ring =
    cond (ltb (length ring) (ring_words s.cfg)) ring (cond (is_bad_record s) ring (cond s.head.live (ended_ring s ring) ring))

-- reset_zeroes_the_start: reset sets cursor and start to 0
abbrev pub at_start : IsoChannelState → IsoChannelState
at_start s = with_head s (record s.head { td_last = 0; start_full_frame = 0 })

abbrev pub reset_reply : IsoChannelState → IsoReply
reset_reply s =
    cond (is_bad_record s) (refused_reply BadRecord s) (cond (is_empty s) (reply (Ok tt) false false (at_start s)) (refused_reply NotEmpty s))

-- ---- a submission

abbrev After : Type 0
After = SubmitWay → IsoChannelState → IsoTransfer → List ℕ → List ℕ → IsoChannelState

-- the answer and the start are the right ones
abbrev submitted_with : After → IsoChannelState → IsoTransfer → List ℕ → List ℕ → Submitted
submitted_with after s t lengths ring =
    let way = submit_way s t lengths ring in
    record { answer = answer_of way s; start = start_after way s t; session = after way s t lengths ring }

-- number_saved_on_refusal_9: a packet that is too long leaves the session as it is
abbrev pub session_unspent : After
session_unspent (TooLong i) s t lengths ring = s
session_unspent way s t lengths ring = rightly.session_after way s t lengths ring

abbrev pub submitted_unspent : IsoChannelState → IsoTransfer → List ℕ → List ℕ → Submitted
submitted_unspent = submitted_with session_unspent

-- cut_session_with_number_drawn: a cut submission spends its number
abbrev pub session_drawn : After
session_drawn Cut s t lengths ring = with_head s (spent s.head)
session_drawn way s t lengths ring = rightly.session_after way s t lengths ring

abbrev pub submitted_drawn : IsoChannelState → IsoTransfer → List ℕ → List ℕ → Submitted
submitted_drawn = submitted_with session_drawn

-- start_by_second_reading: an accepted submission starts by the second reading
abbrev pub accepted_later : IsoChannelState → IsoTransfer → List ℕ → List ℕ → IsoChannelState
accepted_later s t lengths ring =
    let r = rightly.accepted s t lengths ring in
    with_head r (record r.head { start_full_frame = cond s.head.live s.head.start_full_frame (starting_frame s.cfg.speed t.frame_reading) })

abbrev pub session_later : After
session_later Accept s t lengths ring = accepted_later s t lengths ring
session_later way s t lengths ring = rightly.session_after way s t lengths ring

abbrev pub submitted_later : IsoChannelState → IsoTransfer → List ℕ → List ℕ → Submitted
submitted_later = submitted_with session_later

-- ring_left_on_14: a gate that is shut leaves the ring as it is
abbrev pub ring_left : SubmitWay → IsoChannelState → IsoTransfer → List ℕ → List ℕ → List ℕ
ring_left Early s t lengths ring = ring
ring_left Late s t lengths ring = ring
ring_left way s t lengths ring = rightly.ring_after way s t lengths ring

abbrev pub submitted_ring_left : IsoChannelState → IsoTransfer → List ℕ → List ℕ → List ℕ
submitted_ring_left s t lengths ring = ring_left (submit_way s t lengths ring) s t lengths ring
