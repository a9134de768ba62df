-- What a submission leaves, by its way: document 01, "Submit": the session, the ring's words, the answer and the words that start the channel.
use Rattle.std.specs.Prelude.{true, false, cond, Option, Some, None, Result, Ok, Err, List, ℕ, ◌+◌, max, length, set, take}
use Rattle.std.proofs.lemmas.List.Edits.{sets}
use Rattle.words.specs.Words.{hcchar_word, hctsiz_word, iso_hcintmsk}
use Rattle.words.specs.declared.types.Dwc2EpType.TheVariants.{Isochronous}
use Rattle.ring.specs.Stores.{stored}
use Rattle.ring.specs.RingSums.{slot_at, schinfo, pid_of, service_frames, frame_table, next_number}
use Rattle.session.specs.declared.types.IsoHead.{IsoHead}
use Rattle.session.specs.declared.types.IsoRequest.{IsoRequest}
use Rattle.session.specs.declared.types.IsoChannelState.{IsoChannelState}
use Rattle.session.specs.declared.types.IsoOutcome.TheVariants.{Done}
use Rattle.session.specs.declared.transfer.IsoTransfer.{IsoTransfer}
use Rattle.session.specs.declared.transfer.IsoChannelStart.{IsoChannelStart}
use Rattle.session.specs.declared.transfer.SubmitWay.{SubmitWay}
use Rattle.session.specs.declared.transfer.SubmitWay.TheVariants.{Refuse, TooLong, Spend, Early, Cut, Late, Accept}
use Rattle.session.specs.declared.transfer.IsoSubmission.{IsoSubmission}
use Rattle.session.specs.declared.transfer.IsoSubmission.TheVariants as submission
use Rattle.session.specs.declared.refusal.IsoRefusal.{IsoRefusal}
use Rattle.session.specs.declared.refusal.IsoRefusal.TheVariants.{PacketTooLong, Unplugged}
use Rattle.session.specs.declared.transfer.Submitted.{Submitted}
use Rattle.session.specs.Session.{slots, ring_words, cleared, all_packets}
use Rattle.session.specs.Place.{step_of, start_of, insert_of, stores_of, plans_from}
use Rattle.session.specs.Way.{submit_way}

abbrev pub with_head : IsoChannelState → IsoHead → IsoChannelState
with_head s h = record { cfg = s.cfg; head = h; fatal = s.fatal; requests = s.requests; plans = s.plans }

-- "Numbers 9 to 14 spend a request number"
abbrev pub spent : IsoHead → IsoHead
spent h =
    record {
      next_request_id = next_number h.next_request_id;
      live = h.live;
      td_last = h.td_last;
      start_full_frame = h.start_full_frame;
      done = h.done;
      count = h.count;
    }

-- "14 also leaves ring, cursor and start zero"
abbrev pub unplugged : IsoHead → IsoHead
unplugged h =
    record {
      next_request_id = next_number h.next_request_id;
      live = h.live;
      td_last = 0;
      start_full_frame = 0;
      done = h.done;
      count = h.count;
    }

-- an accepted request stands behind the others, its plans behind theirs; "the cursor becomes insert + n × interval mod R"
abbrev pub started_head : IsoChannelState → IsoTransfer → ℕ → ℕ → IsoHead
started_head s t insert n =
    record {
      next_request_id = next_number s.head.next_request_id;
      live = true;
      td_last = slot_at (slots s.cfg) insert (step_of s.cfg) n;
      start_full_frame = start_of s t;
      done = s.head.done;
      count = s.head.count + 1;
    }

abbrev pub new_request : ℕ → ℕ → IsoRequest
new_request id n = record { id = id; packets = n; actual_length = 0; outcome = Done }

abbrev pub accepted_at : IsoChannelState → IsoTransfer → ℕ → List ℕ → IsoChannelState
accepted_at s t insert lengths =
    record {
      cfg = s.cfg;
      head = started_head s t insert (length lengths);
      fatal = s.fatal;
      requests = set s.requests s.head.count (new_request s.head.next_request_id (length lengths));
      plans = sets s.plans (all_packets s) (plans_from (slots s.cfg) insert (step_of s.cfg) 0 lengths);
    }

abbrev pub accepted : IsoChannelState → IsoTransfer → List ℕ → List ℕ → IsoChannelState
accepted s t lengths ring = accepted_at s t (insert_of s t ring) lengths

abbrev pub session_after : SubmitWay → IsoChannelState → IsoTransfer → List ℕ → List ℕ → IsoChannelState
session_after (Refuse r) s t lengths ring = s
session_after (TooLong i) s t lengths ring = with_head s (spent s.head)
session_after (Spend r) s t lengths ring = with_head s (spent s.head)
session_after Early s t lengths ring = with_head s (unplugged s.head)
session_after Cut s t lengths ring = s
session_after Late s t lengths ring = with_head s (unplugged s.head)
session_after Accept s t lengths ring = accepted s t lengths ring

-- "Cut or whole, the same loop stores them": the first words of the planned ones
abbrev pub ring_after : SubmitWay → IsoChannelState → IsoTransfer → List ℕ → List ℕ → List ℕ
ring_after (Refuse r) s t lengths ring = ring
ring_after (TooLong i) s t lengths ring = ring
ring_after (Spend r) s t lengths ring = ring
ring_after Early s t lengths ring = cleared (ring_words s.cfg) ring
ring_after Cut s t lengths ring = stored (take t.words (stores_of s t lengths ring)) ring
ring_after Late s t lengths ring = cleared (ring_words s.cfg) ring
ring_after Accept s t lengths ring = stored (stores_of s t lengths ring) ring

abbrev pub answer_of : SubmitWay → IsoChannelState → Result IsoSubmission IsoRefusal
answer_of (Refuse r) s = Err r
answer_of (TooLong i) s = Err (PacketTooLong i)
answer_of (Spend r) s = Err r
answer_of Early s = Err Unplugged
answer_of Cut s = Ok submission.Cut
answer_of Late s = Err Unplugged
answer_of Accept s = Ok (submission.Accepted s.head.next_request_id)

-- "Accepted, it hands out HCCHAR, HCTSIZ for R descriptors, the frame list and the interrupt mask"
abbrev pub start_words : IsoChannelState → IsoTransfer → IsoChannelStart
start_words s t =
    record {
      hcchar =
          hcchar_word
          s.cfg.device
          s.cfg.endpoint
          s.cfg.direction
          Isochronous
          (max 1 s.cfg.max_packet_size)
          false
          s.cfg.mult
          false;
      hctsiz =
          hctsiz_word (pid_of s.cfg.speed s.cfg.direction s.cfg.mult) (slots s.cfg) (schinfo s.cfg.speed s.cfg.interval);
      hcintmsk = iso_hcintmsk s.cfg.direction;
      frames = frame_table (service_frames (start_of s t) s.cfg.interval s.cfg.speed);
    }

abbrev pub start_after : SubmitWay → IsoChannelState → IsoTransfer → Option IsoChannelStart
start_after (Refuse r) s t = None
start_after (TooLong i) s t = None
start_after (Spend r) s t = None
start_after Early s t = None
start_after Cut s t = None
start_after Late s t = None
start_after Accept s t = cond s.head.live None (Some (start_words s t))

abbrev pub submitted_by : SubmitWay → IsoChannelState → IsoTransfer → List ℕ → List ℕ → Submitted
submitted_by way s t lengths ring =
    record { answer = answer_of way s; start = start_after way s t; session = session_after way s t lengths ring }

abbrev pub submitted : IsoChannelState → IsoTransfer → List ℕ → List ℕ → Submitted
submitted s t lengths ring =
    submitted_by (submit_way s t lengths ring) s t lengths ring

abbrev pub submitted_ring : IsoChannelState → IsoTransfer → List ℕ → List ℕ → List ℕ
submitted_ring s t lengths ring = ring_after (submit_way s t lengths ring) s t lengths ring
