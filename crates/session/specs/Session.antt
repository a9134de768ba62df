-- The session of document 01, "The session": blank entries, what the tables hold, and the ring's words.
use Rattle.std.specs.Prelude.{List, [], ◌∷◌, ◌++◌, Bool, true, false, Option, Some, None, ℕ, ◌+◌, ◌*◌, drop, replicate}
use Rattle.std.proofs.Math.Seq.{slice}
use Rattle.ring.specs.RingSums.{ring_size, capacity}
use Rattle.session.specs.declared.types.IsoConfig.{IsoConfig}
use Rattle.session.specs.declared.types.IsoHaltReason.{IsoHaltReason}
use Rattle.session.specs.declared.types.IsoOutcome.TheVariants.{Done}
use Rattle.session.specs.declared.types.IsoRequest.{IsoRequest}
use Rattle.session.specs.declared.types.IsoPacketPlan.{IsoPacketPlan}
use Rattle.session.specs.declared.types.TransferStatus.TheVariants.{Completed}
use Rattle.session.specs.declared.types.IsoChannelState.{IsoChannelState}

abbrev pub blank_request : IsoRequest
blank_request = record { id = 0; packets = 0; actual_length = 0; outcome = Done }

abbrev pub blank_plan : IsoPacketPlan
blank_plan = record { planned = 0; desc_index = 0; actual = 0; status = Completed }

-- the ring's slots and words: status of slot s at word 2s, address at 2s + 1
abbrev pub slots : IsoConfig → ℕ
slots cfg = ring_size cfg.speed

abbrev pub ring_words : IsoConfig → ℕ
ring_words cfg = slots cfg * 2

-- the most packets in flight
abbrev pub room : IsoConfig → ℕ
room cfg = capacity cfg.interval (slots cfg)

-- the first words zero, those behind them as they were
abbrev pub cleared : ℕ → List ℕ → List ℕ
cleared words ring = replicate words 0 ++ drop words ring

-- the packets of some requests
abbrev pub packets_of : List IsoRequest → ℕ
packets_of [] = 0
packets_of (r ∷ rs) = r.packets + packets_of rs

-- completed requests first, then pending ones
abbrev pub pending_requests : IsoChannelState → List IsoRequest
pending_requests s = slice s.head.done s.head.count s.requests

abbrev pub all_packets : IsoChannelState → ℕ
all_packets s = packets_of (slice 0 s.head.count s.requests)

abbrev pub pending_packets : IsoChannelState → ℕ
pending_packets s = packets_of (pending_requests s)

abbrev pub has_reason : Option IsoHaltReason → Bool
has_reason None = false
has_reason (Some r) = true

-- a session without requests, channel or reason
abbrev pub idle_session : IsoConfig → IsoChannelState
idle_session cfg =
    record {
      cfg = cfg;
      head = record { next_request_id = 1; live = false; td_last = 0; start_full_frame = 0; done = 0; count = 0 };
      fatal = None;
      requests = replicate 64 blank_request;
      plans = replicate 1024 blank_plan;
    }
