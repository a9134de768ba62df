-- Settling: document 01, "Poll". "The complete bit settles the oldest request whatever its descriptors say; after it, or with no bit, each oldest one
-- whose last descriptor is inactive."
use Rattle.std.specs.Prelude.{Bool, true, false, not, ◌||◌, cond, List, [], ◌∷◌, map, ℕ, zero, suc, ◌+◌, ◌-◌, ◌*◌, get_or, set}
use Rattle.std.proofs.Math.Seq.{slice}
use Rattle.std.proofs.lemmas.List.Edits.{sets}
use Rattle.words.specs.Words.{is_set, active, is_packet_error, moved_length}
use Rattle.words.specs.declared.types.Direction.{Direction}
use Rattle.session.specs.declared.types.IsoOutcome.TheVariants.{Done}
use Rattle.session.specs.declared.types.IsoRequest.{IsoRequest}
use Rattle.session.specs.declared.types.IsoPacketPlan.{IsoPacketPlan}
use Rattle.session.specs.declared.types.TransferStatus.{TransferStatus}
use Rattle.session.specs.declared.types.TransferStatus.TheVariants.{Completed, Error}
use Rattle.session.specs.declared.types.IsoHead.{IsoHead}
use Rattle.session.specs.declared.types.IsoChannelState.{IsoChannelState}
use Rattle.session.specs.Session.{blank_request, blank_plan, packets_of}

abbrev pub status_of : Bool → TransferStatus
status_of true = Error
status_of false = Completed

-- a plan with what its descriptor's status word says, the word given and read from the ring
abbrev pub settled_by : Direction → IsoPacketPlan → ℕ → IsoPacketPlan
settled_by dir p status =
    record {
      planned = p.planned;
      desc_index = p.desc_index;
      actual = moved_length dir p.planned status;
      status = status_of (is_packet_error status);
    }

abbrev pub settled_plan : Direction → List ℕ → IsoPacketPlan → IsoPacketPlan
settled_plan dir ring p = settled_by dir p (get_or ring (2 * p.desc_index) 0)

-- the oldest pending request, and where its plans begin and end
abbrev pub oldest : IsoChannelState → IsoRequest
oldest s = get_or s.requests s.head.done blank_request

abbrev pub oldest_from : IsoChannelState → ℕ
oldest_from s = packets_of (slice 0 s.head.done s.requests)

abbrev pub oldest_to : IsoChannelState → ℕ
oldest_to s = oldest_from s + (oldest s).packets

abbrev pub oldest_plans : IsoChannelState → List IsoPacketPlan
oldest_plans s = slice (oldest_from s) (oldest_to s) s.plans

abbrev pub settled_plans : IsoChannelState → List ℕ → List IsoPacketPlan
settled_plans s ring = map (settled_plan s.cfg.direction ring) (oldest_plans s)

-- "A completion gives these, their sum and each packet's status."
abbrev pub moved_total : List IsoPacketPlan → ℕ
moved_total [] = 0
moved_total (p ∷ ps) = p.actual + moved_total ps

abbrev pub settled_request : IsoChannelState → List ℕ → IsoRequest
settled_request s ring =
    record { id = (oldest s).id; packets = (oldest s).packets; actual_length = moved_total (settled_plans s ring); outcome = Done }

abbrev pub one_more : IsoHead → IsoHead
one_more h =
    record {
      next_request_id = h.next_request_id;
      live = h.live;
      td_last = h.td_last;
      start_full_frame = h.start_full_frame;
      done = h.done + 1;
      count = h.count;
    }

abbrev pub settled_session : IsoChannelState → List ℕ → IsoChannelState
settled_session s ring =
    record {
      cfg = s.cfg;
      head = one_more s.head;
      fatal = s.fatal;
      requests = set s.requests s.head.done (settled_request s ring);
      plans = sets s.plans (oldest_from s) (settled_plans s ring);
    }

-- "Settled slots become zero.", both words, after all of them were read
abbrev pub slots_cleared : List IsoPacketPlan → List ℕ → List ℕ
slots_cleared [] ring = ring
slots_cleared (p ∷ ps) ring = slots_cleared ps (set (set ring (2 * p.desc_index) 0) (2 * p.desc_index + 1) 0)

abbrev pub settled_ring : IsoChannelState → List ℕ → List ℕ
settled_ring s ring = slots_cleared (oldest_plans s) ring

-- the oldest request's last descriptor is inactive
abbrev pub is_served : IsoChannelState → List ℕ → Bool
is_served s ring = not (is_set active (get_or ring (2 * (get_or s.plans (oldest_to s - 1) blank_plan).desc_index) 0))

pub record Drained : Type 0 where
  pub session : IsoChannelState
  pub ring : List ℕ

-- at most so many requests, the first of them at once where the bit is set
abbrev pub drain : ℕ → Bool → IsoChannelState → List ℕ → Drained
drain zero bit s ring = record { session = s; ring = ring }
drain (suc k) bit s ring =
    cond (bit || is_served s ring) (drain k false (settled_session s ring) (settled_ring s ring)) (record { session = s; ring = ring })

abbrev pub drained : Bool → IsoChannelState → List ℕ → Drained
drained bit s ring = drain (s.head.count - s.head.done) bit s ring
