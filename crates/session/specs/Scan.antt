-- What a submission reads of the session on one walk, and what its way leaves of the small parts: results of the inner functions, which are
-- handed parts of a session and not its tables.
use Rattle.std.specs.Prelude.{◌≡◌, Bool, true, false, Option, Some, None, List, [], ℕ, ◌+◌, ◌≤◌, ◌<◌, length, get_or, take}
use Rattle.ring.specs.RingSums.{next_number}
use Rattle.session.specs.declared.types.IsoConfig.{IsoConfig}
use Rattle.session.specs.declared.types.IsoHead.{IsoHead}
use Rattle.session.specs.declared.types.IsoHaltReason.{IsoHaltReason}
use Rattle.session.specs.declared.types.IsoRequest.{IsoRequest}
use Rattle.session.specs.declared.types.IsoPacketPlan.{IsoPacketPlan}
use Rattle.session.specs.declared.types.IsoChannelState.{IsoChannelState}
use Rattle.session.specs.declared.record.RecordScan.{RecordScan}
use Rattle.session.specs.declared.transfer.IsoTransfer.{IsoTransfer}
use Rattle.session.specs.declared.transfer.SubmitScan.{SubmitScan}
use Rattle.session.specs.declared.transfer.SubmitWay.{SubmitWay}
use Rattle.session.specs.declared.transfer.SubmitWay.TheVariants.{Refuse, TooLong, Spend, Early, Cut, Late, Accept}
use Rattle.session.specs.Session.{slots, ring_words, cleared, all_packets, pending_packets}
use Rattle.session.specs.Record.{any_bad_plan, is_bad_record}
use Rattle.ring.specs.Stores.{stored, stores_from}
use Rattle.session.specs.Place.{step_of, start_at, tail_slot, insert_of}
use Rattle.session.specs.Way.{is_held, pending_plans, is_clash}
use Rattle.session.specs.Submit.{spent, unplugged}

-- a session by its parts, and one of which only the configuration and the numbers are read
abbrev pub whole : IsoConfig → IsoHead → Option IsoHaltReason → List IsoRequest → List IsoPacketPlan → IsoChannelState
whole cfg h fatal requests plans = record { cfg = cfg; head = h; fatal = fatal; requests = requests; plans = plans }

abbrev pub only : IsoConfig → IsoHead → IsoChannelState
only cfg h = whole cfg h None [] []

-- what the walk finds in a good record
pub record Walked (s : IsoChannelState) (r : RecordScan) : Type 0 where
  pub all : r.all ≡ all_packets s
  pub pending : r.pending ≡ pending_packets s
  pub tail : r.tail ≡ tail_slot s
  pub held : (k : ℕ) → k < 256 → get_or r.held k false ≡ is_held (pending_plans s) k

-- the slots that the plans of pending packets have, where none of these is bad
abbrev pub Marked : ℕ → ℕ → List IsoPacketPlan → Option (List Bool) → Type 0
Marked limit size plans None = any_bad_plan limit size plans ≡ true
Marked limit size plans (Some held) = (any_bad_plan limit size plans ≡ false) × ((k : ℕ) → k < 256 → get_or held k false ≡ is_held plans k)

-- a record that the walk finds nothing of is bad
abbrev pub Scanned : IsoChannelState → Option RecordScan → Type 0
Scanned s None = is_bad_record s ≡ true
Scanned s (Some r) = (is_bad_record s ≡ false) × Walked s r

-- what a submission asks of a good record; more than 255 packets are refused before 13 is asked
pub record Found (s : IsoChannelState) (t : IsoTransfer) (lengths ring : List ℕ) (r : SubmitScan) : Type 0 where
  pub all : r.all ≡ all_packets s
  pub pending : r.pending ≡ pending_packets s
  pub insert : r.insert ≡ insert_of s t ring
  pub clash : length lengths ≤ 255 → r.clash ≡ is_clash s t ring (length lengths)

-- where the record is bad nothing is asked, and nothing is read of this
abbrev pub none_asked : SubmitScan
none_asked = record { all = 0; pending = 0; insert = 0; clash = false }

abbrev pub Asked : IsoChannelState → IsoTransfer → List ℕ → List ℕ → Option SubmitScan → Type 0
Asked s t lengths ring None = is_bad_record s ≡ true
Asked s t lengths ring (Some r) = (is_bad_record s ≡ false) × Found s t lengths ring r

-- the ways that pass every refusal before the gates
abbrev pub is_gate : SubmitWay → Bool
is_gate (Refuse r) = false
is_gate (TooLong i) = false
is_gate (Spend r) = false
is_gate Early = true
is_gate Cut = true
is_gate Late = true
is_gate Accept = true

-- the packets that an accepted submission adds; no other adds any
abbrev pub added : SubmitWay → ℕ → ℕ
added (Refuse r) count = 0
added (TooLong i) count = 0
added (Spend r) count = 0
added Early count = 0
added Cut count = 0
added Late count = 0
added Accept count = count

-- the numbers that the way leaves, where `slot` is the slot after the last packet
abbrev pub head_after : SubmitWay → IsoConfig → IsoHead → IsoTransfer → ℕ → IsoHead
head_after (Refuse r) cfg h t slot = h
head_after (TooLong i) cfg h t slot = spent h
head_after (Spend r) cfg h t slot = spent h
head_after Early cfg h t slot = unplugged h
head_after Cut cfg h t slot = h
head_after Late cfg h t slot = unplugged h
head_after Accept cfg h t slot =
    record {
      next_request_id = next_number h.next_request_id;
      live = true;
      td_last = slot;
      start_full_frame = start_at cfg h t;
      done = h.done;
      count = h.count + 1;
    }

-- the ring that it leaves, with the first packet at `insert`
abbrev pub ring_by : SubmitWay → IsoConfig → IsoTransfer → ℕ → List ℕ → List ℕ → List ℕ
ring_by (Refuse r) cfg t insert lengths ring = ring
ring_by (TooLong i) cfg t insert lengths ring = ring
ring_by (Spend r) cfg t insert lengths ring = ring
ring_by Early cfg t insert lengths ring = cleared (ring_words cfg) ring
ring_by Cut cfg t insert lengths ring = stored (take t.words (stores_from (slots cfg) insert (step_of cfg) 0 t.base lengths)) ring
ring_by Late cfg t insert lengths ring = cleared (ring_words cfg) ring
ring_by Accept cfg t insert lengths ring = stored (take t.words (stores_from (slots cfg) insert (step_of cfg) 0 t.base lengths)) ring
