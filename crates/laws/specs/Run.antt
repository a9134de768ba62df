-- A run of a camera session: an opening, then any list of steps. A step is a call or the controller's; every call is given the session and the ring as
-- the steps before it left them, and leaves what the session's own definitions say. Beside them a run keeps two lists that no code holds: what is laid
-- for the packets pending, and the request numbers used up.
use Rattle.std.specs.Prelude.{◌≡◌, Bool, ◌&&◌, cond, Option, Result, Ok, Err, List, [], ◌∷◌, ◌++◌, map, ℕ, ◌-◌, ◌*◌, eqb, ltb, length, get_or, set, drop}
use Rattle.words.specs.Words.{is_set, active}
use Rattle.session.specs.declared.types.IsoMode.TheVariants.{Guarded}
use Rattle.session.specs.declared.types.IsoConfig.{IsoConfig}
use Rattle.session.specs.declared.types.IsoChannelState.{IsoChannelState}
use Rattle.session.specs.declared.transfer.IsoTransfer.{IsoTransfer}
use Rattle.session.specs.declared.transfer.IsoSubmission.{IsoSubmission}
use Rattle.session.specs.declared.transfer.IsoSubmission.TheVariants.{Accepted, Cut}
use Rattle.session.specs.declared.refusal.IsoRefusal.{IsoRefusal}
use Rattle.session.specs.declared.reply.IsoEvent.{IsoEvent}
use Rattle.session.specs.Session.{slots, pending_packets}
use Rattle.session.specs.Open.{opened, opened_ring}
use Rattle.session.specs.Place.{insert_of, step_of}
use Rattle.session.specs.Submit.{submitted, submitted_ring}
use Rattle.session.specs.Poll.{polled, polled_ring, recovered, recovered_ring, reset_reply}
use Rattle.session.specs.Cancel.{cancelled}
use Rattle.session.specs.Reclaim.{reclaimed, reclaimed_ring}
use Rattle.laws.specs.Drawing.{Laid, planned_from, Distinct}

-- ---- the controller: "changes only the status word of active slots and never makes one active"

-- a word for the status of a slot
pub record Touch : Type 0 where
  pub slot : ℕ
  pub word : ℕ

-- the slot is one of the ring's and active now
abbrev pub may_touch : IsoConfig → Touch → List ℕ → Bool
may_touch cfg x ring = ltb x.slot (slots cfg) && is_set active (get_or ring (2 * x.slot) 0)

-- then the word is stored, else nothing: where no slot is written that is not active, none becomes active
abbrev pub touched : IsoConfig → Touch → List ℕ → List ℕ
touched cfg x ring = cond (may_touch cfg x ring) (set ring (2 * x.slot) x.word) ring

abbrev pub touched_by : IsoConfig → List Touch → List ℕ → List ℕ
touched_by cfg [] ring = ring
touched_by cfg (x ∷ xs) ring = touched_by cfg xs (touched cfg x ring)

-- what is laid, with the word for that slot's status
abbrev pub restated : Touch → Laid → Laid
restated x p = record { slot = p.slot; address = p.address; status = cond (eqb p.slot x.slot) x.word p.status }

abbrev pub put_touched : IsoConfig → Touch → List ℕ → List Laid → List Laid
put_touched cfg x ring put = cond (may_touch cfg x ring) (map (restated x) put) put

-- ---- the state of a run, and its steps

pub record State : Type 0 where
  pub session : IsoChannelState
  pub ring : List ℕ
  pub put : List Laid
  pub numbers : List ℕ

-- A submission that answers "cut" is followed by what the controller does meanwhile and then by its recovery; where it answers anything else, that list
-- is not used. Reclaim is lent so many results.
pub data Step : Type 0 where
  Submit : IsoTransfer → List ℕ → List Touch → Step
  Poll : Option IsoEvent → Step
  Reclaim : ℕ → Option IsoEvent → ℕ → Step
  Cancel : ℕ → Step
  Reset : Step
  Recover : Step
  Controller : Touch → Step

-- ---- what a call leaves

-- what a submission plans
abbrev pub planned : IsoChannelState → IsoTransfer → List ℕ → List ℕ → List Laid
planned s t lengths ring = planned_from (slots s.cfg) (insert_of s t ring) (step_of s.cfg) 0 t.base lengths

-- what is laid for the packets that are pending still: the oldest were settled
abbrev pub still_put : IsoChannelState → List Laid → List Laid
still_put s put = drop (length put - pending_packets s) put

-- a call after which the next number is another has used up the one before it
abbrev pub used_up : IsoChannelState → IsoChannelState → List ℕ → List ℕ
used_up before after numbers =
    cond (eqb before.head.next_request_id after.head.next_request_id) numbers (before.head.next_request_id ∷ numbers)

-- the state after a call that left this session and this ring
abbrev pub left : State → IsoChannelState → List ℕ → State
left st s ring = record { session = s; ring = ring; put = still_put s st.put; numbers = used_up st.session s st.numbers }

-- an accepted submission has laid what it planned
abbrev pub left_with : List Laid → State → IsoChannelState → List ℕ → State
left_with new st s ring = record { session = s; ring = ring; put = st.put ++ new; numbers = used_up st.session s st.numbers }

-- recovery takes the record that stood before the call
abbrev pub recover : State → List ℕ → State
recover st ring = left st (recovered st.session (length ring)).session (recovered_ring st.session ring)

abbrev pub submit_by : Result IsoSubmission IsoRefusal → State → IsoTransfer → List ℕ → List Touch → State
submit_by (Ok (Accepted id)) st t lengths between =
    left_with
    (planned st.session t lengths st.ring)
    st
    (submitted st.session t lengths st.ring).session
    (submitted_ring st.session t lengths st.ring)
submit_by (Ok Cut) st t lengths between = recover st (touched_by st.session.cfg between (submitted_ring st.session t lengths st.ring))
submit_by (Err r) st t lengths between =
    left st (submitted st.session t lengths st.ring).session (submitted_ring st.session t lengths st.ring)

abbrev pub step : State → Step → State
step st (Submit t lengths between) = submit_by (submitted st.session t lengths st.ring).answer st t lengths between
step st (Poll e) = left st (polled st.session e st.ring).session (polled_ring st.session e st.ring)
step st (Reclaim id e results) =
    left st (reclaimed st.session id e st.ring results).session (reclaimed_ring st.session id e st.ring results)
step st (Cancel id) = left st (cancelled st.session id).session st.ring
step st Reset = left st (reset_reply st.session).session st.ring
step st Recover = recover st st.ring
step st (Controller x) =
    record {
      session = st.session;
      ring = touched st.session.cfg x st.ring;
      put = put_touched st.session.cfg x st.ring st.put;
      numbers = st.numbers;
    }

abbrev pub run : State → List Step → State
run st [] = st
run st (x ∷ xs) = run (step st x) xs

-- ---- "a guarded session whose opening was accepted, .. no request number used up twice"

abbrev pub start : IsoConfig → List ℕ → State
start cfg ring = record { session = (opened cfg (length ring)).session; ring = opened_ring cfg ring; put = []; numbers = [] }

pub record GuardedRun : Type 0 where
  pub cfg : IsoConfig
  pub lent : List ℕ
  pub steps : List Step
  pub guarded : cfg.mode ≡ Guarded
  pub accepted : (opened cfg (length lent)).answer ≡ Ok tt
  pub once : Distinct (run (start cfg lent) steps).numbers

-- where the run stands
abbrev pub reached : GuardedRun → State
reached r = run (start r.cfg r.lent) r.steps
