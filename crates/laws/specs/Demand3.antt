-- Demand 3: what holds of every guarded run where a submission that would be accepted is stopped after any word. The quoted sentences are the demand's.
-- Not claimed, since false: that no pending slot lies at the new cursor; that an active slot's address word is not zero (a buffer may begin at 0).
use Rattle.std.specs.Prelude.{◌≡◌, true, Ok, List, map, ◌⊎◌, ℕ, ◌+◌, ◌*◌, ◌≤◌, ◌<◌, length, get_or, take}
use Rattle.words.specs.Words.{is_set, active}
use Rattle.ring.specs.RingSums.{slot_at}
use Rattle.session.specs.declared.types.IsoPacketPlan.{IsoPacketPlan}
use Rattle.session.specs.declared.transfer.IsoTransfer.{IsoTransfer}
use Rattle.session.specs.declared.transfer.Submitted.{Submitted}
use Rattle.session.specs.declared.transfer.IsoSubmission.TheVariants.{Accepted}
use Rattle.session.specs.declared.reply.IsoReply.{IsoReply}
use Rattle.session.specs.Session.{slots, ring_words}
use Rattle.ring.specs.Stores.{stored}
use Rattle.session.specs.Place.{insert_of, step_of}
use Rattle.session.specs.Way.{pending_plans}
use Rattle.session.specs.Submit.{submitted, submitted_ring}
use Rattle.session.specs.Poll.{recovered, recovered_ring}
use Rattle.session.specs.Reclaim.{request_of}
use Rattle.laws.specs.Drawing.{Laid, blank_laid, words_of, slot_of, word_at, Holds, Among, Absent}
use Rattle.laws.specs.Ending.{IdleAfter, Disconnected}
use Rattle.laws.specs.Run.{State, Touch, touched_by, planned, GuardedRun, reached}

-- ---- an accepted submission, stopped

-- the same transfer with so many words to store
abbrev pub up_to : ℕ → IsoTransfer → IsoTransfer
up_to k t =
    record {
      isochronous = t.isochronous;
      has_buffer = t.has_buffer;
      buffer_len = t.buffer_len;
      base = t.base;
      start_reading = t.start_reading;
      frame_reading = t.frame_reading;
      channel_free = t.channel_free;
      gate_program = t.gate_program;
      gate_enable = t.gate_enable;
      words = k;
    }

-- a transfer that is accepted where it may store both words of each packet
pub record Submission (st : State) : Type 0 where
  pub transfer : IsoTransfer
  pub lengths : List ℕ
  pub id : ℕ
  pub accepted : (submitted st.session (up_to (2 * length lengths) transfer) lengths st.ring).answer ≡ Ok (Accepted id)

module _ (st : State) (x : Submission st) where
  -- the whole call
  abbrev pub whole : Submitted
  whole = submitted st.session (up_to (2 * length x.lengths) x.transfer) x.lengths st.ring

  -- the ring that it leaves where it is stopped after k words
  abbrev pub stopped : ℕ → List ℕ
  stopped k = submitted_ring st.session (up_to k x.transfer) x.lengths st.ring

  -- what it plans to lay, and the slot of packet i
  abbrev pub plan : List Laid
  plan = planned st.session x.transfer x.lengths st.ring

  abbrev pub slot_of_packet : ℕ → ℕ
  slot_of_packet i = slot_at (slots st.session.cfg) (insert_of st.session x.transfer st.ring) (step_of st.session.cfg) i

abbrev pub slot_of_plan : IsoPacketPlan → ℕ
slot_of_plan p = p.desc_index

-- ---- the ring where it was stopped

pub record Stopped (st : State) (x : Submission st) (k : ℕ) (ring : List ℕ) : Type 0 where
  -- "Every pending slot holds what its own submission and the controller put there." What is put is for the pending packets, in their order.
  pub pending_slots : map slot_of st.put ≡ map slot_of_plan (pending_plans st.session)
  pub pending_held : (i : ℕ) → i < length st.put → Holds ring (get_or st.put i blank_laid)
  -- "The new words are exactly a leading run of the planned ones:"
  pub leading_run : ring ≡ stored (take k (words_of (plan st x))) st.ring
  -- "distinct slots,"
  pub slots_differ : (i j : ℕ) → i < j → j < length x.lengths → slot_of_packet st x i ≡ slot_of_packet st x j → ⊥
  -- "an interval apart,"
  pub packets : length (plan st x) ≡ length x.lengths
  pub interval_apart : (i : ℕ) → i < length x.lengths → (get_or (plan st x) i blank_laid).slot ≡ slot_of_packet st x i
  -- "none at the new cursor."
  pub off_cursor : (i : ℕ) → i < length x.lengths → slot_of_packet st x i ≡ (whole st x).session.head.td_last → ⊥
  -- "Each active slot has both its words;": it is a pending one, which `pending_held` speaks of, or a planned one with both words among the first k
  pub active_whole :
      (slot : ℕ) → slot < slots st.session.cfg → is_set active (get_or ring (2 * slot) 0) ≡ true
      → Among slot (map slot_of st.put)
      ⊎ ((i : ℕ) × (2 * i + 2 ≤ k) × (i < length x.lengths) × (slot_of_packet st x i ≡ slot) × Holds ring (get_or (plan st x) i blank_laid))
  -- "every ring word that is neither a pending slot's nor new is zero."
  pub others_zero :
      (w : ℕ) → w < ring_words st.session.cfg → Absent w (map word_at (words_of st.put)) → Absent w (map word_at (take k (words_of (plan st x))))
      → get_or ring w 0 ≡ 0

-- ---- the recovery that follows, whatever the controller did meanwhile

-- the ring that recovery finds
abbrev pub found : (st : State) → Submission st → ℕ → List Touch → List ℕ
found st x k meanwhile = touched_by st.session.cfg meanwhile (stopped st x k)

pub record Recovered (st : State) (x : Submission st) (r : IsoReply) (ring : List ℕ) : Type 0 where
  pub answered : r.answer ≡ Ok tt
  -- "Recovery from the record before that call then yields a zero ring,"
  pub ring_zero : (w : ℕ) → w < ring_words st.session.cfg → get_or ring w 0 ≡ 0
  -- "an idle session,"
  pub idle : IdleAfter st.session r.session
  -- "and each pending request reported disconnected": in order, behind those completed, which stay
  pub disconnected :
      (i : ℕ) → st.session.head.done ≤ i → i < st.session.head.count → Disconnected (request_of i st.session) (request_of i r.session)
  pub completed_stay : (i : ℕ) → i < st.session.head.done → request_of i r.session ≡ request_of i st.session
  -- "once,": no two of the requests reported have one number
  pub once : (i j : ℕ) → i < j → j < st.session.head.count → (request_of i r.session).id ≡ (request_of j r.session).id → ⊥
  -- "the same wherever the cut fell."
  pub same_reply :
      (k : ℕ) → k ≤ 2 * length x.lengths → (meanwhile : List Touch) → recovered st.session (length (found st x k meanwhile)) ≡ r
  pub same_ring : (k : ℕ) → k ≤ 2 * length x.lengths → (meanwhile : List Touch) → recovered_ring st.session (found st x k meanwhile) ≡ ring

-- ---- the theorem

abbrev pub Demand3 : Type 0
Demand3 =
    (r : GuardedRun) (x : Submission (reached r)) (k : ℕ) → k ≤ 2 * length x.lengths → (meanwhile : List Touch)
    → Stopped (reached r) x k (stopped (reached r) x k)
    × Recovered
    (reached r)
    x
    (recovered (reached r).session (length (found (reached r) x k meanwhile)))
    (recovered_ring (reached r).session (found (reached r) x k meanwhile))
