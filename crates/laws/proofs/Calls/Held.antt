-- The test of refusal 13, as a session in guarded mode makes it: it holds just where a slot that the submission would write belongs to a pending request.
-- GuardedMode.antt goes on from here.
use mathlib.Core.Path.{◌≡◌, ◌∙◌, sym, ap, subst, subst⁻¹}
use mathlib.Core.List.{List}
use mathlib.Core.Bool.{Bool, true}
use Prim.Native.Nat.{ℕ, ◌<◌}
use native.Mathlib.Nat.{zero-add}
use lib.ListN.{length, get_or}
use Rattle.ring.specs.RingSums.{slot_at, slots_from}
use Rattle.ring.proofs.Steps.{length-slots_from, get_or-slots_from}
use Rattle.session.specs.declared.types.IsoChannelState.{IsoChannelState}
use Rattle.session.specs.declared.types.IsoMode.{IsoMode}
use Rattle.session.specs.declared.types.IsoMode.TheVariants.{Guarded}
use Rattle.session.specs.declared.transfer.IsoTransfer.{IsoTransfer}
use Rattle.session.specs.Session.{blank_plan, slots}
use Rattle.session.specs.Way.{pending_plans}
use Rattle.session.specs.Place.{step_of, insert_of}
use Rattle.session.specs.Way.{is_clash}
use Rattle.laws.proofs.Calls.Guarded.{held_by, held_where, any_held_by, any_held_where}

-- ---- what the theorems speak of

-- a session in another mode
abbrev pub in_mode : IsoMode → IsoChannelState → IsoChannelState
in_mode m s =
    record {
      cfg =
          record {
            speed = s.cfg.speed;
            direction = s.cfg.direction;
            interval = s.cfg.interval;
            endpoint = s.cfg.endpoint;
            device = s.cfg.device;
            max_packet_size = s.cfg.max_packet_size;
            mult = s.cfg.mult;
            mode = m;
          };
      head = s.head;
      fatal = s.fatal;
      requests = s.requests;
      plans = s.plans;
    }

-- a slot that the submission would write belongs to a pending request: packet i's slot is that of pending plan k
pub record SlotHeld (s : IsoChannelState) (t : IsoTransfer) (lengths ring : List ℕ) : Type 0 where
  pub i : ℕ
  pub k : ℕ
  pub packet : i < length lengths
  pub pending : k < length (pending_plans s)
  pub same : (get_or (pending_plans s) k blank_plan).desc_index ≡ slot_at (slots s.cfg) (insert_of s t ring) (step_of s.cfg) i

-- ---- what they lean on

-- the test of 13, as a session in guarded mode makes it
abbrev pub test_held : IsoChannelState → IsoTransfer → List ℕ → List ℕ → Bool
test_held s t lengths ring = is_clash (in_mode Guarded s) t ring (length lengths)

-- it says that a slot is held, and back
pub slot_held : (s : IsoChannelState) (t : IsoTransfer) (lengths ring : List ℕ) → test_held s t lengths ring ≡ true → SlotHeld s t lengths ring
slot_held s t lengths ring e =
    let R = slots s.cfg in
    let insert = insert_of s t ring in
    let step = step_of s.cfg in
    let n = length lengths in
    let f = any_held_by (pending_plans s) (slots_from R insert step 0 n) e in
    let g = held_by (pending_plans s) (get_or (slots_from R insert step 0 n) f.0 0) f.2 in
    let packet : f.0 < n = subst (λ (k : ℕ). f.0 < k) (length-slots_from R insert step 0 n) f.1 in
    record {
      i = f.0;
      k = g.0;
      packet = packet;
      pending = g.1;
      same = g.2 ∙ get_or-slots_from R insert step 0 n f.0 packet ∙ ap (slot_at R insert step) (zero-add f.0);
    }

pub held_test : (s : IsoChannelState) (t : IsoTransfer) (lengths ring : List ℕ) → SlotHeld s t lengths ring → test_held s t lengths ring ≡ true
held_test s t lengths ring h =
    let R = slots s.cfg in
    let insert = insert_of s t ring in
    let step = step_of s.cfg in
    let n = length lengths in
    let at : get_or (slots_from R insert step 0 n) h.i 0 ≡ slot_at R insert step h.i =
    get_or-slots_from R insert step 0 n h.i h.packet ∙ ap (slot_at R insert step) (zero-add h.i) in
    any_held_where (pending_plans s) (slots_from R insert step 0 n) h.i (subst⁻¹ (λ (k : ℕ). h.i < k) (length-slots_from R insert step 0 n) h.packet)
    (held_where (pending_plans s) (get_or (slots_from R insert step 0 n) h.i 0) h.k h.pending (h.same ∙ sym at))
