-- Where the packets of a submission go: document 01, "Submit": the start, the cursor, the insertion, and each packet's slot.
use Rattle.std.specs.Prelude.{◌&&◌, cond, List, [], ◌∷◌, ℕ, suc, ◌-◌, ◌*◌, max, ltb, get_or}
use Rattle.words.specs.Words.{is_set, active}
use Rattle.ring.specs.Stores.{Store, stores_from}
use Rattle.ring.specs.RingSums.{starting_frame, frame_slot, grid_slot, slot_at}
use Rattle.session.specs.declared.types.IsoConfig.{IsoConfig}
use Rattle.session.specs.declared.types.IsoHead.{IsoHead}
use Rattle.session.specs.declared.types.IsoPacketPlan.{IsoPacketPlan}
use Rattle.session.specs.declared.types.IsoChannelState.{IsoChannelState}
use Rattle.session.specs.declared.types.TransferStatus.TheVariants.{Completed}
use Rattle.session.specs.declared.transfer.IsoTransfer.{IsoTransfer}
use Rattle.session.specs.Session.{blank_plan, slots, all_packets}

-- an interval of 0 counts as 1
abbrev pub step_of : IsoConfig → ℕ
step_of cfg = max 1 cfg.interval

-- "a first submission takes two [readings], for the start and for the insertion, and its cursor for the grid is the starting frame's slot"
abbrev pub start_at : IsoConfig → IsoHead → IsoTransfer → ℕ
start_at cfg h t = cond h.live h.start_full_frame (starting_frame cfg.speed t.start_reading)

abbrev pub cursor_at : IsoConfig → IsoHead → IsoTransfer → ℕ
cursor_at cfg h t = cond h.live h.td_last (frame_slot cfg.speed (start_at cfg h t))

abbrev pub target_at : IsoConfig → IsoTransfer → ℕ
target_at cfg t = frame_slot cfg.speed (starting_frame cfg.speed t.frame_reading)

-- "If the last descriptor of the newest pending request is active, insert at the cursor; else use the grid."
abbrev pub insert_at : IsoConfig → IsoHead → IsoTransfer → ℕ → List ℕ → ℕ
insert_at cfg h t tail ring =
    cond (ltb h.done h.count && is_set active (get_or ring (2 * tail) 0)) h.td_last
    (grid_slot (cursor_at cfg h t) (target_at cfg t) cfg.interval (slots cfg))

abbrev pub start_of : IsoChannelState → IsoTransfer → ℕ
start_of s t = start_at s.cfg s.head t

-- the slot of the newest packet
abbrev pub tail_slot : IsoChannelState → ℕ
tail_slot s = (get_or s.plans (all_packets s - 1) blank_plan).desc_index

abbrev pub insert_of : IsoChannelState → IsoTransfer → List ℕ → ℕ
insert_of s t ring = insert_at s.cfg s.head t (tail_slot s) ring

abbrev pub stores_of : IsoChannelState → IsoTransfer → List ℕ → List ℕ → List Store
stores_of s t lengths ring = stores_from (slots s.cfg) (insert_of s t ring) (step_of s.cfg) 0 t.base lengths

-- the plans of these packets
abbrev pub plans_from : ℕ → ℕ → ℕ → ℕ → List ℕ → List IsoPacketPlan
plans_from R insert step i [] = []
plans_from R insert step i (l ∷ ls) =
    record { planned = l; desc_index = slot_at R insert step i; actual = 0; status = Completed } ∷ plans_from R insert step (suc i) ls
