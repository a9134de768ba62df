-- Which way a submission goes: document 01, "Submit", "Guarded mode" and "Refusal numbers": the tests in their order, then the gates.
use Rattle.std.specs.Prelude.{Bool, true, false, not, ◌||◌, ◌&&◌, cond, Option, Some, None, Result, Ok, Err, ⊤, List, [], ◌∷◌, ℕ, suc, ◌+◌, ◌-◌, ◌*◌, eqb, ltb, length, get_or}
use Rattle.std.proofs.Math.Seq.{slice}
use Rattle.words.specs.Words.{is_beyond}
use Rattle.ring.specs.declared.speed.Speed.{Speed}
use Rattle.ring.specs.declared.speed.Speed.TheVariants.{High, Full, Low}
use Rattle.ring.specs.RingSums.{packet_limit, slots_from}
use Rattle.session.specs.declared.types.IsoMode.{IsoMode}
use Rattle.session.specs.declared.types.IsoMode.TheVariants.{Compatible, Guarded}
use Rattle.session.specs.declared.types.IsoPacketPlan.{IsoPacketPlan}
use Rattle.session.specs.declared.types.IsoChannelState.{IsoChannelState}
use Rattle.session.specs.declared.transfer.IsoTransfer.{IsoTransfer}
use Rattle.session.specs.declared.transfer.SubmitWay.{SubmitWay}
use Rattle.session.specs.declared.transfer.SubmitWay.TheVariants.{Refuse, TooLong, Spend, Early, Cut, Late, Accept}
use Rattle.session.specs.declared.refusal.IsoRefusal.{IsoRefusal}
use Rattle.session.specs.declared.refusal.IsoRefusal.TheVariants as refusal
use Rattle.session.specs.Session.{slots, ring_words, room, all_packets, pending_packets, has_reason}
use Rattle.session.specs.Record.{is_bad_record}
use Rattle.session.specs.Place.{step_of, insert_of}

abbrev pub is_low : Speed → Bool
is_low High = false
is_low Full = false
is_low Low = true

abbrev pub is_guarded : IsoMode → Bool
is_guarded Compatible = false
is_guarded Guarded = true

abbrev pub sum : List ℕ → ℕ
sum [] = 0
sum (l ∷ ls) = l + sum ls

-- the number of packets before the first that is too long, and whether there is one
abbrev pub first_long : ℕ → List ℕ → ℕ
first_long limit [] = 0
first_long limit (l ∷ ls) = cond (ltb limit l) 0 (suc (first_long limit ls))

abbrev pub long_at : ℕ → List ℕ → Option ℕ
long_at limit ls = cond (ltb (first_long limit ls) (length ls)) (Some (first_long limit ls)) None

-- "refusal 13 exactly if a planned slot belongs to a pending request"
abbrev pub is_held : List IsoPacketPlan → ℕ → Bool
is_held [] slot = false
is_held (p ∷ ps) slot = eqb p.desc_index slot || is_held ps slot

abbrev pub any_held : List IsoPacketPlan → List ℕ → Bool
any_held ps [] = false
any_held ps (slot ∷ rest) = is_held ps slot || any_held ps rest

-- the same where a table has a mark for each slot
abbrev pub any_marked : List Bool → List ℕ → Bool
any_marked held [] = false
any_marked held (slot ∷ rest) = get_or held slot false || any_marked held rest

abbrev pub pending_plans : IsoChannelState → List IsoPacketPlan
pending_plans s = slice (all_packets s - pending_packets s) (all_packets s) s.plans

abbrev pub is_clash : IsoChannelState → IsoTransfer → List ℕ → ℕ → Bool
is_clash s t ring n =
    is_guarded s.cfg.mode && any_held (pending_plans s) (slots_from (slots s.cfg) (insert_of s t ring) (step_of s.cfg) 0 n)

abbrev pub is_over : IsoChannelState → ℕ → Bool
is_over s n = ltb (room s.cfg) (pending_packets s + n)

-- a test and its refusal
pub record Check : Type 0 where
  pub holds : Bool
  pub refusal : IsoRefusal

infix 68 ◌⇒◌
abbrev pub ◌⇒◌ : Bool → IsoRefusal → Check
holds ⇒ refusal = record { holds = holds; refusal = refusal }

-- the refusal of the first test that holds; none where none does
abbrev pub first_of : List Check → Result ⊤ IsoRefusal
first_of [] = Ok tt
first_of (c ∷ cs) = cond c.holds (Err c.refusal) (first_of cs)

-- "Checked in this order for submit: 17, 18, 1 to 14." The first ten alter nothing: the ring and the record, then the transfer and its room
abbrev pub room_checks : IsoChannelState → IsoTransfer → ℕ → List Check
room_checks s t n =
    has_reason s.fatal ⇒ refusal.Ending
    ∷ is_low s.cfg.speed ⇒ refusal.LowSpeed
    ∷ not t.isochronous ⇒ refusal.NotIsochronous
    ∷ eqb n 0 ⇒ refusal.NoPackets
    ∷ not t.has_buffer ⇒ refusal.NoBuffer
    ∷ (is_over s n && eqb s.head.done s.head.count) ⇒ refusal.OverCapacity
    ∷ is_over s n ⇒ refusal.OverCapacityPending
    ∷ (ltb 64 (s.head.count + 1) || ltb 1024 (all_packets s + n)) ⇒ refusal.TablesFull
    ∷ []

abbrev pub entry_checks : IsoChannelState → IsoTransfer → ℕ → ℕ → List Check
entry_checks s t n words = ltb words (ring_words s.cfg) ⇒ refusal.ShortBuffer ∷ is_bad_record s ⇒ refusal.BadRecord ∷ room_checks s t n

abbrev pub entry_refusal : IsoChannelState → IsoTransfer → ℕ → ℕ → Result ⊤ IsoRefusal
entry_refusal s t n words = first_of (entry_checks s t n words)

-- 9: the first packet that is too long
abbrev pub too_long : IsoChannelState → List ℕ → ℕ
too_long s lengths = first_long (packet_limit s.cfg.speed) lengths

-- 10 to 13, which spend a number as 9 does
abbrev pub spend_checks : IsoChannelState → IsoTransfer → List ℕ → List ℕ → List Check
spend_checks s t lengths ring =
    not (eqb (sum lengths) t.buffer_len) ⇒ refusal.LengthsDiffer
    ∷ is_beyond t.base (sum lengths) ⇒ refusal.AddressLimit
    ∷ (not s.head.live && not t.channel_free) ⇒ refusal.NoChannel
    ∷ is_clash s t ring (length lengths) ⇒ refusal.SlotHeld
    ∷ []

abbrev pub spend_refusal : IsoChannelState → IsoTransfer → List ℕ → List ℕ → Result ⊤ IsoRefusal
spend_refusal s t lengths ring = first_of (spend_checks s t lengths ring)

-- "A submission that finds no live channel .. passes two connection gates, before programming and before enabling"; between them the words are
-- stored, and "below 2n .. it stops there"
abbrev pub gate_at : Bool → IsoTransfer → ℕ → SubmitWay
gate_at live t n =
    cond (not live && not t.gate_program) Early (cond (ltb t.words (2 * n)) Cut (cond (not live && not t.gate_enable) Late Accept))

abbrev pub gate_way : IsoChannelState → IsoTransfer → ℕ → SubmitWay
gate_way s t n = gate_at s.head.live t n

-- refused with nothing altered, or refused with the number spent, or further on
abbrev pub refuse_or : Result ⊤ IsoRefusal → SubmitWay → SubmitWay
refuse_or (Ok passed) way = way
refuse_or (Err r) way = Refuse r

abbrev pub spend_or : Result ⊤ IsoRefusal → SubmitWay → SubmitWay
spend_or (Ok passed) way = way
spend_or (Err r) way = Spend r

abbrev pub submit_way : IsoChannelState → IsoTransfer → List ℕ → List ℕ → SubmitWay
submit_way s t lengths ring =
    refuse_or (entry_refusal s t (length lengths) (length ring))
    (cond (ltb (too_long s lengths) (length lengths)) (TooLong (too_long s lengths))
    (spend_or (spend_refusal s t lengths ring) (gate_way s t (length lengths))))
