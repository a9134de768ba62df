-- Refusal 18: document 01, "Refusal numbers". What a configuration and a record must keep to, test by test.
use Rattle.std.specs.Prelude.{Bool, not, ◌||◌, ◌&&◌, List, ℕ, eqb, leb, ltb}
use Rattle.std.specs.List.{list_any}
use Rattle.std.proofs.Math.Seq.{slice}
use Rattle.ring.specs.RingSums.{packet_limit}
use Rattle.session.specs.declared.types.IsoConfig.{IsoConfig}
use Rattle.session.specs.declared.types.IsoRequest.{IsoRequest}
use Rattle.session.specs.declared.types.IsoPacketPlan.{IsoPacketPlan}
use Rattle.session.specs.declared.types.IsoChannelState.{IsoChannelState}
use Rattle.session.specs.Session.{slots, room, all_packets, pending_packets, has_reason}

-- "endpoint over 15, device over 127, packet over 2,047, mult over 3"
abbrev pub is_bad_config : IsoConfig → Bool
is_bad_config cfg =
    ltb 15 cfg.endpoint || (ltb 127 cfg.device || (ltb 2047 cfg.max_packet_size || ltb 3 cfg.mult))

-- "a request of no packets"; one holds at most 255
abbrev pub is_bad_request : IsoRequest → Bool
is_bad_request r = eqb r.packets 0 || ltb 255 r.packets

abbrev pub any_bad_request : List IsoRequest → Bool
any_bad_request rs = list_any is_bad_request rs

-- "lengths, slots": at most the packet limit, moved at most what was planned, a slot of the ring
abbrev pub is_bad_plan : ℕ → ℕ → IsoPacketPlan → Bool
is_bad_plan limit slots p = ltb limit p.planned || (ltb p.planned p.actual || leb slots p.desc_index)

abbrev pub any_bad_plan : ℕ → ℕ → List IsoPacketPlan → Bool
any_bad_plan limit slots ps = list_any (is_bad_plan limit slots) ps

-- "counts": at most 64 requests, the completed ones among them
abbrev pub is_bad_counts : IsoChannelState → Bool
is_bad_counts s = ltb s.head.count s.head.done || ltb 64 s.head.count

-- at most 1,024 packets, and pending at most the capacity
abbrev pub is_bad_sums : IsoChannelState → Bool
is_bad_sums s = ltb 1024 (all_packets s) || ltb (room s.cfg) (pending_packets s)

-- "cursor"; "with requests pending or a reason but no live channel"
abbrev pub is_bad_state : IsoChannelState → Bool
is_bad_state s =
    leb (slots s.cfg) s.head.td_last || not s.head.live && (ltb s.head.done s.head.count || has_reason s.fatal)

-- the tests of a record, the tables only as far as they are in use
abbrev pub is_bad_record : IsoChannelState → Bool
is_bad_record s =
    (is_bad_config s.cfg || is_bad_counts s)
    || (any_bad_request (slice 0 s.head.count s.requests)
    || (is_bad_sums s
    || (any_bad_plan (packet_limit s.cfg.speed) (slots s.cfg) (slice 0 (all_packets s) s.plans) || is_bad_state s)))
