-- The bytes of a session (docs/LAYOUT.md): entry by entry, then the whole. `..Bytes` writes, `..Of` reads what a list begins with.
use Rattle.std.specs.Prelude.{ℕ, zero, suc, min, Bool, false, cond, not, ◌||◌, Result, Ok, Err, ⊤, List, [], ◌∷◌, ◌++◌, length, take, drop, ◌==◌, nat_lt}
use Rattle.std.proofs.Math.Seq.{slice}
use Rattle.session.specs.Session.{packets_of}
use Rattle.session.specs.declared.refusal.IsoRefusal.{IsoRefusal}
use Rattle.session.specs.declared.refusal.IsoRefusal.TheVariants.{ShortBuffer, BadRecord}
use Rattle.session.specs.declared.types.IsoConfig.{IsoConfig}
use Rattle.session.specs.declared.types.IsoHead.{IsoHead}
use Rattle.session.specs.declared.types.IsoChannelState.{IsoChannelState}
use Rattle.session.specs.declared.types.IsoRequest.{IsoRequest}
use Rattle.session.specs.declared.types.IsoPacketPlan.{IsoPacketPlan}
use Rattle.port.specs.Bytes.{byte_of, u16_of, u32_of, u64_of, u16_bytes, u32_bytes, u64_bytes}
use Rattle.port.specs.Tags.{speed_tag, speed_of, direction_tag, direction_of, mode_tag, mode_of, status_tag, status_of, flag_tag, flag_of}
use Rattle.port.specs.Tags.{tagged_bytes, tagged_of, outcome_tagged, outcome_of, fatal_tagged, fatal_of, is_bad_tagged}

-- ---- a request, 20 bytes

unfoldable pub request_bytes : IsoRequest → List ℕ
request_bytes r = u64_bytes r.id ++ u32_bytes r.actual_length ++ u16_bytes r.packets ++ tagged_bytes (outcome_tagged r.outcome)

unfoldable pub request_of : List ℕ → IsoRequest
request_of xs =
    record {
      id = u64_of xs;
      packets = u16_of (drop 12 xs);
      actual_length = u32_of (drop 8 xs);
      outcome = outcome_of (tagged_of (drop 14 xs));
    }

unfoldable pub is_bad_request_bytes : List ℕ → Bool
is_bad_request_bytes xs = is_bad_tagged 3 4 (tagged_of (drop 14 xs))

-- ---- a plan, 7 bytes

unfoldable pub plan_bytes : IsoPacketPlan → List ℕ
plan_bytes p = u16_bytes p.planned ++ u16_bytes p.desc_index ++ u16_bytes p.actual ++ (status_tag p.status ∷ [])

unfoldable pub plan_of : List ℕ → IsoPacketPlan
plan_of xs =
    record {
      planned = u16_of xs;
      desc_index = u16_of (drop 2 xs);
      actual = u16_of (drop 4 xs);
      status = status_of (byte_of (drop 6 xs));
    }

unfoldable pub is_bad_plan_bytes : List ℕ → Bool
is_bad_plan_bytes xs = nat_lt 1 (byte_of (drop 6 xs))

-- ---- a table: entries behind one another, each `width` bytes

unfoldable pub table_bytes : {A : Type 0} → (A → List ℕ) → List A → List ℕ
table_bytes bytes [] = []
table_bytes bytes (a ∷ rest) = bytes a ++ table_bytes bytes rest

unfoldable pub table_of : {A : Type 0} → (List ℕ → A) → ℕ → ℕ → List ℕ → List A
table_of entry width zero xs = []
table_of entry width (suc n) xs = entry xs ∷ table_of entry width n (drop width xs)

unfoldable pub any_of : (List ℕ → Bool) → ℕ → ℕ → List ℕ → Bool
any_of bad width zero xs = false
any_of bad width (suc n) xs = bad xs || any_of bad width n (drop width xs)

-- ---- the head, 40 bytes: mark and version, configuration, numbers, reason

unfoldable pub mark_bytes : List ℕ
mark_bytes = 68 ∷ 87 ∷ 83 ∷ u16_bytes 1

unfoldable pub config_bytes : IsoConfig → List ℕ
config_bytes cfg =
    (speed_tag cfg.speed ∷ direction_tag cfg.direction ∷ mode_tag cfg.mode ∷ [])
    ++ u16_bytes cfg.interval
    ++ u16_bytes cfg.max_packet_size
    ++ (cfg.endpoint ∷ cfg.device ∷ cfg.mult ∷ [])

unfoldable pub config_of : List ℕ → IsoConfig
config_of xs =
    record {
      speed = speed_of (byte_of (drop 5 xs));
      direction = direction_of (byte_of (drop 6 xs));
      interval = u16_of (drop 8 xs);
      endpoint = byte_of (drop 12 xs);
      device = byte_of (drop 13 xs);
      max_packet_size = u16_of (drop 10 xs);
      mult = byte_of (drop 14 xs);
      mode = mode_of (byte_of (drop 7 xs));
    }

unfoldable pub head_bytes : IsoHead → List ℕ
head_bytes h =
    (flag_tag h.live ∷ [])
    ++ u64_bytes h.next_request_id
    ++ u32_bytes h.start_full_frame
    ++ u16_bytes h.td_last
    ++ u16_bytes h.done
    ++ u16_bytes h.count

unfoldable pub head_of : List ℕ → IsoHead
head_of xs =
    record {
      next_request_id = u64_of (drop 16 xs);
      live = flag_of (byte_of (drop 15 xs));
      td_last = u16_of (drop 28 xs);
      start_full_frame = u32_of (drop 24 xs);
      done = u16_of (drop 30 xs);
      count = u16_of (drop 32 xs);
    }

unfoldable pub is_bad_mark : List ℕ → Bool
is_bad_mark xs =
    not (byte_of xs == 68) || (not (byte_of (drop 1 xs) == 87) || (not (byte_of (drop 2 xs) == 83) || not (u16_of (drop 3 xs) == 1)))

unfoldable pub is_bad_head : List ℕ → Bool
is_bad_head xs =
    nat_lt 2 (byte_of (drop 5 xs))
    || (nat_lt 1 (byte_of (drop 6 xs))
    || (nat_lt 1 (byte_of (drop 7 xs)) || (nat_lt 1 (byte_of (drop 15 xs)) || is_bad_tagged 2 2 (tagged_of (drop 34 xs)))))

-- ---- the session, 8,488 bytes

-- what stands before the tables
unfoldable pub front : IsoChannelState → List ℕ
front s = mark_bytes ++ config_bytes s.cfg ++ head_bytes s.head ++ tagged_bytes (fatal_tagged s.fatal)

unfoldable pub saved : IsoChannelState → List ℕ
saved s = front s ++ table_bytes request_bytes s.requests ++ table_bytes plan_bytes s.plans

unfoldable pub session_of : List ℕ → IsoChannelState
session_of xs =
    record {
      cfg = config_of xs;
      head = head_of xs;
      fatal = fatal_of (tagged_of (drop 34 xs));
      requests = table_of request_of 20 64 (drop 40 xs);
      plans = table_of plan_of 7 1024 (drop 1320 xs);
    }

-- the entries in use, as far as the tables go: all requests, and the plans of their packets
abbrev pub requests_in : IsoChannelState → ℕ
requests_in s = min s.head.count 64

abbrev pub plans_in : IsoChannelState → ℕ
plans_in s = min (packets_of (slice 0 (requests_in s) s.requests)) 1024

-- the bytes of an entry that is not in use have no meaning, and are not looked at
unfoldable pub is_bad_layout : List ℕ → Bool
is_bad_layout xs =
    is_bad_mark xs
    || (is_bad_head xs
    || (any_of is_bad_request_bytes 20 (requests_in (session_of xs)) (drop 40 xs) || any_of is_bad_plan_bytes 7 (plans_in (session_of xs)) (drop 1320 xs)))

-- 17: fewer bytes than a session takes; 18: bytes that are no session of the layout
abbrev pub layout_number : List ℕ → ℕ
layout_number xs = cond (nat_lt (length xs) 8488) 17 (cond (is_bad_layout xs) 18 0)

-- the same as a refusal
abbrev pub layout_refusal : List ℕ → Result ⊤ IsoRefusal
layout_refusal xs = cond (nat_lt (length xs) 8488) (Err ShortBuffer) (cond (is_bad_layout xs) (Err BadRecord) (Ok tt))

-- ---- a session in the place of another

-- entries in the place of those of `xs`: the first `n` are written; behind them bytes that are no entry of the layout stay as they are
unfoldable pub table_kept : {A : Type 0} → (A → List ℕ) → (List ℕ → Bool) → ℕ → ℕ → List A → List ℕ → List ℕ
table_kept bytes bad width n [] xs = []
table_kept bytes bad width zero (a ∷ rest) xs = cond (bad xs) (take width xs) (bytes a) ++ table_kept bytes bad width zero rest (drop width xs)
table_kept bytes bad width (suc n) (a ∷ rest) xs = bytes a ++ table_kept bytes bad width n rest (drop width xs)

-- what stands behind the session stays
unfoldable pub kept : ℕ → ℕ → List ℕ → IsoChannelState → List ℕ
kept n m xs s =
    front s
    ++ table_kept request_bytes is_bad_request_bytes 20 n s.requests (drop 40 xs)
    ++ table_kept plan_bytes is_bad_plan_bytes 7 m s.plans (drop 1320 xs)
    ++ drop 8488 xs

-- where each entry in use is one of the layout
abbrev pub left_bytes : List ℕ → IsoChannelState → List ℕ
left_bytes = kept 0 0
