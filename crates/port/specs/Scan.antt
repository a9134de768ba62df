-- What the walk over the entries in use finds: bytes that no call works on, or what crate session's record check counts. Results of inner functions.
use Rattle.std.specs.Prelude.{ℕ, Bool, cond, ◌||◌, List, Option, None, Some, Result, Ok, Err, length, nat_lt}
use Rattle.session.specs.Session.{all_packets, pending_packets}
use Rattle.session.specs.declared.refusal.IsoRefusal.{IsoRefusal}
use Rattle.session.specs.declared.refusal.IsoRefusal.TheVariants.{ShortBuffer, BadRecord}
use Rattle.session.specs.declared.types.IsoChannelState.{IsoChannelState}
use Rattle.session.specs.Record.{is_bad_config, is_bad_counts, is_bad_request, is_bad_plan, is_bad_state, is_bad_record}
use Rattle.port.specs.declared.scan.RequestSums.{RequestSums}
use Rattle.port.specs.Layout.{request_of, is_bad_request_bytes, plan_of, is_bad_plan_bytes, is_bad_layout, session_of}

-- an entry's bytes that one of the two checks finds bad, of the layout or of the record
abbrev pub is_bad_request_entry : List ℕ → Bool
is_bad_request_entry xs = is_bad_request_bytes xs || is_bad_request (request_of xs)

abbrev pub is_bad_plan_entry : ℕ → ℕ → List ℕ → Bool
is_bad_plan_entry limit slots xs = is_bad_plan_bytes xs || is_bad_plan limit slots (plan_of xs)

-- what no call works on: bytes that are no session of the layout, or a bad record
abbrev pub is_unsound : List ℕ → Bool
is_unsound xs = is_bad_layout xs || is_bad_record (session_of xs)

-- what is tested of a session but for its entries: the configuration, the counts and the state
abbrev pub is_bad_numbers : IsoChannelState → Bool
is_bad_numbers s = (is_bad_config s.cfg || is_bad_counts s) || is_bad_state s

-- the packets of all requests in use and of the pending ones
abbrev pub sums_of : IsoChannelState → RequestSums
sums_of s = record { all = all_packets s; pending = pending_packets s }

-- of bytes that no call works on nothing is counted
abbrev pub sums_in : List ℕ → Option RequestSums
sums_in xs = cond (is_unsound xs) None (Some (sums_of (session_of xs)))

-- nor of a bad record
abbrev pub record_sums : IsoChannelState → Option RequestSums
record_sums s = cond (is_bad_record s) None (Some (sums_of s))

-- the two answers apart: the refusal of bytes that are no session of the layout, and what the record of those that are tells
abbrev pub verdict_of : List ℕ → Result (Option RequestSums) IsoRefusal
verdict_of xs =
    cond (nat_lt (length xs) 8488) (Err ShortBuffer) (cond (is_bad_layout xs) (Err BadRecord) (Ok (record_sums (session_of xs))))
