-- The numbers of a session that has ended, and the refusals of a call that is lent the ring.
use Rattle.std.specs.Prelude.{ℕ, false, cond, nat_lt, Result, Ok, Err, ⊤}
use Rattle.session.specs.declared.refusal.IsoRefusal.{IsoRefusal}
use Rattle.session.specs.declared.refusal.IsoRefusal.TheVariants.{ShortBuffer, BadRecord}
use Rattle.session.specs.Session.{ring_words}
use Rattle.session.specs.Record.{is_bad_record}
use Rattle.session.specs.declared.types.IsoHead.{IsoHead}
use Rattle.session.specs.declared.types.IsoChannelState.{IsoChannelState}

-- "cursor and start zero, .. no live channel", nothing pending
abbrev pub ended_head : IsoHead → IsoHead
ended_head h =
    record {
      next_request_id = h.next_request_id;
      live = false;
      td_last = 0;
      start_full_frame = 0;
      done = h.count;
      count = h.count;
    }

-- 17: the ring lent has fewer words than the session's; 18: a bad record
abbrev pub lent : IsoChannelState → ℕ → Result ⊤ IsoRefusal
lent s words = cond (nat_lt words (ring_words s.cfg)) (Err ShortBuffer) (cond (is_bad_record s) (Err BadRecord) (Ok tt))
