-- Cancelling: document 01, "Cancel". "Cancel turns a completed result into cancelled; on a pending one it sets the reason and asks for a halt, and
-- does nothing when a reason stands."
use Rattle.std.specs.Prelude.{true, false, Ok, cond, List, [], ◌∷◌, ℕ, suc, eqb, ltb, get_or, set}
use Rattle.std.proofs.Math.Seq.{slice}
use Rattle.session.specs.declared.types.IsoHaltReason.TheVariants as reason
use Rattle.session.specs.declared.types.IsoOutcome.TheVariants as outcome
use Rattle.session.specs.declared.types.IsoRequest.{IsoRequest}
use Rattle.session.specs.declared.types.IsoChannelState.{IsoChannelState}
use Rattle.session.specs.declared.refusal.IsoRefusal.TheVariants.{UnknownRequest, BadRecord}
use Rattle.session.specs.declared.reply.IsoReply.{IsoReply}
use Rattle.session.specs.Session.{blank_request, has_reason}
use Rattle.session.specs.Record.{is_bad_record}
use Rattle.session.specs.End.{with_outcome}
use Rattle.session.specs.Poll.{reply, refused_reply, with_reason}

-- the place of the first request with the number, or the number of requests
abbrev pub place_of : ℕ → List IsoRequest → ℕ
place_of id [] = 0
place_of id (r ∷ rs) = cond (eqb r.id id) 0 (suc (place_of id rs))

-- among those in use, completed before pending
abbrev pub request_at : ℕ → IsoChannelState → ℕ
request_at id s = place_of id (slice 0 s.head.count s.requests)

-- a completed result as cancelled
abbrev pub with_cancelled : ℕ → IsoChannelState → IsoChannelState
with_cancelled at s =
    record {
      cfg = s.cfg;
      head = s.head;
      fatal = s.fatal;
      requests = set s.requests at (with_outcome outcome.Cancelled (get_or s.requests at blank_request));
      plans = s.plans;
    }

-- 15: unknown number
abbrev pub cancelled : IsoChannelState → ℕ → IsoReply
cancelled s id =
    cond (is_bad_record s) (refused_reply BadRecord s)
    (cond (ltb (request_at id s) s.head.done) (reply (Ok tt) false false (with_cancelled (request_at id s) s))
    (cond (ltb (request_at id s) s.head.count)
    (cond (has_reason s.fatal) (reply (Ok tt) false false s) (reply (Ok tt) false true (with_reason reason.Cancelled s)))
    (refused_reply UnknownRequest s)))
