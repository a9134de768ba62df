-- What reset leaves: the cursor at 0 and all else as it came; refused, everything as it came. Each is a fact of the session's definitions, and so, by the
-- promise of `reset`, of the call.
use mathlib.Core.Path.{◌≡◌, refl}
use mathlib.Core.Bool.{Bool, true, false, cond}
use Rattle.std.specs.Prelude.{Ok, Err}
use Rattle.session.specs.declared.types.IsoChannelState.{IsoChannelState}
use Rattle.session.specs.declared.reply.IsoReply.{IsoReply}
use Rattle.session.specs.declared.refusal.IsoRefusal.{IsoRefusal}
use Rattle.session.specs.declared.refusal.IsoRefusal.TheVariants as refusal
use Rattle.session.specs.Record.{is_bad_record}
use Rattle.session.specs.Poll.{at_start, reset_reply}
use Rattle.session.specs.Poll.{reply, refused_reply, is_empty}

-- r is s with the cursor at 0: every other field is as it came
pub record CursorZero (s r : IsoChannelState) : Type 0 where
  pub cursor : r.head.td_last ≡ 0
  pub start : r.head.start_full_frame ≡ s.head.start_full_frame
  pub number : r.head.next_request_id ≡ s.head.next_request_id
  pub live : r.head.live ≡ s.head.live
  pub done : r.head.done ≡ s.head.done
  pub count : r.head.count ≡ s.head.count
  pub cfg : r.cfg ≡ s.cfg
  pub fatal : r.fatal ≡ s.fatal
  pub requests : r.requests ≡ s.requests
  pub plans : r.plans ≡ s.plans

module _ (s : IsoChannelState) where
  -- the reply by its two tests
  abbrev replied : Bool → Bool → IsoReply
  replied bad empty = cond bad (refused_reply refusal.BadRecord s) (cond empty (reply (Ok tt) false false (at_start s)) (refused_reply refusal.NotEmpty s))

  -- Where it is done, the cursor is 0 and nothing else changes.
  pub reset_leaves : (reset_reply s).answer ≡ Ok tt → CursorZero s (reset_reply s).session
  reset_leaves = go (is_bad_record s) (is_empty s)
    where
      go : (bad empty : Bool) → (replied bad empty).answer ≡ Ok tt → CursorZero s (replied bad empty).session
      go false true e =
          record {
            cursor = refl;
            start = refl;
            number = refl;
            live = refl;
            done = refl;
            count = refl;
            cfg = refl;
            fatal = refl;
            requests = refl;
            plans = refl;
          }
      go bad empty e = cc

  -- Refused, it hands the session back as it came.
  pub reset_refused : (r : IsoRefusal) → (reset_reply s).answer ≡ Err r → (reset_reply s).session ≡ s
  reset_refused r = go (is_bad_record s) (is_empty s)
    where
      go : (bad empty : Bool) → (replied bad empty).answer ≡ Err r → (replied bad empty).session ≡ s
      go false true e = cc
      go bad empty e = refl
