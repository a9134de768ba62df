-- The laws of a poll: each way out of the code that decides, from the tests before it, and what a poll leaves by its way.
use mathlib.Core.Path.{◌≡◌, sym, ◌∙◌, ap}
use mathlib.Core.List.{List}
use mathlib.Core.Bool.{Bool, true, false, cond}
use Prim.Native.Nat.{ℕ}
use Rattle.std.specs.Prelude.{Option}
use lib.Dec.{ltb}
use lib.ListN.{length}
use Rattle.session.specs.declared.types.IsoChannelState.{IsoChannelState}
use Rattle.session.specs.declared.reply.IsoEvent.{IsoEvent}
use Rattle.session.specs.declared.reply.IsoReply.{IsoReply}
use Rattle.session.specs.declared.reply.PollWay.{PollWay}
use Rattle.session.specs.declared.refusal.IsoRefusal.TheVariants as refusal
use Rattle.session.specs.Session.{ring_words}
use Rattle.session.specs.Record.{is_bad_record}
use Rattle.session.specs.Poll.{poll_way, polled_by, polled_ring_by, refused_reply, polled, polled_ring}

-- what a poll leaves follows from its way
pub polled_by_lem : (s : IsoChannelState) (ring : List ℕ) {w way : PollWay} {r : IsoReply} → w ≡ way → r ≡ polled_by way s ring → r ≡ polled_by w s ring
polled_by_lem s ring e p = p ∙ ap (λ (w : PollWay). polled_by w s ring) (sym e)

pub polled_ring_by_lem : (s : IsoChannelState) (ring : List ℕ) {w way : PollWay} {r : List ℕ} → w ≡ way → r ≡ polled_ring_by way s ring → r ≡ polled_ring_by w s ring
polled_ring_by_lem s ring e p = p ∙ ap (λ (w : PollWay). polled_ring_by w s ring) (sym e)

-- what holds of session and ring as they came, and as the way leaves them, holds of what the whole call leaves
pub by_way :
    (s : IsoChannelState) (e : Option IsoEvent) (ring : List ℕ) (P : IsoChannelState → List ℕ → Type 0)
    → P s ring → P (polled_by (poll_way s e) s ring).session (polled_ring_by (poll_way s e) s ring) → P (polled s e ring).session (polled_ring s e ring)
by_way s e ring P same by = tests (ltb (length ring) (ring_words s.cfg)) (is_bad_record s)
  where
    tests :
        (a b : Bool)
        → P (cond a (refused_reply refusal.ShortBuffer s) (cond b (refused_reply refusal.BadRecord s) (polled_by (poll_way s e) s ring))).session
        (cond a ring (cond b ring (polled_ring_by (poll_way s e) s ring)))
    tests true b = same
    tests false true = same
    tests false false = by
