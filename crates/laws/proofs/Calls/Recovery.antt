-- Recovery, where the ring is long enough and the record good: the reply and the ring that its definition comes to. Ending.antt goes on from here.
use mathlib.Core.Path.{◌≡◌}
use mathlib.Core.Bool.{false, cond}
use mathlib.Core.List.{List}
use Prim.Native.Nat.{ℕ, ◌≤◌}
use Rattle.std.specs.Prelude.{Ok}
use lib.Dec.{ltb}
use lib.ListN.{length}
use borrow.Author.Tests.{le-ltb}
use Rattle.session.specs.declared.types.IsoChannelState.{IsoChannelState}
use Rattle.session.specs.declared.types.IsoOutcome.TheVariants as outcome
use Rattle.session.specs.declared.refusal.IsoRefusal.TheVariants as refusal
use Rattle.session.specs.Session.{ring_words}
use Rattle.session.specs.Record.{is_bad_record}
use Rattle.session.specs.End.{ended, ended_ring}
use Rattle.session.specs.Poll.{recovered_ring}
use Rattle.session.specs.Poll.{reply, refused_reply, recovered}
use Rattle.session.proofs.Laws.Ended.{picked}
use Rattle.session.proofs.Laws.Replies.{lent_done}

module _ (s : IsoChannelState) (ring : List ℕ) (long : ring_words s.cfg ≤ length ring) (good : is_bad_record s ≡ false) where
  pub recovery : (recovered s (length ring) ≡ reply (Ok tt) false false (ended outcome.Disconnected s)) × (recovered_ring s ring ≡ ended_ring s ring)
  recovery =
      lent_done s ring (reply (Ok tt) false false (ended outcome.Disconnected s)) (ended_ring s ring) (le-ltb (length ring) (ring_words s.cfg) long) good

-- what holds of the session, and of its end, holds of the one that recovery gives back
pub recovered_picked :
    (P : IsoChannelState → Type 0) (s : IsoChannelState) (words : ℕ) → P s → P (ended outcome.Disconnected s) → P (recovered s words).session
recovered_picked P s words same over =
    let end = reply (Ok tt) false false (ended outcome.Disconnected s) in
    picked P (ltb words (ring_words s.cfg)) (refused_reply refusal.ShortBuffer s) (cond (is_bad_record s) (refused_reply refusal.BadRecord s) end) (λ e. same)
    (λ e. picked P (is_bad_record s) (refused_reply refusal.BadRecord s) end (λ b. same) (λ b. over))
