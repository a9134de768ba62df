-- A poll keeps the invariant, whatever it does.
use mathlib.Core.Path.{refl, subst⁻¹}
use Prim.Native.Nat.{◌-◌}
use Rattle.std.specs.Prelude.{Option}
use native.Mathlib.Omega.{arith}
use lib.ListN.{length}
use borrow.Author.Tests.{le-ltb}
use Rattle.session.specs.declared.reply.IsoEvent.{IsoEvent}
use Rattle.session.specs.declared.reply.IsoReply.{IsoReply}
use Rattle.session.specs.declared.reply.PollWay.{PollWay}
use Rattle.session.specs.declared.reply.PollWay.TheVariants.{Nothing, End, Halt, Wait, Settle}
use Rattle.session.specs.Session.{ring_words}
use Rattle.session.specs.Poll.{poll_way, with_reason, polled_by, polled_ring_by, polled, polled_ring}
use Rattle.session.proofs.Laws.Record.{Sound, not_bad}
use Rattle.session.proofs.Laws.Replies.{lent_done}
use Rattle.session.proofs.Laws.Polled.{polled_sound}
use Rattle.laws.specs.Run.{State, Poll, step}
use Rattle.laws.specs.Invariant.{Invariant}
use Rattle.laws.proofs.Fitting.{ring_long}
use Rattle.laws.proofs.Keeping.{Keeps, left_invariant, fits_same, numbered_same, keeps_none}
use Rattle.laws.proofs.Ended.{ended_keeps}
use Rattle.laws.proofs.Settling.{drain_keeps}

by_way :
    (st : State) → Invariant st → (way : PollWay) → Sound (polled_by way st.session st.ring).session
    → Keeps st (polled_by way st.session st.ring).session (polled_ring_by way st.session st.ring)
by_way st v Nothing g = keeps_none st v
by_way st v (End o) g = ended_keeps o st v st.ring
by_way st v (Halt r) g =
    record {
      guarded = v.guarded;
      fits = fits_same st.session (with_reason r st.session) st.ring st.put v.fits g refl refl refl refl;
      numbered = numbered_same st.session (with_reason r st.session) st.numbers v.numbered refl refl;
    }
by_way st v Wait g = keeps_none st v
by_way st v (Settle bit) g =
    drain_keeps (st.session.head.count - st.session.head.done) bit st v (omega (arith, v.fits.sound.done_in))

-- what a poll does once its tests are passed, which is also what reclaim's poll does
pub polling : (st : State) → Invariant st → (e : Option IsoEvent)
    → Keeps st (polled_by (poll_way st.session e) st.session st.ring).session (polled_ring_by (poll_way st.session e) st.session st.ring)
polling st v e = by_way st v (poll_way st.session e) (polled_sound st.session e st.ring v.fits.sound)

pub poll : (st : State) (e : Option IsoEvent) → Invariant st → Invariant (step st (Poll e))
poll st e v =
    let s = st.session in
    let way = poll_way s e in
    let q =
    lent_done s st.ring (polled_by way s st.ring) (polled_ring_by way s st.ring)
    (le-ltb (length st.ring) (ring_words s.cfg) (ring_long v.fits)) (not_bad s v.fits.sound) in
    left_invariant st (polled s e st.ring).session (polled_ring s e st.ring)
    (subst⁻¹ (λ (r : IsoReply). Keeps st r.session (polled_ring s e st.ring)) q.0
    (subst⁻¹ (Keeps st (polled_by way s st.ring).session) q.1 (polling st v e)))
