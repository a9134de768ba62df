-- Refused with a number, or ended.
use Rattle.std.proofs.Common.{Ok, false, length, sym, refl, ◌∙◌, arith}
use Rattle.session.specs.declared.refusal.IsoRefusal.{IsoRefusal}
use Rattle.session.specs.declared.reply.IsoReply.{IsoReply}
use Rattle.session.specs.declared.types.IsoOutcome.TheVariants.{Disconnected}
use Rattle.session.specs.declared.types.IsoChannelState.{IsoChannelState}
use Rattle.session.specs.End.{ended, ended_ring}
use Rattle.session.specs.Poll.{reply, refused_reply, recovered}
use Rattle.session.proofs.Laws.Replies.{lent_done}
use Rattle.port.specs.Layout.{session_of}
use Rattle.port.proofs.Laws.Polling.{lent_refused, lent_passed}
use Rattle.port.proofs.Laws.Steps.{stays, becomes}
use Rattle.port.proofs.poll.recover_at.Goals as goal

abbrev done_by : IsoChannelState → IsoReply
done_by s = reply (Ok tt) false false (ended Disconnected s)

pub returns-in-Err : goal.returns-in-Err
returns-in-Err c =
    let xs = c.args.bytes.now in
    let s = session_of xs in
    let ring = c.args.ring.now in
    let is = c.in-Err.ensures in
    let both =
    stays xs (λ i. omega (arith, c.slice_known-1.given i)) c.requires.0 (recovered s (length ring))
    (lent_refused s (length ring) (λ (r : IsoRefusal). refused_reply r s) (done_by s) is) refl c.reply_refused.ensures in
    (both.0, both.1, sym (lent_refused s (length ring) (λ (r : IsoRefusal). ring) (ended_ring s ring) is))

pub returns-in-Ok : goal.returns-in-Ok
returns-in-Ok c =
    let xs = c.args.bytes.now in
    let s = session_of xs in
    let ring = c.args.ring.now in
    let passed = lent_passed s (length ring) c.in-Ok.ensures in
    let whole = lent_done s ring (done_by s) (ended_ring s ring) passed.0 passed.1 in
    let both = becomes xs (recovered s (length ring)) whole.0 c.reply_port.ensures c.end_at.ensures.0 in
    (both.0, both.1, c.end_at.ensures.1 ∙ sym whole.1)
