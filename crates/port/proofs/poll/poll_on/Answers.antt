-- Refused with a number, or polled by its way.
use Rattle.std.proofs.Common.{length, sym, refl, arith, ltb-false}
use Rattle.session.specs.declared.refusal.IsoRefusal.{IsoRefusal}
use Rattle.session.specs.Session.{ring_words}
use Rattle.session.specs.Poll.{refused_reply, poll_way, polled_by, polled_ring_by, polled}
use Rattle.port.specs.Layout.{session_of}
use Rattle.port.proofs.Laws.Polling.{replied, lent_refused, lent_passed}
use Rattle.port.proofs.Laws.Steps.{stays}
use Rattle.port.proofs.poll.poll_on.Goals as goal

pub returns-in-Err : goal.returns-in-Err
returns-in-Err c =
    let xs = c.args.bytes.now in
    let s = session_of xs in
    let ring = c.args.ring.now in
    let way = poll_way s c.args.event in
    let is = c.in-Err.ensures in
    let both =
    stays xs (λ i. omega (arith, c.slice_known-1.given i)) c.requires.0 (polled s c.args.event ring)
    (lent_refused s (length ring) (λ (r : IsoRefusal). refused_reply r s) (polled_by way s ring) is) refl c.reply_refused.ensures in
    (both.0, both.1, sym (lent_refused s (length ring) (λ (r : IsoRefusal). ring) (polled_ring_by way s ring) is))

pub poll_at-said-requires : goal.poll_at-said-requires
poll_at-said-requires c =
    let s = session_of c.args.bytes.now in
    let past = lent_passed s (length c.args.ring.now) c.in-Ok.ensures in
    ((c.requires.0, past.1), ltb-false (length c.args.ring.now) (ring_words s.cfg) past.0)

pub returns-in-Ok : goal.returns-in-Ok
returns-in-Ok c =
    let xs = c.args.bytes.now in
    let ring = c.args.ring.now in
    let past = lent_passed (session_of xs) (length ring) c.in-Ok.ensures in
    let told = c.poll_at-said.ensures in
    replied xs ring c.args.event past.0 past.1 refl c.reply_port.ensures told.0 told.1 told.2 told.3
