-- A look leaves all as it is where the request is completed, and polls where it is not.
use Rattle.std.proofs.Common.{◌≡◌, ◌<◌, ◌≤◌, refl, ap, ◌∙◌, arith}
use Rattle.session.specs.declared.types.IsoHead.{IsoHead}
use Rattle.session.specs.declared.reply.IsoReply.{IsoReply}
use Rattle.session.proofs.Laws.Reclaims.{looked_found, looked_polled}
use Rattle.port.specs.Layout.{session_of}
use Rattle.port.proofs.Canonical.{loaded_left}
use Rattle.port.proofs.Laws.Left.{left_is}
use Rattle.port.proofs.Laws.Placed.{head_there}
use Rattle.port.proofs.reclaim.look_at.Goals as goal

pub returns-then-at-head : goal.returns-then-at-head
returns-then-at-head c =
    let head_is : c.head_at-head.result ≡ (session_of c.args.bytes.now).head = c.head_at-head.ensures ∙ head_there c.args.bytes.now in
    let a = c.args in
    let xs = a.bytes.now in
    let s = session_of xs in
    let less : a.at < s.head.done =
    omega (arith, c.if-at-head.true, ap (λ (h : IsoHead). h.done) head_is) in
    let stays = looked_found s {at = a.at} refl a.event a.ring.now less refl in
    let same =
    loaded_left xs c.requires.0.0
    (λ i. omega (arith, c.slice_known-1.given i)) in (
      record {
        taken = ap (λ (r : IsoReply). r.taken) stays.0;
        halt = ap (λ (r : IsoReply). r.halt) stays.0;
        bytes = left_is same (ap (λ (r : IsoReply). r.session) stays.0);
      },
      stays.1,
    )

pub returns : goal.returns
returns c =
    let head_is : c.head_at-head.result ≡ (session_of c.args.bytes.now).head = c.head_at-head.ensures ∙ head_there c.args.bytes.now in
    let a = c.args in
    let s = session_of a.bytes.now in
    let past : s.head.done ≤ a.at =
    omega (
      arith,
      c.if-at-head.false,
      ap (λ (h : IsoHead). h.done) head_is,
    ) in
    let said = c.poll_at.ensures in
    let polls =
    looked_polled s {at = a.at} refl a.event a.ring.now past refl refl
    said.3 in (
      record {
        taken = said.0 ∙ ap (λ (r : IsoReply). r.taken) polls.0;
        halt = said.1 ∙ ap (λ (r : IsoReply). r.halt) polls.0;
        bytes = left_is said.2 (ap (λ (r : IsoReply). r.session) polls.0);
      },
      polls.1,
    )
