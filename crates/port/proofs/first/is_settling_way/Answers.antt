-- The tests of the way that settles, each by what it read.
use Rattle.std.proofs.Common.{not, ◌&&◌, drop, sym, ap, ◌∙◌, eqb-true}
use borrow.Author.Tests.{not-true}
use Rattle.session.specs.declared.types.IsoHead.{IsoHead}
use Rattle.port.specs.Layout.{session_of}
use Rattle.port.proofs.Laws.Kept.{both}
use Rattle.port.proofs.Laws.Placed.{head_there, reason_there}
use Rattle.port.proofs.Laws.First.{no_reason}
use Rattle.port.proofs.Laws.Polling.{calm_way}
use Rattle.port.proofs.first.is_settling_way.Goals as goal

pub returns : goal.returns
returns c =
    let xs = c.args.bytes.now in
    let live = ap (λ (h : IsoHead). h.live) (c.head_at-head.ensures ∙ head_there xs) in
    λ e.
    let halves = both (c.head_at-head.result.live && not c.args.event.unplugged) _ e in
    let on = both c.head_at-head.result.live _ halves.0 in
    let calm = both c.is_calm.result _ halves.1 in
    let bits = c.is_calm.ensures calm.0 in
    calm_way (session_of xs) c.args.event (sym live ∙ on.0) (not-true c.args.event.unplugged on.1) bits.0 bits.1
    (sym (reason_there xs) ∙ no_reason (drop 34 xs) (sym c.byte_at.ensures ∙ eqb-true _ _ calm.1))
