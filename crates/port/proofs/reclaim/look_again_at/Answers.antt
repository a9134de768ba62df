-- The request is completed, pending or unknown, by its place among the requests.
use Rattle.std.proofs.Common.{◌≡◌, ◌<◌, ◌≤◌, false, sym, refl, ap, ◌∙◌, arith}
use Rattle.session.specs.declared.types.IsoHead.{IsoHead}
use Rattle.session.specs.Reclaim.{removed}
use Rattle.session.proofs.Laws.Reclaims.{again_found, again_pending, again_unknown}
use Rattle.port.specs.Layout.{session_of}
use Rattle.port.specs.Places.{Left}
use Rattle.port.proofs.Canonical.{loaded_left}
use Rattle.port.proofs.Laws.Left.{left_is}
use Rattle.port.proofs.Laws.Placed.{head_there}
use Rattle.port.proofs.reclaim.look_again_at.Goals as goal

pub hand_out_at-requires : goal.hand_out_at-requires
hand_out_at-requires c =
    let head_is : c.head_at-head.result ≡ (session_of c.args.bytes.now).head = c.head_at-head.ensures ∙ head_there c.args.bytes.now in (
      c.requires.0,
      omega (arith, c.if-at-head.true, ap (λ (h : IsoHead). h.done) head_is),
      c.requires.1,
      c.requires.2,
    )

pub returns-then-at-head : goal.returns-then-at-head
returns-then-at-head c =
    let head_is : c.head_at-head.result ≡ (session_of c.args.bytes.now).head = c.head_at-head.ensures ∙ head_there c.args.bytes.now in
    let a = c.args in
    let s = session_of a.bytes.now in
    let at = a.at in
    let out = c.hand_out_at.ensures in
    let less : at < s.head.done =
    omega (
      arith,
      c.if-at-head.true,
      ap (λ (h : IsoHead). h.done) head_is,
    ) in
    let held : session_of c.hand_out_at.new.bytes ≡ removed at s = out.1.holds in (
      λ taken halt.
          (again_found s {at = a.at} refl taken halt a.results.now less
          out.0
          held refl out.2).0,
      left_is out.1 (sym held),
      (again_found s {at = a.at} refl false false a.results.now less out.0
          held refl out.2).1,
    )

pub returns-then-at-head-2 : goal.returns-then-at-head-2
returns-then-at-head-2 c =
    let head_is : c.head_at-head.result ≡ (session_of c.args.bytes.now).head = c.head_at-head.ensures ∙ head_there c.args.bytes.now in
    let same : Left c.args.bytes.now c.args.bytes.now (session_of c.args.bytes.now) = loaded_left c.args.bytes.now c.requires.0.0 (λ i. omega (arith, c.slice_known-1.given i)) in
    let a = c.args in
    let s = session_of a.bytes.now in
    let eh = head_is in
    let past : s.head.done ≤ a.at =
    omega (arith, c.if-at-head.false, ap (λ (h : IsoHead). h.done) eh) in
    let less : a.at < s.head.count = omega (arith, c.if-at-head-2.true, ap (λ (h : IsoHead). h.count) eh) in (
      λ taken halt. (again_pending s {at = a.at} refl taken halt a.results.now past less refl).0,
      same,
      (again_pending s {at = a.at} refl false false a.results.now past less refl).1,
    )

pub returns : goal.returns
returns c =
    let head_is : c.head_at-head.result ≡ (session_of c.args.bytes.now).head = c.head_at-head.ensures ∙ head_there c.args.bytes.now in
    let same : Left c.args.bytes.now c.args.bytes.now (session_of c.args.bytes.now) = loaded_left c.args.bytes.now c.requires.0.0 (λ i. omega (arith, c.slice_known-1.given i)) in
    let a = c.args in
    let s = session_of a.bytes.now in
    let eh = head_is in
    let past : s.head.done ≤ a.at =
    omega (arith, c.if-at-head.false, ap (λ (h : IsoHead). h.done) eh) in
    let over : s.head.count ≤ a.at = omega (arith, c.if-at-head-2.false, ap (λ (h : IsoHead). h.count) eh) in (
      λ taken halt. (again_unknown s {at = a.at} refl taken halt a.results.now past over refl).0,
      same,
      (again_unknown s {at = a.at} refl false false a.results.now past over refl).1,
    )
