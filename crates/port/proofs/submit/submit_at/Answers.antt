-- What is read is the session of the bytes, so crate session's parts are its submission's; what is written of them is its session.
use Rattle.std.proofs.Common.{◌≡◌, ap, ◌∙◌, subst, arith}
use mathlib.Core.Path.{subst⁻¹}
use Rattle.session.specs.declared.types.IsoChannelState.{IsoChannelState}
use Rattle.session.specs.Scan.{whole, Asked}
use Rattle.session.specs.Submit.{submitted_ring}
use Rattle.session.specs.Parts.{Parted}
use Rattle.port.specs.Layout.{session_of}
use Rattle.port.specs.Calls.{submitted_port}
use Rattle.port.proofs.Laws.Kept.{Octets}
use Rattle.port.proofs.Laws.Submits.{parts_read, numbers_put}
use Rattle.port.proofs.submit.submit_at.Goals as goal

pub scan_of-scan-requires : goal.scan_of-scan-requires
scan_of-scan-requires c =
    let read : IsoChannelState = let start = c in
    whole c.config_at-cfg.result c.head_at-head.result c.reason_at-fatal.result
    (session_of start.args.bytes.now).requests
    (session_of start.args.bytes.now).plans in
    let read_is : read ≡ session_of c.args.bytes.now = parts_read c.args.bytes.now
    c.config_at-cfg.ensures c.head_at-head.ensures c.reason_at-fatal.ensures in
    let pre = c.requires in
    let is = read_is in
    (pre.0, pre.1, ap (λ (s : IsoChannelState). s.cfg) is, ap (λ (s : IsoChannelState). s.head) is)

pub put_added-requires : goal.put_added-requires
put_added-requires c =
    let read : IsoChannelState = let start = c in
    whole c.config_at-cfg.result c.head_at-head.result c.reason_at-fatal.result
    (session_of start.args.bytes.now).requests
    (session_of start.args.bytes.now).plans in
    let read_is : read ≡ session_of c.args.bytes.now = parts_read c.args.bytes.now
    c.config_at-cfg.ensures c.head_at-head.ensures c.reason_at-fatal.ensures in
    let asked : Asked read
    c.args.transfer
    c.args.lengths.now
    c.args.ring.now c.scan_of-scan.result = let a = c.args in
    subst⁻¹ (λ (s : IsoChannelState). Asked s a.transfer a.lengths.now a.ring.now c.scan_of-scan.result)
    read_is
    c.scan_of-scan.ensures in
    let parted : Parted (session_of c.args.bytes.now)
    c.args.transfer
    c.args.lengths.now
    c.args.ring.now
    c.submit_parts-parts.result = let a = c.args in
    let s = session_of a.bytes.now in
    subst (λ (s : IsoChannelState). Parted s a.transfer a.lengths.now a.ring.now c.submit_parts-parts.result)
    read_is
    (c.submit_parts-parts.ensures s.requests s.plans asked).0 in
    let p = parted in (
      c.requires.0,
      ap (λ (s : IsoChannelState). s.head) read_is,
      p.some_slots,
      p.fitting,
      p.as_many,
    )

pub returns : goal.returns
returns c =
    let octets : Octets c.args.bytes.now = (λ i. omega (arith, c.slice_known-1.given i)) in
    let read : IsoChannelState = let start = c in
    whole c.config_at-cfg.result c.head_at-head.result c.reason_at-fatal.result
    (session_of start.args.bytes.now).requests
    (session_of start.args.bytes.now).plans in
    let read_is : read ≡ session_of c.args.bytes.now = parts_read c.args.bytes.now
    c.config_at-cfg.ensures c.head_at-head.ensures c.reason_at-fatal.ensures in
    let asked : Asked read
    c.args.transfer
    c.args.lengths.now
    c.args.ring.now c.scan_of-scan.result = let a = c.args in
    subst⁻¹ (λ (s : IsoChannelState). Asked s a.transfer a.lengths.now a.ring.now c.scan_of-scan.result)
    read_is
    c.scan_of-scan.ensures in
    let parted : Parted (session_of c.args.bytes.now)
    c.args.transfer
    c.args.lengths.now
    c.args.ring.now
    c.submit_parts-parts.result = let a = c.args in
    let s = session_of a.bytes.now in
    subst (λ (s : IsoChannelState). Parted s a.transfer a.lengths.now a.ring.now c.submit_parts-parts.result)
    read_is
    (c.submit_parts-parts.ensures s.requests s.plans asked).0 in
    let start = c in
    let a = start.args in
    let s = session_of a.bytes.now in
    let r = c.submit_parts-parts in
    let p = parted in (
      c.submit_port.ensures ∙ ap submitted_port p.joins,
      numbers_put a.bytes.now
          octets
          start.requires.0
          a.lengths.now r.result a.transfer a.ring.now
          c.put_added.ensures
          c.put_head.ensures p.joins,
      (r.ensures s.requests s.plans
          asked).1
          ∙ ap (λ (s : IsoChannelState). submitted_ring s a.transfer a.lengths.now a.ring.now)
          read_is,
    )
