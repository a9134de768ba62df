-- The reason is written where it stands.
use Rattle.std.proofs.Common.{Some, ap, ◌∙◌, arith}
use lib.Seq.{sets}
use Rattle.port.specs.declared.tags.Tagged.{Tagged}
use Rattle.port.specs.Tags.{tagged_bytes}
use Rattle.port.proofs.Laws.Kept.{Octets}
use Rattle.port.proofs.Laws.Steps.{reason_here}
use Rattle.port.proofs.poll.halt_at.Goals as goal

pub returns : goal.returns
returns c =
    let octets : Octets c.args.bytes.now = (λ i. omega (arith, c.slice_known-1.given i)) in
    let xs = c.args.bytes.now in
    reason_here xs octets c.requires
    (Some c.args.reason)
    (c.put_tagged.ensures ∙ ap (λ (t : Tagged). sets xs 34 (tagged_bytes t)) c.from.ensures)
