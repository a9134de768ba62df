-- Each byte is below 256, so that the number fixes the four of which it is made.
use Rattle.std.proofs.Common.{arith}
use Rattle.port.proofs.Laws.Head.{unmarked_by}
use Rattle.port.proofs.load.is_bad_mark.Goals as goal

pub returns : goal.returns
returns c = unmarked_by c.args.bytes.now (λ i. omega (arith, c.type_inv.bytes i)) c.u32_at.ensures c.byte_at.ensures
