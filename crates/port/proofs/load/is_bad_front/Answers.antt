-- The mark's answer, then the bytes and the reason's answer as the law of the head reads them.
use Rattle.std.proofs.Common.{Bool, ◌||◌, refl, ap₂}
use Rattle.port.proofs.Laws.Head.{bad_head_at}
use Rattle.port.proofs.load.is_bad_front.Goals as goal

pub returns : goal.returns
returns c =
    ap₂ (λ (x y : Bool). x || y) c.is_bad_mark.ensures
    (bad_head_at c.args.bytes.now c.byte_at.ensures
    c.byte_at-2.ensures c.byte_at-3.ensures c.byte_at-4.ensures refl c.is_bad_reason.ensures)
