-- The call's own promise, with the transfer that was made for it.
use Rattle.std.proofs.Common.{[], ◌∷◌}
use Rattle.worked.proofs.Calls.{answer_by, ring_by_lem}
use Rattle.worked.proofs.camera.again.Goals as goal

pub returns : goal.returns
returns c =
    let ring = c.args.ring.now in (
      answer_by c.args.session (192 ∷ 192 ∷ []) ring c.transfer.ensures c.submit-done.ensures.0,
      ring_by_lem c.args.session (192 ∷ 192 ∷ []) ring c.transfer.ensures c.submit-done.ensures.1,
    )
