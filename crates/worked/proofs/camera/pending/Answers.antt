-- The two calls' own promises, with the configuration and the transfer that were made for them.
use Rattle.std.proofs.Common.{[], ◌∷◌, length}
use Rattle.worked.proofs.Calls.{opened_as, ring_as, session_by, first_ring_by}
use Rattle.worked.proofs.camera.pending.Goals as goal

pub returns : goal.returns
returns c =
    let ring = c.args.ring.now in
    let first = opened_as (length ring) c.config.ensures c.open-opened.ensures.0 in
    let zero = ring_as ring c.config.ensures c.open-opened.ensures.1 in (
      session_by (192 ∷ 192 ∷ []) first zero c.transfer.ensures c.submit-done.ensures.0,
      first_ring_by (192 ∷ 192 ∷ []) first zero c.transfer.ensures c.submit-done.ensures.1,
    )
