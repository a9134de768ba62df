-- A turn stores one descriptor that is full, and what is still to be stored is the rest of the chain.
use Rattle.std.proofs.Common.{ℕ, ◌+◌, ◌-◌, ◌*◌, ◌≤◌, false, ap, ◌∙◌, arith}
use Rattle.plan.specs.StageLength.{link_of}
use Rattle.plan.proofs.Laws.Chains.{chunks_fit, chunk_more, store_more}
use Rattle.plan.proofs.stage.fill_chain.Goals as goal

pub overflow_add-buf : goal.overflow_add-buf
overflow_add-buf c =
    let s = c.args.stage in
    let k = c.chunk_of-chunk.result in
    let now = c.loop-i in
    let full : (s.descs - 1) * k ≤ s.len = rw c.chunk_of-chunk.ensures (rw c.mps_of-mps.ensures.0 c.requires.full) in
    let within : (now.i + 1) * k ≤ s.len = chunks_fit (now.i + 1) (s.descs - 1) k s.len (omega arith) full in
    omega (arith, chunk_more now.i k)

pub loop-i-preserved : goal.loop-i-preserved
loop-i-preserved c =
    let s = c.args.stage in
    let m = c.mps_of-mps.result in
    let k = c.chunk_of-chunk.result in
    let now = c.loop-i in
    let put = c.put_link in (
      put.auto.words ∙ now.invariant.0,
      omega (arith, chunk_more now.i k),
      store_more m k c.is_in_of-is_in.result s.descs s.len s.dma_addr now.i now.words put.new.words c.link.result
          (omega arith) c.chunk_of-chunk.ensures
          (c.link.ensures ∙ ap (λ (buf : ℕ). link_of buf k m c.is_in_of-is_in.result false) now.invariant.1)
          put.ensures
          ∙ now.invariant.2,
    )
