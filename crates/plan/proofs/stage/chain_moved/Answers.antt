-- A turn counts one descriptor that is full, and what is still to be counted is the rest of the chain.
use Rattle.std.proofs.Common.{◌+◌, ◌-◌, ◌*◌, ◌≤◌, ℕ, ap, ◌∙◌, arith}
use Rattle.plan.proofs.Laws.Chains.{chunks_fit, chunk_more, full_moved, count_more}
use Rattle.plan.proofs.stage.chain_moved.Goals as goal

pub overflow_add-total : goal.overflow_add-total
overflow_add-total c =
    let s = c.args.stage in
    let k = c.chunk_of-chunk.result in
    let full : (s.descs - 1) * k ≤ s.len = rw c.chunk_of-chunk.ensures (rw c.mps_of-mps.ensures.0 c.requires.full) in
    let within : (c.loop-i.i + 1) * k ≤ s.len = chunks_fit (c.loop-i.i + 1) (s.descs - 1) k s.len (omega arith) full in
    omega (arith, chunk_more c.loop-i.i k)

pub loop-i-preserved : goal.loop-i-preserved
loop-i-preserved c =
    let s = c.args.stage in
    let m = c.mps_of-mps.result in
    let k = c.chunk_of-chunk.result in
    let now = c.loop-i in
    let moved = c.saturating_sub-total in (
      omega (arith, chunk_more now.i k),
      count_more m k c.args.array.now s.desc_base s.descs s.len now.i now.total moved.result (omega arith) c.chunk_of-chunk.ensures
          (moved.ensures ∙ ap (λ (x : ℕ). k - x) c.count_of.ensures ∙ full_moved m k _ (omega arith) c.chunk_of-chunk.ensures)
          ∙ now.invariant.1,
    )
