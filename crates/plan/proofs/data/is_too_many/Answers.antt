-- `is_too_many` compares the length with 1,024 chunks, which 32 bits hold.
use Rattle.std.proofs.Common.{◌≡◌, ℕ, ◌*◌, ◌≤◌, ltb, ap, ◌∙◌, arith, ltb-false}
use Rattle.plan.specs.Planning.{chunk_of}
use Rattle.plan.specs.DataStages.{size_of}
use Rattle.plan.proofs.Laws.Data.{chunk_small}
use Rattle.plan.proofs.Laws.Split.{chunk_pos, many_by}
use Rattle.plan.proofs.data.is_too_many.Goals as goal

pub returns : goal.returns
returns c =
    let r = c.args.request in
    let k = chunk_of (size_of r) in
    let chunk_is : c.chunk_of.result ≡ k = c.chunk_of.ensures ∙ ap chunk_of c.size_of.ensures in
    let small : size_of r ≤ 65_536 = omega (arith, c.size_of.ensures) in (
      ap (λ (k : ℕ). ltb (1024 * k) r.len) chunk_is ∙ many_by 1024 r.len k (chunk_pos (size_of r) small) (omega arith),
      λ e. omega (arith, ltb-false (1024 * c.chunk_of.result) r.len e, chunk_small (size_of r)),
    )
