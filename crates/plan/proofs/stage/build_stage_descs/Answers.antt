-- The stage's stretch is lent: what is stored into it is stored into the array from the stretch's first word on.
use Rattle.std.proofs.Common.{ℕ, ◌+◌, ◌-◌, ◌*◌, ◌≤◌, List, ◌++◌, length, take, drop, ap, ◌∙◌, arith}
use Rattle.plan.specs.Planning.{stage_words}
use Rattle.plan.proofs.Laws.Chains.{sets_part, length_stage}
use Rattle.plan.proofs.stage.build_stage_descs.Goals as goal

pub returns : goal.returns
returns c =
    let s = c.args.stage in
    let l = c.args.array.now in
    let i = 2 * s.desc_base in
    let room : i + length (stage_words s) ≤ length l = omega (arith, length_stage s c.requires.some) in
    ap (λ (part : List ℕ). take i l ++ (part ++ drop (length l - i) (drop i l))) c.fill_stage.ensures ∙ sets_part l (stage_words s) i room
