-- The part that was filled is a run of stores.
use Rattle.std.proofs.Common.{ℕ, ◌-◌, ◌+◌, drop, replicate, sym, ap, ◌∙◌, arith, length-drop, length-take-le}
use Rattle.std.proofs.lemmas.List.{length-replicate}
use Rattle.port.specs.Bytes.{zeros}
use Rattle.port.proofs.Laws.Runs.{part_written}
use Rattle.port.proofs.save.put_zeros.Goals as goal

pub returns : goal.returns
unfolding zeros
returns c =
    let a = c.args in
    let many = length-take-le (a.from + a.n - a.from) (drop a.from a.bytes.now) (omega (arith, length-drop a.from a.bytes.now)) ∙ omega arith in
    part_written a.from a.n a.bytes.now c.fill.new.self (replicate a.n 0)
    (c.fill.ensures.after (λ y e. e) ∙ ap (λ (k : ℕ). replicate k 0) many) (sym (length-replicate a.n 0)) c.requires
