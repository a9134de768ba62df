-- The plans of a request are some, at most 255, and end within the table.
use Rattle.std.proofs.Common.{◌≡◌, ◌+◌, arith}
use Rattle.session.specs.Reclaim.{plans_end}
use Rattle.session.proofs.Laws.Record.{sound}
use Rattle.session.proofs.Laws.Handed.{plans_fit}
use Rattle.session.proofs.types.IsoChannelState.plans_end.Goals as goal

pub overflow_add-result : goal.overflow_add-result
overflow_add-result c =
    let s = sound c.args.self.now (omega arith) (omega arith) c.requires.0 in
    omega (arith, c.plans_begin.ensures, c.from.ensures, (plans_fit c.args.self.now s c.args.at c.requires.1).2)

pub returns : goal.returns
returns c =
    let s = sound c.args.self.now (omega arith) (omega arith) c.requires.0 in
    let fit = plans_fit c.args.self.now s c.args.at c.requires.1 in
    let to : c.plans_begin.result + c.from.result ≡ plans_end c.args.at c.args.self.now = omega (arith, c.plans_begin.ensures, c.from.ensures) in
    (to, omega (arith, to, fit.0), omega (arith, to, fit.1), omega (arith, to, fit.2))
