-- `grid_step` is Euclid's rule on the two numbers, each raised to 1.
use Rattle.std.proofs.Common.{◌≡◌, max, arith}
use Rattle.ring.specs.RingSums.{grid_step}
use Rattle.ring.proofs.RingFacts.{grid_step_pos}
use Rattle.ring.proofs.grid.grid_step.Goals as goal

pub returns : goal.returns
returns c =
    let interval : c.max.result ≡ max 1 c.args.interval = omega arith in
    let ring : c.max-2.result ≡ max 1 c.args.ring = omega arith in
    let e : c.gcd.result ≡ grid_step c.args.interval c.args.ring = cc (interval, ring) in
    (e, omega (arith, e, grid_step_pos c.args.interval c.args.ring))
