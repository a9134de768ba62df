-- The measure is the divisor, which falls below itself as a remainder.
use Rattle.ring.proofs.grid.+gcd.Given as goal

abbrev pub decreases-gcd : goal.decreases-gcd
decreases-gcd l = l.b
