-- 01, "Ring sums": the greatest common divisor, "found by Euclid's rule on remainders". The function calls itself on the divisor and the
-- remainder, which falls, so it goes down the proof that every number can be reached from below. What proofs use are the two equations.
use Rattle.std.specs.Prelude.{◌≡◌, ℕ, zero, suc, ◌%◌, ◌<◌, max, refl}
use Rattle.std.proofs.Common.{ap, mod-lt, zero-lt-suc, not-suc-le-zero}
use mathlib.Core.WellFounded.{Acc, Acc-prop}
use lib.WfN.{lt-wf_rel}

abbrev pub euclid : (a : ℕ) {b : ℕ} → Acc ◌<◌ b → ℕ
euclid a (Acc.intro zero h) = max 1 a
euclid a (Acc.intro (suc b) h) = euclid (suc b) (h (a % suc b) (mod-lt a (zero-lt-suc b)))

-- of a and 0 it is a, or 1 where a is 0 too
unfoldable pub gcd : ℕ → ℕ → ℕ
gcd a b = euclid a (lt-wf_rel.wf.apply b)

pub gcd_zero : (a : ℕ) → gcd a 0 ≡ max 1 a
unfolding gcd
gcd_zero a = refl

step : (a : ℕ) {b : ℕ} (p : Acc ◌<◌ b) → 0 < b → (q : Acc ◌<◌ (a % b)) → euclid a p ≡ euclid b q
step a (Acc.intro zero h) l q = absurd (not-suc-le-zero l)
step a (Acc.intro (suc b) h) l q = ap (λ (r : Acc ◌<◌ (a % suc b)). euclid (suc b) r) (Acc-prop (h (a % suc b) (mod-lt a (zero-lt-suc b))) q)

pub gcd_step : (a b : ℕ) → 0 < b → gcd a b ≡ gcd b (a % b)
unfolding gcd
gcd_step a b h = step a (lt-wf_rel.wf.apply b) h (lt-wf_rel.wf.apply (a % b))
