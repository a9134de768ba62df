-- Laws of lists that know nothing of the ring.
use Rattle.std.proofs.Common.{◌≡◌, ℕ, zero, suc, ◌-◌, drop, replicate, sym, ap, ◌∙◌}
use native.Mathlib.Nat.{sub-zero, zero-sub, suc-sub-suc}

pub drop-replicate {ℓ} : {A : Type ℓ} (n m : ℕ) (a : A) → drop n (replicate m a) ≡ replicate (m - n) a
drop-replicate zero m a = ap (λ (k : ℕ). replicate k a) (sym (sub-zero m))
drop-replicate (suc n) zero a = ap (λ (k : ℕ). replicate k a) (sym (zero-sub (suc n)))
drop-replicate (suc n) (suc m) a = drop-replicate n m a ∙ ap (λ (k : ℕ). replicate k a) (sym (suc-sub-suc m n))
