-- The packets of a transfer by the library's quotient that rounds up.
use Rattle.std.proofs.Common.{◌≡◌, ℕ, ◌+◌, ◌-◌, ◌/◌, ◌<◌, max, sym, ap, ◌∙◌, arith}
use Rattle.std.specs.Int.{div_ceil}
use Rattle.std.proofs.lemmas.Grind.{div_ceil_times}
use Rattle.std.proofs.Math.Nat.{max_comm}
use native.Mathlib.Nat.{div-eq_of_lt-le}
use Rattle.words.specs.Words.{packets}

rounded : (b m : ℕ) → 0 < m → div_ceil b m ≡ (b + (m - 1)) / m
rounded b m h =
    sym (div-eq_of_lt-le m (omega (arith, div_ceil_times b m h)) (omega (arith, div_ceil_times b m h)))

pub packets_rounded : (b m : ℕ) → max (div_ceil b (max 1 m)) 1 ≡ packets b m
packets_rounded b m = max_comm (div_ceil b (max 1 m)) 1 ∙ ap (max 1) (rounded b (max 1 m) (omega arith))
