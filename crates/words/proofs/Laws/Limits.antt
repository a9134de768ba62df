-- A limit tested without a sum that could wrap: what is left below the limit is compared instead.
use mathlib.Core.Path.{◌≡◌, sym, ◌∙◌}
use Prim.Native.Nat.{ℕ, ◌+◌, ◌-◌, ◌≤◌, ◌<◌}
use native.Mathlib.Decide.{dec_lt}
use native.Mathlib.Omega.{arith}
use lib.Dec.{ltb}
use borrow.Author.Tests.{lt-ltb, le-ltb}

pub rest_test : (limit base more : ℕ) → base ≤ limit → ltb (limit - base) more ≡ ltb limit (base + more)
rest_test limit base more h = go (dec_lt (limit - base) more)
  where
    go : Dec (limit - base < more) → ltb (limit - base) more ≡ ltb limit (base + more)
    go (yes l) = lt-ltb (limit - base) more l ∙ sym (lt-ltb limit (base + more) (omega arith))
    go (no n) = le-ltb (limit - base) more (omega arith) ∙ sym (le-ltb limit (base + more) (omega arith))
