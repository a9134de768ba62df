-- How the code reads and writes a number: the library's bytes of a number are those of its halves, the low half first.
use Rattle.std.proofs.Common.{◌≡◌, ℕ, zero, suc, ◌/◌, ◌%◌, ◌<◌, List, [], ◌∷◌, ◌++◌, get_or, take, drop, sym, refl, ap, ◌∙◌, add-zero, arith, get_or-drop}
use Rattle.std.specs.Int.{w16, w32, w64, to_le_bytes, from_le_bytes}
use Rattle.std.proofs.lemmas.List.{get_or-take}
use Rattle.std.proofs.lemmas.Nat.{le_bytes_2, le_bytes_4, le_bytes_8}
use Rattle.port.specs.Bytes.{byte_of, u16_of, u32_of, u64_of, u16_bytes, u32_bytes, u64_bytes}
use Rattle.port.proofs.Laws.Kept.{Octets}
use Rattle.port.proofs.Laws.Back.{join16, join32, join64}

pub byte_at : (xs : List ℕ) (at : ℕ) → get_or xs at 0 ≡ byte_of (drop at xs)
unfolding byte_of
byte_at xs at = sym (get_or-drop at xs 0 0 ∙ ap (λ (n : ℕ). get_or xs n 0) (add-zero at))

module _ (xs : List ℕ) where
  pub u16_read : from_le_bytes w16 (take 2 xs) ≡ u16_of xs
  unfolding u16_of
  u16_read = omega (arith, get_or-take 2 xs 0 0 (omega arith), get_or-take 2 xs 1 0 (omega arith))

  pub u32_read : from_le_bytes w32 (take 4 xs) ≡ u32_of xs
  unfolding u32_of u16_of
  u32_read =
      omega (
        arith,
        get_or-take 4 xs 0 0 (omega arith),
        get_or-take 4 xs 1 0 (omega arith),
        get_or-take 4 xs 2 0 (omega arith),
        get_or-take 4 xs 3 0 (omega arith),
        get_or-drop 2 xs 0 0,
        get_or-drop 2 xs 1 0,
      )

  pub u64_read : from_le_bytes w64 (take 8 xs) ≡ u64_of xs
  unfolding u64_of u32_of u16_of
  u64_read =
      omega (
        arith,
        get_or-take 8 xs 0 0 (omega arith),
        get_or-take 8 xs 1 0 (omega arith),
        get_or-take 8 xs 2 0 (omega arith),
        get_or-take 8 xs 3 0 (omega arith),
        get_or-take 8 xs 4 0 (omega arith),
        get_or-take 8 xs 5 0 (omega arith),
        get_or-take 8 xs 6 0 (omega arith),
        get_or-take 8 xs 7 0 (omega arith),
        get_or-drop 2 xs 0 0,
        get_or-drop 2 xs 1 0,
        get_or-drop 4 xs 0 0,
        get_or-drop 4 xs 1 0,
        get_or-drop 2 (drop 4 xs) 0 0,
        get_or-drop 2 (drop 4 xs) 1 0,
        get_or-drop 4 xs 2 0,
        get_or-drop 4 xs 3 0,
      )

-- the bytes of a number that fits are below 256
small : (x : ℕ) (xs : List ℕ) → x < 65536 → Octets xs → Octets (x % 256 ∷ x / 256 ∷ xs)
small x xs h r zero = omega arith
small x xs h r (suc zero) = omega arith
small x xs h r (suc (suc i)) = r i

none : Octets []
none i = omega arith

pub u16_written : (x : ℕ) → x < 65536 → to_le_bytes w16 x ≡ u16_bytes x
unfolding u16_bytes
u16_written x h = le_bytes_2 (u16_bytes x) x refl (small x [] h none) (omega (arith, join16 x))

pub u32_written : (x : ℕ) → x < 4294967296 → to_le_bytes w32 x ≡ u32_bytes x
unfolding u32_bytes u16_bytes
u32_written x h =
    le_bytes_4 (u32_bytes x) x refl (small (x % 65536) (u16_bytes (x / 65536)) (omega arith) (small (x / 65536) [] (omega arith) none)) (omega (arith, join32 x))

pub u64_written : (x : ℕ) → x < 18446744073709551616 → to_le_bytes w64 x ≡ u64_bytes x
unfolding u64_bytes u32_bytes u16_bytes
u64_written x h =
    let low : ℕ = x % 4294967296 in
    let high : ℕ = x / 4294967296 in
    le_bytes_8 (u64_bytes x) x refl
    (small (low % 65536) (u16_bytes (low / 65536) ++ u32_bytes high) (omega arith)
    (small (low / 65536) (u32_bytes high) (omega arith)
    (small (high % 65536) (u16_bytes (high / 65536)) (omega arith)
    (small (high / 65536) [] (omega arith) none))))
    (omega (arith, join64 x))
