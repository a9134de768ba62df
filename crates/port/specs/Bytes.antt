-- Numbers as bytes, little-endian: the low byte first (docs/LAYOUT.md). A reader takes the number that a list begins with; what stands
-- further on is reached by `drop`.
use Rattle.std.specs.Prelude.{ℕ, ◌+◌, ◌*◌, ◌/◌, ◌%◌, List, [], ◌∷◌, ◌++◌, drop, replicate, slice_index}

unfoldable pub byte_of : List ℕ → ℕ
byte_of xs = slice_index xs 0

unfoldable pub u16_of : List ℕ → ℕ
u16_of xs = slice_index xs 0 + 256 * slice_index xs 1

unfoldable pub u32_of : List ℕ → ℕ
u32_of xs = u16_of xs + 65536 * u16_of (drop 2 xs)

unfoldable pub u64_of : List ℕ → ℕ
u64_of xs = u32_of xs + 4294967296 * u32_of (drop 4 xs)

unfoldable pub u16_bytes : ℕ → List ℕ
u16_bytes x = x % 256 ∷ x / 256 ∷ []

unfoldable pub u32_bytes : ℕ → List ℕ
u32_bytes x = u16_bytes (x % 65536) ++ u16_bytes (x / 65536)

unfoldable pub u64_bytes : ℕ → List ℕ
u64_bytes x = u32_bytes (x % 4294967296) ++ u32_bytes (x / 4294967296)

-- as many zeros; the thousands of an idle session are never written out, so it does not unfold by itself
unfoldable pub zeros : ℕ → List ℕ
zeros n = replicate n 0
