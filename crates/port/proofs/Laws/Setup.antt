-- The setup packet by numbers: a number that names something is its own field of the first byte, and the eight bytes are those of two numbers.
use Rattle.std.proofs.Common.{◌≡◌, ℕ, zero, suc, ◌+◌, ◌*◌, ◌/◌, ◌%◌, ◌<◌, ◌≤◌, Bool, true, false, ◌||◌, ltb, List, [], ◌∷◌, ◌++◌, refl, ap, ◌∙◌, ap₂, arith, ltb-false, le-ltb, lt-ltb}
use Rattle.words.specs.Field.{bits, bit, ◌≔◌, word}
use Rattle.words.specs.Numbers.{direction_number}
use Rattle.words.proofs.Laws.Tests.{neither}
use Rattle.plan.specs.ControlPlan.{request_type_byte, setup_packet}
use Rattle.plan.specs.Numbers.{request_type_number, recipient_number}
use Rattle.port.specs.declared.setup.PortSetupPacket.{PortSetupPacket}
use Rattle.port.specs.Bytes.{u16_bytes, u32_bytes}
use Rattle.port.specs.Planning.{request_type_of, recipient_of, is_bad_setup, setup_of, setup_numbers, unnamed_setup, setup_words, setup_packet_numbers}
use Rattle.port.specs.Tags.{direction_of}
use Rattle.port.proofs.Laws.Kept.{u16_halves, u32_halves}
use Rattle.port.proofs.Laws.Planning.{first_of, second_of}

-- ---- the first byte

-- a sum that is right at each of four numbers
of_four : (f : ℕ → ℕ) → 0 ≡ f 0 → 1 ≡ f 1 → 2 ≡ f 2 → 3 ≡ f 3 → (n : ℕ) → n ≤ 3 → n ≡ f n
of_four f p q r s zero h = p
of_four f p q r s (suc zero) h = q
of_four f p q r s (suc (suc zero)) h = r
of_four f p q r s (suc (suc (suc zero))) h = s
of_four f p q r s (suc (suc (suc (suc n)))) h = absurd (omega (arith, h))

type_named : (t : ℕ) → t ≤ 3 → t ≡ request_type_number (request_type_of t)
type_named = of_four (λ (n : ℕ). request_type_number (request_type_of n)) refl refl refl refl

recipient_named : (r : ℕ) → r ≤ 3 → r ≡ recipient_number (recipient_of r)
recipient_named = of_four (λ (n : ℕ). recipient_number (recipient_of n)) refl refl refl refl

direction_named : (d : ℕ) → d ≤ 1 → d ≡ direction_number (direction_of d)
direction_named zero h = refl
direction_named (suc zero) h = refl
direction_named (suc (suc n)) h = absurd (omega (arith, h))

abbrev pub Named : ℕ → ℕ → ℕ → Type 0
Named t r d = (t ≤ 3) × ((r ≤ 3) × (d ≤ 1))

-- numbers that are not refused name something
pub all_named : (t r d : ℕ) → is_bad_setup t r d ≡ false → Named t r d
all_named t r d good =
    let first : (ltb 3 t ≡ false) × ((ltb 3 r || ltb 1 d) ≡ false) = neither (ltb 3 t) _ good in
    let others : (ltb 3 r ≡ false) × (ltb 1 d ≡ false) = neither (ltb 3 r) _ first.1 in
    (ltb-false 3 t first.0, (ltb-false 3 r others.0, ltb-false 1 d others.1))

abbrev fields : ℕ → ℕ → ℕ → ℕ
fields t r d = word (bits 0 5 ≔ r ∷ bits 5 2 ≔ t ∷ bit 7 ≔ d ∷ [])

pub byte_named :
    (t r d : ℕ) → is_bad_setup t r d ≡ false → 128 * d + 32 * t + r ≡ request_type_byte (request_type_of t) (recipient_of r) (direction_of d)
byte_named t r d good =
    let small : Named t r d = all_named t r d good in
    let sum : 128 * d + 32 * t + r ≡ fields t r d = omega (arith, small.0, small.1.0, small.1.1) in
    sum
    ∙ ap (λ (n : ℕ). fields n r d) (type_named t small.0)
    ∙ ap (λ (n : ℕ). fields (request_type_number (request_type_of t)) n d) (recipient_named r small.1.0)
    ∙ ap (fields (request_type_number (request_type_of t)) (recipient_number (recipient_of r))) (direction_named d small.1.1)

-- ---- the bytes

packet_bytes :
    (kind request value index len : ℕ) → kind < 256 → request < 256 → index < 65536
    → u32_bytes (kind + 256 * request + 65536 * value) ++ u32_bytes (index + 65536 * len)
    ≡ kind ∷ request ∷ value % 256 ∷ value / 256 ∷ index % 256 ∷ index / 256 ∷ len % 256 ∷ len / 256 ∷ []
unfolding u16_bytes
packet_bytes kind request value index len hk hr hi =
    let front : kind + 256 * request < 65536 = omega (arith, hk, hr) in
    ap₂ ◌++◌
    (u32_halves (kind + 256 * request) value front ∙ ap (λ (xs : List ℕ). xs ++ u16_bytes value) (u16_halves kind request hk))
    (u32_halves index len hi)

-- ---- the ways out of the call

pub setup_unnamed :
    (t r d q v i n : ℕ) {bad : Bool} {x : PortSetupPacket} → bad ≡ is_bad_setup t r d → bad ≡ true
    → x ≡ setup_words 18 0 0 → x ≡ setup_packet_numbers t r d q v i n
unfolding u16_bytes u32_bytes
setup_unnamed t r d q v i n e h p = first_of unnamed_setup (setup_numbers (setup_packet (setup_of t r q v i) (direction_of d) n)) e h p

pub setup_long :
    (t r d q v i n : ℕ) {bad : Bool} {x : PortSetupPacket} → bad ≡ is_bad_setup t r d → bad ≡ false → 65535 < n
    → x ≡ setup_words 19 0 0 → x ≡ setup_packet_numbers t r d q v i n
unfolding u16_bytes u32_bytes
setup_long t r d q v i n e h long p =
    second_of unnamed_setup (setup_numbers (setup_packet (setup_of t r q v i) (direction_of d) n)) e h (p ∙ refused)
  where
    refused : setup_words 19 0 0 ≡ setup_numbers (setup_packet (setup_of t r q v i) (direction_of d) n)
    refused = rw (lt-ltb 65_535 n long)

abbrev answered : List ℕ → PortSetupPacket
answered xs = record { refusal = 0; bytes = xs }

pub setup_named :
    (t r d q v i n : ℕ) {bad : Bool} {kind first last : ℕ} {x : PortSetupPacket} → bad ≡ is_bad_setup t r d → bad ≡ false → n ≤ 65535
    → kind < 256 → q < 256 → i < 65536
    → kind ≡ request_type_byte (request_type_of t) (recipient_of r) (direction_of d)
    → first ≡ kind + 256 * q + 65536 * v
    → last ≡ i + 65536 * n
    → x ≡ setup_words 0 first last
    → x ≡ setup_packet_numbers t r d q v i n
setup_named t r d q v i n {kind = kind} e h short hk hq hi ek ef el p =
    second_of unnamed_setup (setup_numbers (setup_packet (setup_of t r q v i) (direction_of d) n)) e h
    (p ∙ ap₂ (setup_words 0) ef el ∙ ap answered (packet_bytes kind q v i n hk hq hi) ∙ planned)
  where
    planned :
        answered (kind ∷ q ∷ v % 256 ∷ v / 256 ∷ i % 256 ∷ i / 256 ∷ n % 256 ∷ n / 256 ∷ [])
        ≡ setup_numbers (setup_packet (setup_of t r q v i) (direction_of d) n)
    planned = rw (le-ltb 65_535 n short, ek)
