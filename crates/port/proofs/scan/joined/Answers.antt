-- What two numbers have together is at most either one; so `or` is at least each, and its bits of a field are those of both fields.
use Rattle.std.proofs.Common.{◌≡◌, ℕ, ◌/◌, ◌%◌, ◌≤◌, ap, ◌∙◌, arith}
use lib.Bits.{bit_or, and_le_l, and_le_r, or_add_and, or_shr, or_mod}
use Rattle.port.proofs.scan.joined.Goals as goal

least : (a b : ℕ) → (a ≤ bit_or a b) × (b ≤ bit_or a b)
least a b = (omega (arith, or_add_and a b, and_le_r a b), omega (arith, or_add_and a b, and_le_l a b))

length_of : (a b : ℕ) → bit_or a b / 256 % 65536 ≡ bit_or (a / 256 % 65536) (b / 256 % 65536)
length_of a b = ap (λ (n : ℕ). n % 65536) (or_shr a b 8) ∙ or_mod (a / 256) (b / 256) 16

pub returns : goal.returns
returns c =
    let a = c.args.a in
    let b = c.args.b in
    let lengths = least (a / 256 % 65536) (b / 256 % 65536) in
    ((least a b).0, (least a b).1, omega (arith, length_of a b, lengths.0), omega (arith, length_of a b, lengths.1))
