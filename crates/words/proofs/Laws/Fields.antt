-- What is written in a field of a word is read back from it, whatever stands in the other fields; and a field that no entry touches reads 0.
-- The entries before a field sum to less than its place, and those after it to a multiple of the bit after it. Assumes nothing.
use Prim.Native.Nat.{ℕ, zero, suc, ◌+◌, ◌-◌, ◌*◌, ◌%◌, ◌^◌, ◌≤◌, ◌<◌, zero-le}
use mathlib.Core.Bool.{Bool, ◌||◌}
use mathlib.Core.List.{List, [], ◌∷◌}
use mathlib.Core.Logic.{⊎_elim}
use mathlib.Core.Path.{◌≡◌, sym, ap, ◌∙◌}
use native.Mathlib.Nat.{zero-mul, zero-add, add-mul, add_assoc, mul_assoc, mul_comm, mod-lt, lt_of_lt_of_le, le_of_suc-le-suc, add-sub_of_le}
use native.Mathlib.Omega.{arith}
use lib.Arith.{digits_lt}
use lib.Dec.{T, leb, leb→le}
use lib.Ieee.Fits.{and_i, and_l, and_r}
use lib.ListN.{length, get_or}
use lib.Pow.{pow-add, pow_pos, pow_mono, high, low}
use mir.Facts.{or_yes}
use Rattle.words.specs.Field.{Field, Entry, bits, ◌≔◌, put, get, word, after, ascending, apart}

-- a power split in two, and taken down to a lower one
shifted : (q i j : ℕ) → q * 2 ^ (i + j) ≡ q * 2 ^ j * 2 ^ i
shifted q i j = ap (λ (x : ℕ). q * x) (pow-add 2 i j ∙ mul_comm (2 ^ i) (2 ^ j)) ∙ sym (mul_assoc q (2 ^ j) (2 ^ i))

lowered : (q i j : ℕ) → i ≤ j → q * 2 ^ j ≡ q * 2 ^ (j - i) * 2 ^ i
lowered q i j h = ap (λ (x : ℕ). q * 2 ^ x) (sym (add-sub_of_le h)) ∙ shifted q i (j - i)

-- what `ascending` says of the first entry and of the rest
split : (p : ℕ) (e : Entry) (es : List Entry) → T (ascending p (e ∷ es)) → (p ≤ e.field.place) × T (ascending (after e.field) es)
split p e es h =
    let rest : Bool = ascending (after e.field) es in
    (leb→le p e.field.place (and_l (leb p e.field.place) rest h), and_r (leb p e.field.place) rest h)

-- entries from bit p on sum to a multiple of 2 ^ p
multiple : (p : ℕ) (es : List Entry) → T (ascending p es) → (q : ℕ) × (word es ≡ q * 2 ^ p)
multiple p [] h = (0, sym (zero-mul (2 ^ p)))
multiple p (e ∷ es) h =
    let f : Field = e.field in
    let v : ℕ = e.value % 2 ^ f.width in
    let from : p ≤ f.place = (split p e es h).0 in
    let to : p ≤ after f = omega arith in
    let rest : (q : ℕ) × (word es ≡ q * 2 ^ after f) = multiple (after f) es (split p e es h).1 in
    let a : ℕ = v * 2 ^ (f.place - p) in
    let b : ℕ = rest.0 * 2 ^ (after f - p) in
    (a + b, omega (arith, rest.1, lowered v p f.place from, lowered rest.0 p (after f) to, add-mul a b (2 ^ p)))

-- a value with something below its field and something above it
between : (f : Field) (v q : ℕ) {lo : ℕ} → lo < 2 ^ f.place → v < 2 ^ f.width → get f (lo + (v * 2 ^ f.place + q * 2 ^ after f)) ≡ v
between f v q {lo} l h =
    let turned : lo + (v * 2 ^ f.place + q * 2 ^ after f) ≡ (q * 2 ^ f.width + v) * 2 ^ f.place + lo =
    omega (arith, shifted q f.place f.width, add-mul (q * 2 ^ f.width) v (2 ^ f.place))
    in
    ap (get f) turned ∙ ap (λ (x : ℕ). x % 2 ^ f.width) (high (q * 2 ^ f.width + v) f.place l) ∙ low q f.width h

-- what lies below an entry, with the entry, lies below the next
below : (p : ℕ) (e : Entry) {lo : ℕ} → lo < 2 ^ p → p ≤ e.field.place → lo + put e.field e.value < 2 ^ after e.field
below p e l h =
    let f : Field = e.field in
    omega (
      arith,
      digits_lt (mod-lt e.value (pow_pos f.width)) (lt_of_lt_of_le l (pow_mono h)),
      pow-add 2 f.place f.width,
      mul_comm (2 ^ f.place) (2 ^ f.width),
    )

-- the k-th entry, and an empty one past the end
abbrev pub entry : List Entry → ℕ → Entry
entry es k = get_or es k (bits 0 0 ≔ 0)

-- the k-th entry, cut to its field's width, is what the word has in that field
abbrev pub Holds : List Entry → ℕ → ℕ → Type 0
Holds es w k = get (entry es k).field w ≡ (entry es k).value % 2 ^ (entry es k).field.width

-- the entries are read back over anything that lies below them
read_above : (p lo : ℕ) (es : List Entry) → lo < 2 ^ p → T (ascending p es) → (k : ℕ) → k < length es → Holds es (lo + word es) k
read_above p lo [] l h k b = elim b [ ]
read_above p lo (e ∷ es) l h zero b =
    let f : Field = e.field in
    let v : ℕ = e.value % 2 ^ f.width in
    let s : (p ≤ f.place) × T (ascending (after f) es) = split p e es h in
    let rest : (q : ℕ) × (word es ≡ q * 2 ^ after f) = multiple (after f) es s.1 in
    ap (λ (x : ℕ). get f (lo + (v * 2 ^ f.place + x))) rest.1
    ∙ between f v rest.0 (lt_of_lt_of_le l (pow_mono s.0)) (mod-lt e.value (pow_pos f.width))
read_above p lo (e ∷ es) l h (suc k) b =
    let s : (p ≤ e.field.place) × T (ascending (after e.field) es) = split p e es h in
    rw (← add_assoc lo (put e.field e.value) (word es))
    (read_above (after e.field) (lo + put e.field e.value) es (below p e l s.0) s.1 k (le_of_suc-le-suc b))

-- what is written in a field is read back from it: so for every entry of the word
abbrev pub ReadBack : List Entry → Type 0
ReadBack es = (k : ℕ) → k < length es → Holds es (word es) k

pub read_back : (es : List Entry) → T (ascending 0 es) → ReadBack es
read_back es h k b = rw (← zero-add (word es)) (read_above 0 0 es (pow_pos 0) h k b)

-- a field with nothing in it, between what lies below and what lies above
gap : (f : Field) {lo w : ℕ} → lo < 2 ^ f.place → (q : ℕ) × (w ≡ q * 2 ^ after f) → get f (lo + w) ≡ 0
gap f {lo} {w} l m =
    let e : lo + w ≡ lo + (0 * 2 ^ f.place + m.0 * 2 ^ after f) = omega arith in
    ap (get f) e ∙ between f 0 m.0 l (pow_pos f.width)

-- a field over anything that lies below it, apart from the entries
clear_above : (f : Field) (p lo : ℕ) (es : List Entry) → lo < 2 ^ p → p ≤ f.place → T (ascending p es) → T (apart f es) → get f (lo + word es) ≡ 0
clear_above f p lo [] l h a t = gap f (lt_of_lt_of_le l (pow_mono h)) (multiple (after f) [] tt)
clear_above f p lo (e ∷ es) l h a t =
    let g : Field = e.field in
    let s : (p ≤ g.place) × T (ascending (after g) es) = split p e es a in
    let first : Bool = leb (after f) g.place in
    let last : Bool = leb (after g) f.place in
    let more : T (apart f es) = and_r (first || last) (apart f es) t in
    ⊎_elim
    (λ y. gap f (lt_of_lt_of_le l (pow_mono h)) (multiple (after f) (e ∷ es) (and_i first (ascending (after g) es) y s.1)))
    (λ y. rw (← add_assoc lo (put g e.value) (word es))
    (clear_above f (after g) (lo + put g e.value) es (below p e l s.0) (leb→le (after g) f.place y) s.1 more))
    (or_yes first last (and_l (first || last) (apart f es) t))

-- a field that no entry touches reads 0
pub read_clear : (f : Field) (es : List Entry) → T (ascending 0 es) → T (apart f es) → get f (word es) ≡ 0
read_clear f es h a = rw (← zero-add (word es)) (clear_above f 0 0 es (pow_pos 0) zero-le h a)
