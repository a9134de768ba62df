-- What was read is written back as it was: numbers, cases and entries, where each byte is below 256 and no case is bad.
use Rattle.std.proofs.Common.{◌≡◌, ℕ, ◌+◌, ◌*◌, ◌/◌, ◌%◌, ◌<◌, ◌≤◌, Bool, true, false, not, ◌&&◌, ◌||◌, eqb, ltb, leb, List, [], ◌∷◌, ◌++◌, length, get_or, take, drop, sym, refl, ap, ◌∙◌, ap₂, arith, length-drop, get_or-drop, take-add, ltb-false, ne_eqb, eqb-true, leb-true}
use mathlib.Core.Path.{subst⁻¹}
use borrow.Author.Tests.{eqb-false, not-false}
use Rattle.words.specs.Numbers.{fault_bit}
use Rattle.words.proofs.Laws.Tests.{neither}
use Rattle.port.specs.declared.tags.Tagged.{Tagged}
use Rattle.port.specs.Bytes.{byte_of, u16_of, u32_of, u64_of, u16_bytes, u32_bytes, u64_bytes}
use Rattle.port.specs.Tags.{status_tag, status_of, fault_of, is_fault, tagged, tagged_bytes, tagged_of, outcome_tagged, outcome_of, fatal_tagged, fatal_of, is_bad_tagged}
use Rattle.port.specs.Layout.{request_bytes, request_of, is_bad_request_bytes, plan_bytes, plan_of, is_bad_plan_bytes}

-- ---- numbers

abbrev pub Octets : List ℕ → Type 0
Octets xs = (i : ℕ) → get_or xs i 0 < 256

pub octets_drop : (n : ℕ) (xs : List ℕ) → Octets xs → Octets (drop n xs)
octets_drop n xs h i = subst⁻¹ (λ (k : ℕ). k < 256) (get_or-drop n xs i 0) (h (n + i))

-- two parts that follow one another
pub join : (n m : ℕ) (xs : List ℕ) {a b : List ℕ} → a ≡ take n xs → b ≡ take m (drop n xs) → a ++ b ≡ take (n + m) xs
join n m xs p q = ap₂ (λ (a b : List ℕ). a ++ b) p q ∙ sym (take-add n m xs)

pub byte_kept : (xs : List ℕ) → 1 ≤ length xs → byte_of xs ∷ [] ≡ take 1 xs
unfolding byte_of
byte_kept [] h = absurd (omega arith)
byte_kept (a ∷ xs) h = refl

pub two_kept : (xs : List ℕ) → 2 ≤ length xs → byte_of xs ∷ byte_of (drop 1 xs) ∷ [] ≡ take 2 xs
unfolding byte_of
two_kept [] h = absurd (omega arith)
two_kept (a ∷ []) h = absurd (omega arith)
two_kept (a ∷ b ∷ xs) h = refl

pub three_kept : (xs : List ℕ) → 3 ≤ length xs → byte_of xs ∷ byte_of (drop 1 xs) ∷ byte_of (drop 2 xs) ∷ [] ≡ take 3 xs
unfolding byte_of
three_kept [] h = absurd (omega arith)
three_kept (a ∷ []) h = absurd (omega arith)
three_kept (a ∷ b ∷ []) h = absurd (omega arith)
three_kept (a ∷ b ∷ c ∷ xs) h = refl

u16_low : (xs : List ℕ) → u16_of xs ≡ byte_of xs + 256 * byte_of (drop 1 xs)
unfolding u16_of byte_of
u16_low xs = ap (λ (n : ℕ). get_or xs 0 0 + 256 * n) (sym (get_or-drop 1 xs 0 0))

pub byte_small : (xs : List ℕ) → Octets xs → byte_of xs < 256
unfolding byte_of
byte_small xs h = h 0

pub u16_small : (xs : List ℕ) → Octets xs → u16_of xs < 65536
u16_small xs h = omega (arith, u16_low xs, byte_small xs h, byte_small (drop 1 xs) (octets_drop 1 xs h))

-- the bytes of a number are those of its two halves
pub u16_halves : (a b : ℕ) → a < 256 → u16_bytes (a + 256 * b) ≡ a ∷ b ∷ []
unfolding u16_bytes
u16_halves a b h =
    let low : (a + 256 * b) % 256 ≡ a = omega (arith, h) in
    let high : (a + 256 * b) / 256 ≡ b = omega (arith, h) in
    ap₂ (λ (x y : ℕ). x ∷ y ∷ []) low high

pub u32_halves : (a b : ℕ) → a < 65536 → u32_bytes (a + 65536 * b) ≡ u16_bytes a ++ u16_bytes b
unfolding u32_bytes
u32_halves a b h =
    let low : (a + 65536 * b) % 65536 ≡ a = omega (arith, h) in
    let high : (a + 65536 * b) / 65536 ≡ b = omega (arith, h) in
    ap₂ (λ (x y : ℕ). u16_bytes x ++ u16_bytes y) low high

pub u16_kept : (xs : List ℕ) → Octets xs → 2 ≤ length xs → u16_bytes (u16_of xs) ≡ take 2 xs
u16_kept xs h k = ap u16_bytes (u16_low xs) ∙ u16_halves (byte_of xs) (byte_of (drop 1 xs)) (byte_small xs h) ∙ two_kept xs k

u32_low : (xs : List ℕ) → u32_of xs ≡ u16_of xs + 65536 * u16_of (drop 2 xs)
unfolding u32_of
u32_low xs = refl

u32_small : (xs : List ℕ) → Octets xs → u32_of xs < 4294967296
u32_small xs h = omega (arith, u32_low xs, u16_small xs h, u16_small (drop 2 xs) (octets_drop 2 xs h))

pub u32_kept : (xs : List ℕ) → Octets xs → 4 ≤ length xs → u32_bytes (u32_of xs) ≡ take 4 xs
u32_kept xs h k =
    ap u32_bytes (u32_low xs)
    ∙ u32_halves (u16_of xs) (u16_of (drop 2 xs)) (u16_small xs h)
    ∙ join 2 2 xs (u16_kept xs h (omega arith)) (u16_kept (drop 2 xs) (octets_drop 2 xs h) (omega (arith, length-drop 2 xs)))

u64_low : (xs : List ℕ) → u64_of xs ≡ u32_of xs + 4294967296 * u32_of (drop 4 xs)
unfolding u64_of
u64_low xs = refl

pub u64_kept : (xs : List ℕ) → Octets xs → 8 ≤ length xs → u64_bytes (u64_of xs) ≡ take 8 xs
unfolding u64_bytes
u64_kept xs h k =
    let low : u64_of xs % 4294967296 ≡ u32_of xs = omega (arith, u64_low xs, u32_small xs h) in
    let high : u64_of xs / 4294967296 ≡ u32_of (drop 4 xs) = omega (arith, u64_low xs, u32_small xs h) in
    ap₂ (λ (a b : ℕ). u32_bytes a ++ u32_bytes b) low high
    ∙ join 4 4 xs (u32_kept xs h (omega arith)) (u32_kept (drop 4 xs) (octets_drop 4 xs h) (omega (arith, length-drop 4 xs)))

-- ---- cases

-- a number is `n`, or it is not
split : (P : ℕ → Type 0) (k n : ℕ) → P n → ((k ≡ n → ⊥) → P k) → P k
split P k n is isnt = go (eqb k n) refl
  where
    go : (b : Bool) → eqb k n ≡ b → P k
    go true e = subst⁻¹ P (eqb-true k n e) is
    go false e = isnt (eqb-false k n e)

pub pair_kept : (tag : ℕ → ℕ) → tag 0 ≡ 0 → tag 1 ≡ 1 → (k : ℕ) → ltb 1 k ≡ false → tag k ≡ k
pair_kept tag p q k e =
    split (λ (n : ℕ). tag n ≡ n) k 0 p
    (λ (a : k ≡ 0 → ⊥). split (λ (n : ℕ). tag n ≡ n) k 1 q
    (λ (b : k ≡ 1 → ⊥). absurd (omega (arith, ltb-false 1 k e, a, b))))

pub triple_kept : (tag : ℕ → ℕ) → tag 0 ≡ 0 → tag 1 ≡ 1 → tag 2 ≡ 2 → (k : ℕ) → ltb 2 k ≡ false → tag k ≡ k
triple_kept tag p q r k e =
    split (λ (n : ℕ). tag n ≡ n) k 0 p
    (λ (a : k ≡ 0 → ⊥). split (λ (n : ℕ). tag n ≡ n) k 1 q
    (λ (b : k ≡ 1 → ⊥). split (λ (n : ℕ). tag n ≡ n) k 2 r
    (λ (c : k ≡ 2 → ⊥). absurd (omega (arith, ltb-false 2 k e, a, b, c)))))

pub both : (a b : Bool) → (a && b) ≡ true → (a ≡ true) × (b ≡ true)
both true b e = (refl, e)
both false b e = let z : ◌≡◌ {A = ℕ} 0 1 = cc in absurd (omega arith)

fault_range : (k : ℕ) → (k ≡ 2 → ⊥) → (k ≡ 3 → ⊥) → is_fault k ≡ true → (7 ≤ k) × (k ≤ 10)
fault_range k a b e =
    let rest : (leb 7 k && leb k 10) ≡ true =
    sym (ap (λ (x : Bool). x || (eqb k 3 || (leb 7 k && leb k 10))) (ne_eqb k 2 a) ∙ ap (λ (x : Bool). x || (leb 7 k && leb k 10)) (ne_eqb k 3 b)) ∙ e in
    let two = both (leb 7 k) (leb k 10) rest in
    (leb-true 7 k two.0, leb-true k 10 two.1)

last_fault : (k : ℕ) → 7 ≤ k → k ≤ 10 → (k ≡ 7 → ⊥) → (k ≡ 8 → ⊥) → (k ≡ 9 → ⊥) → (k ≡ 10 → ⊥) → ⊥
last_fault k l u a b c d = omega arith

fault_kept : (k : ℕ) → is_fault k ≡ true → fault_bit (fault_of k) ≡ k
fault_kept k e =
    let P : ℕ → Type 0 = λ (n : ℕ). fault_bit (fault_of n) ≡ n in
    split P k 2 refl (λ (a : k ≡ 2 → ⊥).
    split P k 3 refl (λ (b : k ≡ 3 → ⊥).
    split P k 7 refl (λ (c : k ≡ 7 → ⊥).
    split P k 8 refl (λ (d : k ≡ 8 → ⊥).
    split P k 9 refl (λ (f : k ≡ 9 → ⊥).
    split P k 10 refl (λ (g : k ≡ 10 → ⊥). absurd (last_fault k (fault_range k a b e).0 (fault_range k a b e).1 c d f g)))))))

-- no fault and no word
zeros : (tag kind word : ℕ) → (not (eqb kind 0) || not (eqb word 0)) ≡ false → tagged tag 0 0 ≡ tagged tag kind word
zeros tag kind word e =
    let parts = neither (not (eqb kind 0)) (not (eqb word 0)) e in
    sym (ap₂ (tagged tag) (eqb-true kind 0 (not-false (eqb kind 0) parts.0)) (eqb-true word 0 (not-false (eqb word 0) parts.1)))

zero_kind : (tag kind word : ℕ) → (not (eqb kind 0) || false) ≡ false → tagged tag 0 word ≡ tagged tag kind word
zero_kind tag kind word e =
    sym (ap (λ (k : ℕ). tagged tag k word) (eqb-true kind 0 (not-false (eqb kind 0) (neither (not (eqb kind 0)) false e).0)))

known_kind : (tag kind word : ℕ) → (not (is_fault kind) || false) ≡ false → tagged tag (fault_bit (fault_of kind)) word ≡ tagged tag kind word
known_kind tag kind word e =
    ap (λ (k : ℕ). tagged tag k word) (fault_kept kind (not-false (is_fault kind) (neither (not (is_fault kind)) false e).0))

last_outcome : (tag : ℕ) → tag ≤ 4 → (tag ≡ 0 → ⊥) → (tag ≡ 1 → ⊥) → (tag ≡ 2 → ⊥) → (tag ≡ 3 → ⊥) → (tag ≡ 4 → ⊥) → ⊥
last_outcome tag u a b c d e = omega arith

abbrev OutcomeKept : ℕ → ℕ → ℕ → Type 0
OutcomeKept kind word tag = is_bad_tagged 3 4 (tagged tag kind word) ≡ false → outcome_tagged (outcome_of (tagged tag kind word)) ≡ tagged tag kind word

pub outcome_kept : (t : Tagged) → is_bad_tagged 3 4 t ≡ false → outcome_tagged (outcome_of t) ≡ t
outcome_kept t = by_tag t.tag t.kind t.word
  where
    by_tag : (tag kind word : ℕ) → OutcomeKept kind word tag
    by_tag tag kind word =
        split (OutcomeKept kind word) tag 0 (zeros 0 kind word) (λ (a : tag ≡ 0 → ⊥).
        split (OutcomeKept kind word) tag 1 (zeros 1 kind word) (λ (b : tag ≡ 1 → ⊥).
        split (OutcomeKept kind word) tag 2 (zeros 2 kind word) (λ (c : tag ≡ 2 → ⊥).
        split (OutcomeKept kind word) tag 3 (known_kind 3 kind word) (λ (d : tag ≡ 3 → ⊥).
        split (OutcomeKept kind word) tag 4 (zero_kind 4 kind word) (λ (f : tag ≡ 4 → ⊥) (e : is_bad_tagged 3 4 (tagged tag kind word) ≡ false).
        absurd (last_outcome tag (ltb-false 4 tag (neither (ltb 4 tag) _ e).0) a b c d f))))))

abbrev FatalKept : ℕ → ℕ → ℕ → Type 0
FatalKept kind word tag = is_bad_tagged 2 2 (tagged tag kind word) ≡ false → fatal_tagged (fatal_of (tagged tag kind word)) ≡ tagged tag kind word

pub fatal_kept : (t : Tagged) → is_bad_tagged 2 2 t ≡ false → fatal_tagged (fatal_of t) ≡ t
fatal_kept t = by_tag t.tag t.kind t.word
  where
    by_tag : (tag kind word : ℕ) → FatalKept kind word tag
    by_tag tag kind word =
        split (FatalKept kind word) tag 0 (zeros 0 kind word) (λ (a : tag ≡ 0 → ⊥).
        split (FatalKept kind word) tag 1 (zeros 1 kind word) (λ (b : tag ≡ 1 → ⊥).
        split (FatalKept kind word) tag 2 (known_kind 2 kind word) (λ (c : tag ≡ 2 → ⊥) (e : is_bad_tagged 2 2 (tagged tag kind word) ≡ false).
        absurd (omega (arith, ltb-false 2 tag (neither (ltb 2 tag) _ e).0, a, b, c)))))

pub tagged_kept : (xs : List ℕ) → Octets xs → 6 ≤ length xs → tagged_bytes (tagged_of xs) ≡ take 6 xs
unfolding tagged_bytes tagged_of
tagged_kept xs h k =
    join 2 4 xs (two_kept xs (omega arith)) (u32_kept (drop 2 xs) (octets_drop 2 xs h) (omega (arith, length-drop 2 xs)))

-- ---- entries

pub request_kept : (xs : List ℕ) → Octets xs → 20 ≤ length xs → is_bad_request_bytes xs ≡ false → request_bytes (request_of xs) ≡ take 20 xs
unfolding request_bytes request_of is_bad_request_bytes
request_kept xs h k e =
    let id : u64_bytes (u64_of xs) ≡ take 8 xs = u64_kept xs h (omega arith) in
    let total : u32_bytes (u32_of (drop 8 xs)) ≡ take 4 (drop 8 xs) = u32_kept (drop 8 xs) (octets_drop 8 xs h) (omega (arith, length-drop 8 xs)) in
    let packets : u16_bytes (u16_of (drop 12 xs)) ≡ take 2 (drop 12 xs) =
    u16_kept (drop 12 xs) (octets_drop 12 xs h) (omega (arith, length-drop 12 xs)) in
    let outcome : tagged_bytes (tagged_of (drop 14 xs)) ≡ take 6 (drop 14 xs) =
    tagged_kept (drop 14 xs) (octets_drop 14 xs h) (omega (arith, length-drop 14 xs)) in
    join 14 6 xs (join 12 2 xs (join 8 4 xs id total) packets) (ap tagged_bytes (outcome_kept (tagged_of (drop 14 xs)) e) ∙ outcome)

pub plan_kept : (xs : List ℕ) → Octets xs → 7 ≤ length xs → is_bad_plan_bytes xs ≡ false → plan_bytes (plan_of xs) ≡ take 7 xs
unfolding plan_bytes plan_of is_bad_plan_bytes
plan_kept xs h k e =
    let planned : u16_bytes (u16_of xs) ≡ take 2 xs = u16_kept xs h (omega arith) in
    let slot : u16_bytes (u16_of (drop 2 xs)) ≡ take 2 (drop 2 xs) = u16_kept (drop 2 xs) (octets_drop 2 xs h) (omega (arith, length-drop 2 xs)) in
    let actual : u16_bytes (u16_of (drop 4 xs)) ≡ take 2 (drop 4 xs) = u16_kept (drop 4 xs) (octets_drop 4 xs h) (omega (arith, length-drop 4 xs)) in
    let status : byte_of (drop 6 xs) ∷ [] ≡ take 1 (drop 6 xs) = byte_kept (drop 6 xs) (omega (arith, length-drop 6 xs)) in
    join 6 1 xs (join 4 2 xs (join 2 2 xs planned slot) actual)
    (ap (λ (n : ℕ). n ∷ []) (pair_kept (λ (n : ℕ). status_tag (status_of n)) refl refl (byte_of (drop 6 xs)) e) ∙ status)
