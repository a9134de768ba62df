-- Packets, chunks and the toggle, for every length and packet size. A length above 0 falls into one part more than there are whole parts
-- before its last byte: from that one law follow the sums of the parts and the bounds of the last.
use Rattle.std.proofs.Common.{◌≡◌, ℕ, zero, suc, ◌+◌, ◌-◌, ◌*◌, ◌/◌, ◌%◌, ◌<◌, ◌≤◌, min, max, Bool, true, false, cond, not, ◌&&◌, eqb, ltb, ◌⊎◌, List, [], ◌∷◌, ◌++◌, length, get_or, replicate, sym, refl, ap, ◌∙◌, ap₂, inl, inr, ⊎_elim, add_assoc, mul-le-mul_right, mod-lt, mul_assoc, suc-mul, div-lt_iff_lt-mul, add-mul, eq-zero-or-pos, eq-or-lt_of_le, one-mul, le-div_iff_mul-le, zero-add, zero-mul, div-mul-le_self, arith, length-append, ltb-false, ltb-true, le-ltb, lt-ltb, eq-eqb, ne_eqb}
use mathlib.Core.Path.{subst⁻¹}
use Prim.Native.Nat.{◌∣◌}
use native.Mathlib.Nat.{add-div_right, mul-add-div_right, div-add-mod'}
use native.Mathlib.Nat.{lt-div-mul-add, div-eq_of_lt, div-mul_cancel, dvd-mul_left, add-mod}
use lib.Arith.{digits_div}
use lib.ListN.{length-replicate, get_or-replicate, get_or-append}
use lib.Seq.{get_or_at}
use Rattle.words.specs.Words.{packets, initial_len}
use Rattle.plan.specs.Planning.{chunk_of, split_of, lengths, sum, advanced}

-- An empty transfer is one packet: counted as none, as version two did, the toggle would stay one behind.
pub empty_is_one_packet : (m : ℕ) → packets 0 m ≡ 1
empty_is_one_packet m =
    let below : 0 + (max 1 m - 1) < max 1 m = omega arith in
    ap (max 1) (div-eq_of_lt below)

-- Every transfer is one packet at least.
pub packets_some : (b m : ℕ) → 0 < packets b m
packets_some b m = omega arith

-- A length above 0 is one packet more than there are whole packets before its last byte.
pub packets_pos : (b m : ℕ) → 0 < b → packets b m ≡ (b - 1) / max 1 m + 1
packets_pos b m h =
    let pos : 0 < max 1 m = omega arith in
    let e : b + (max 1 m - 1) ≡ (b - 1) + max 1 m = omega arith in
    let q : (b + (max 1 m - 1)) / max 1 m ≡ (b - 1) / max 1 m + 1 = ap (λ (x : ℕ). x / max 1 m) e ∙ add-div_right (b - 1) pos in
    omega arith

-- Whole packets before some bytes are counted by themselves.
pub packets_whole : (q b m : ℕ) → 0 < b → packets (q * max 1 m + b) m ≡ q + packets b m
packets_whole q b m h =
    let pos : 0 < max 1 m = omega arith in
    let e : q * max 1 m + b - 1 ≡ q * max 1 m + (b - 1) = omega arith in
    let d : (q * max 1 m + b - 1) / max 1 m ≡ q + (b - 1) / max 1 m = ap (λ (x : ℕ). x / max 1 m) e ∙ mul-add-div_right pos q (b - 1) in
    omega (arith, packets_pos b m h, packets_pos (q * max 1 m + b) m (omega arith))

-- Whole packets with nothing behind them are that many, where there is one at all.
pub packets_exact : (q m : ℕ) → 0 < q → packets (q * max 1 m) m ≡ q
packets_exact q m h =
    let less : max 1 m - 1 < max 1 m = omega arith in
    let d : (q * max 1 m + (max 1 m - 1)) / max 1 m ≡ q = digits_div q less in
    omega arith

-- The chunk is a multiple of the packet size.
pub chunk_whole : (m : ℕ) → max 1 m ∣ chunk_of m
chunk_whole m = dvd-mul_left (max 1 m) ((131_071 - (max 1 m - 1)) / max 1 m)

-- The chunk is its packets, with nothing left over.
pub chunk_packets : (m : ℕ) → chunk_of m ≡ chunk_of m / max 1 m * max 1 m
chunk_packets m = sym (div-mul_cancel (max 1 m) (chunk_whole m))

-- n chunks in packets
chunks_whole : (n m : ℕ) → n * (chunk_of m / max 1 m) * max 1 m ≡ n * chunk_of m
chunks_whole n m = mul_assoc n (chunk_of m / max 1 m) (max 1 m) ∙ ap (λ (x : ℕ). n * x) (sym (chunk_packets m))

-- No multiple of the packet size that leaves the room is larger.
pub chunk_largest : (m k : ℕ) → max 1 m ∣ k → k ≤ 131_071 - (max 1 m - 1) → k ≤ chunk_of m
chunk_largest m k d h =
    let pos : 0 < max 1 m = omega arith in
    let whole : k / max 1 m * max 1 m ≡ k = div-mul_cancel (max 1 m) d in
    let q : k / max 1 m ≤ (131_071 - (max 1 m - 1)) / max 1 m = (le-div_iff_mul-le pos).1 (omega arith) in
    omega (arith, mul-le-mul_right (max 1 m) q)

-- Above the chunk there is room for a packet less one byte.
pub chunk_room : (m : ℕ) → m ≤ 131_072 → chunk_of m + (max 1 m - 1) ≤ 131_071
chunk_room m h = omega (arith, div-mul-le_self (131_071 - (max 1 m - 1)) (max 1 m))

-- 65,536 is the largest packet size of which a chunk holds one.
module _ (m : ℕ) (small : m ≤ 65_536) where
  -- a chunk has a packet
  packets_in_chunk : 1 ≤ (131_071 - (max 1 m - 1)) / max 1 m
  packets_in_chunk =
      let pos : 0 < max 1 m = omega arith in
      let one : 1 * max 1 m ≤ 131_071 - (max 1 m - 1) = rw one-mul (omega arith) in
      (le-div_iff_mul-le pos).1 one

  -- The chunk is one packet at least.
  pub one_packet_at_least : max 1 m ≤ chunk_of m
  one_packet_at_least = omega (arith, one-mul (max 1 m), mul-le-mul_right (max 1 m) packets_in_chunk)

  -- The chunk is not 0.
  pub chunk_pos : 0 < chunk_of m
  chunk_pos = omega (arith, one_packet_at_least)

  -- What is no more than a chunk stays so when it is rounded up to whole packets.
  pub rounded_within : (l : ℕ) → l ≤ chunk_of m → initial_len l m true ≤ chunk_of m
  rounded_within l h =
      let pos : 0 < max 1 m = omega arith in
      let d : ℕ = (131_071 - (max 1 m - 1)) / max 1 m in
      let below : l + (max 1 m - 1) < (d + 1) * max 1 m = omega (arith, add-mul d 1 (max 1 m)) in
      let q : (l + (max 1 m - 1)) / max 1 m < d + 1 = (div-lt_iff_lt-mul pos).1 below in
      let count : packets l m ≤ d = omega (arith, packets_in_chunk) in
      mul-le-mul_right (max 1 m) count

  -- So it fits the field of 17 bits.
  pub rounded_fits : (l : ℕ) → l ≤ chunk_of m → initial_len l m true ≤ 131_071
  rounded_fits l h = omega (arith, rounded_within l h, chunk_room m (omega arith))

-- In parts above 0, a length above 0 is one part more than there are whole parts before its last byte.
pub parts_pos : (len c : ℕ) → 0 < len → 0 < c → packets len c ≡ (len - 1) / c + 1
parts_pos len c h pos =
    let e : max 1 c ≡ c = omega arith in
    packets_pos len c h ∙ ap (λ (x : ℕ). (len - 1) / x + 1) e

-- The parts of a length are those that it fills and one more for a rest, and one where it is 0.
pub parts_ceil : (len c : ℕ) → 0 < c → max 1 (len / c + min 1 (len % c)) ≡ packets len c
parts_ceil len c h = go (len % c) refl
  where
    one : max 1 c ≡ c
    one = omega arith

    count : packets len c ≡ max 1 ((len + (c - 1)) / c)
    count = ap (λ (k : ℕ). max 1 ((len + (k - 1)) / k)) one

    whole : len / c * c + len % c ≡ len
    whole = div-add-mod' len c

    go : (r : ℕ) → len % c ≡ r → max 1 (len / c + min 1 (len % c)) ≡ packets len c
    go zero e =
        let less : c - 1 < c = omega arith in
        let sum : len + (c - 1) ≡ len / c * c + (c - 1) = omega (arith, whole) in
        let d : (len + (c - 1)) / c ≡ len / c = ap (λ (x : ℕ). x / c) sum ∙ digits_div (len / c) less in
        omega (arith, count)
    go (suc r) e =
        let below : len % c < c = mod-lt len h in
        let less : r < c = omega arith in
        let sum : len + (c - 1) ≡ (len / c + 1) * c + r = omega (arith, whole, add-mul (len / c) 1 c, one-mul c) in
        let d : (len + (c - 1)) / c ≡ len / c + 1 = ap (λ (x : ℕ). x / c) sum ∙ digits_div (len / c + 1) less in
        omega (arith, count)

-- More than n parts is a length beyond n parts, and the other way round.
pub many_parts : (n len c : ℕ) → 0 < c → n * c < len → n < packets len c
many_parts n len c h more =
    let some : 0 < len = omega arith in
    let before : n * c ≤ len - 1 = omega arith in
    omega (arith, parts_pos len c some h, (le-div_iff_mul-le {x = n} {y = len - 1} h).1 before)

pub few_parts : (n len c : ℕ) → 0 < c → 0 < n → len ≤ n * c → packets len c ≤ n
few_parts n len c h some-parts less = by_length (eq-zero-or-pos len)
  where
    by_length : (len ≡ 0) ⊎ (0 < len) → packets len c ≤ n
    by_length (inl e) = let one : packets len c ≡ 1 = ap (λ (b : ℕ). packets b c) e ∙ empty_is_one_packet c in omega arith
    by_length (inr some) =
        let within : len - 1 < n * c = omega arith in
        omega (arith, parts_pos len c some h, (div-lt_iff_lt-mul {x = len - 1} {y = n} h).1 within)

-- So a product says whether there are more than n parts.
pub many_by : (n len c : ℕ) → 0 < c → 0 < n → ltb (n * c) len ≡ ltb n (packets len c)
many_by n len c h some = go (ltb (n * c) len) refl
  where
    go : (b : Bool) → ltb (n * c) len ≡ b → ltb (n * c) len ≡ ltb n (packets len c)
    go true e = e ∙ sym (lt-ltb n (packets len c) (many_parts n len c h (ltb-true (n * c) len e)))
    go false e = e ∙ sym (le-ltb n (packets len c) (few_parts n len c h some (ltb-false (n * c) len e)))

-- The parts before the last are less than a length above 0.
pub parts_below : (len c : ℕ) → 0 < len → (packets len c - 1) * c < len
parts_below len zero h = omega arith
parts_below len (suc c) h =
    let count : packets len (suc c) - 1 ≡ (len - 1) / suc c = omega (arith, parts_pos len (suc c) h (omega arith)) in
    rw count (omega (arith, div-mul-le_self (len - 1) (suc c)))

-- The parts before the last are no more than the length.
pub parts_within : (len c : ℕ) → (packets len c - 1) * c ≤ len
parts_within zero c = rw empty_is_one_packet (omega arith)
parts_within (suc len) c = omega (arith, parts_below (suc len) c (omega arith))

-- What they leave is no more than one part.
pub rest_within : (len c : ℕ) → 0 < c → len - (packets len c - 1) * c ≤ c
rest_within zero c h = omega arith
rest_within (suc len) c h =
    let e : suc len - 1 ≡ len = omega arith in
    let count : packets (suc len) c - 1 ≡ len / c = omega (arith, parts_pos (suc len) c (omega arith) h, ap (λ (x : ℕ). x / c) e) in
    rw count (omega (arith, lt-div-mul-add {a = len} h))

-- lists one behind the other, and the same length many times
sum_append : (xs ys : List ℕ) → sum (xs ++ ys) ≡ sum xs + sum ys
sum_append [] ys = sym (zero-add (sum ys))
sum_append (x ∷ xs) ys = ap (λ (n : ℕ). x + n) (sum_append xs ys) ∙ sym (add_assoc x (sum xs) (sum ys))

sum_replicate : (n a : ℕ) → sum (replicate n a) ≡ n * a
sum_replicate zero a = sym (zero-mul a)
sum_replicate (suc n) a = ap (λ (s : ℕ). a + s) (sum_replicate n a) ∙ omega (arith, suc-mul n a)

-- A length falls into n parts exactly if the last of n begins within it and ends no earlier.
pub count_by :
    (len c n : ℕ) → 0 < c → 0 < len → 0 < n → (ltb ((n - 1) * c) len && not (ltb ((n - 1) * c + c) len)) ≡ eqb n (packets len c)
count_by len c n h some first = go (ltb ((n - 1) * c) len) (ltb ((n - 1) * c + c) len) refl refl
  where
    go : (s t : Bool) → ltb ((n - 1) * c) len ≡ s → ltb ((n - 1) * c + c) len ≡ t → (s && not t) ≡ eqb n (packets len c)
    go false t e f =
        sym (ne_eqb n (packets len c) λ same.
        let begins : (n - 1) * c < len = subst⁻¹ (λ (k : ℕ). (k - 1) * c < len) same (parts_below len c some) in
        absurd (omega (arith, ltb-false ((n - 1) * c) len e)))
    go true true e f =
        sym (ne_eqb n (packets len c) λ same.
        let ends : len - (n - 1) * c ≤ c = subst⁻¹ (λ (k : ℕ). len - (k - 1) * c ≤ c) same (rest_within len c h) in
        absurd (omega (arith, ltb-true ((n - 1) * c + c) len f)))
    go true false e f =
        let whole : n * c ≡ (n - 1) * c + c = parts (n - 1) (omega arith) in
        let ends : len ≤ n * c = omega (arith, ltb-false ((n - 1) * c + c) len f) in
        let least : n - 1 < packets len c = many_parts (n - 1) len c h (ltb-true ((n - 1) * c) len e) in
        let most : packets len c ≤ n = few_parts n len c h first ends in
        let same : n ≡ packets len c = omega arith in
        sym (eq-eqb n (packets len c) same)
      where
        parts : (k : ℕ) → n ≡ suc k → n * c ≡ k * c + c
        parts k e = ap (λ (x : ℕ). x * c) e ∙ suc-mul k c

module _ (len m : ℕ) where
  -- The lengths come to the length of the transfer.
  pub lengths_sum : sum (lengths len m) ≡ len
  lengths_sum =
      sum_append (replicate ((split_of len m).count - 1) (chunk_of m)) ((split_of len m).last ∷ [])
      ∙ ap (λ (s : ℕ). s + ((split_of len m).last + 0)) (sum_replicate ((split_of len m).count - 1) (chunk_of m))
      ∙ omega (arith, parts_within len (chunk_of m))

  -- There are as many as the count says.
  pub lengths_count : length (lengths len m) ≡ (split_of len m).count
  lengths_count = simp (length-append, length-replicate) (omega (arith, packets_some len (chunk_of m)))

  -- Each but the last is the chunk.
  pub lengths_full : (i : ℕ) → i + 1 < (split_of len m).count → get_or (lengths len m) i 0 ≡ chunk_of m
  lengths_full i h =
      let n : ℕ = (split_of len m).count - 1 in
      let less : i < n = omega arith in
      get_or-append (replicate n (chunk_of m)) ((split_of len m).last ∷ []) 0 i (rw length-replicate less) ∙ get_or-replicate n i (chunk_of m) 0 less

  -- The last is what the others leave.
  pub lengths_last : get_or (lengths len m) ((split_of len m).count - 1) 0 ≡ (split_of len m).last
  lengths_last =
      let n : ℕ = (split_of len m).count - 1 in
      get_or_at (replicate n (chunk_of m)) (split_of len m).last [] 0 n (length-replicate n (chunk_of m))

  -- The last is not empty, unless the transfer is.
  pub last_pos : 0 < len → 0 < (split_of len m).last
  last_pos h = omega (arith, parts_below len (chunk_of m) h)

  -- The last is no more than the chunk.
  pub last_within : m ≤ 65_536 → (split_of len m).last ≤ chunk_of m
  last_within small = rest_within len (chunk_of m) (chunk_pos m small)

  -- Each is no more than the chunk.
  pub each_within : m ≤ 65_536 → (i : ℕ) → i < (split_of len m).count → get_or (lengths len m) i 0 ≤ chunk_of m
  each_within small i h =
      let place : i ≤ (split_of len m).count - 1 = omega arith in
      ⊎_elim
      (λ e. subst⁻¹ (λ (x : ℕ). x ≤ chunk_of m) (ap (λ (j : ℕ). get_or (lengths len m) j 0) e ∙ lengths_last) (last_within small))
      (λ l. subst⁻¹ (λ (x : ℕ). x ≤ chunk_of m) (lengths_full i (omega arith)) (omega arith))
      (eq-or-lt_of_le place)

  -- Each, rounded up to whole packets, fits the field of 17 bits.
  pub each_rounded_fits : m ≤ 65_536 → (i : ℕ) → i < (split_of len m).count → initial_len (get_or (lengths len m) i 0) m true ≤ 131_071
  each_rounded_fits small i h = rounded_fits m small (get_or (lengths len m) i 0) (each_within small i h)

-- no parts before the last of an empty transfer
empty_parts : (m : ℕ) → (split_of 0 m).count - 1 ≡ 0
empty_parts m = omega (arith, empty_is_one_packet (chunk_of m))

-- An empty transfer has one descriptor, of length 0.
pub lengths_empty : (m : ℕ) → lengths 0 m ≡ 0 ∷ []
lengths_empty m =
    let rest : (split_of 0 m).last ≡ 0 = omega arith in
    ap₂ (λ (n l : ℕ). replicate n (chunk_of m) ++ (l ∷ [])) (empty_parts m) rest

-- The packets of a transfer are those of its parts, so that the toggle after it is the toggle after them.
pub packets_parts : (len m : ℕ) → packets len m ≡ ((split_of len m).count - 1) * (chunk_of m / max 1 m) + packets (split_of len m).last m
packets_parts zero m =
    let k : ℕ = chunk_of m / max 1 m in
    let rest : (split_of 0 m).last ≡ 0 = omega arith in
    sym (ap₂ (λ (n l : ℕ). n * k + packets l m) (empty_parts m) rest ∙ ap (λ (x : ℕ). x + packets 0 m) (zero-mul k) ∙ zero-add (packets 0 m))
packets_parts (suc len) m =
    let n : ℕ = (split_of (suc len) m).count - 1 in
    let k : ℕ = chunk_of m / max 1 m in
    let b : ℕ = (split_of (suc len) m).last in
    let whole : suc len ≡ n * k * max 1 m + b = omega (arith, chunks_whole n m, parts_within (suc len) (chunk_of m)) in
    ap (λ (x : ℕ). packets x m) whole ∙ packets_whole (n * k) b m (last_pos (suc len) m (omega arith))

-- An IN transfer, rounded up, is its chunks and its last length rounded up: rounding the last alone rounds the whole.
pub rounded_parts : (len m : ℕ) → initial_len len m true ≡ ((split_of len m).count - 1) * chunk_of m + initial_len (split_of len m).last m true
rounded_parts len m =
    let n : ℕ = (split_of len m).count - 1 in
    let b : ℕ = packets (split_of len m).last m in
    ap (λ (x : ℕ). x * max 1 m) (packets_parts len m) ∙ add-mul (n * (chunk_of m / max 1 m)) b (max 1 m)
    ∙ ap (λ (x : ℕ). x + b * max 1 m) (chunks_whole n m)

-- An even count leaves the toggle.
pub advanced_even : (t : Bool) (n : ℕ) → n % 2 ≡ 0 → advanced t n ≡ t
advanced_even t n e = ap (λ (x : ℕ). cond (eqb x 1) (not t) t) e

-- An odd count flips it.
pub advanced_odd : (t : Bool) (n : ℕ) → n % 2 ≡ 1 → advanced t n ≡ not t
advanced_odd t n e = ap (λ (x : ℕ). cond (eqb x 1) (not t) t) e

-- The packets of one transfer and then of another are those of both together.
pub advanced_add : (t : Bool) (a b : ℕ) → advanced (advanced t a) b ≡ advanced t (a + b)
advanced_add t a b =
    go t (a % 2) (b % 2) (mod-lt a (omega arith)) (mod-lt b (omega arith)) ∙ ap (λ (x : ℕ). cond (eqb x 1) (not t) t) (sym (add-mod a b 2))
  where
    go :
        (t : Bool) (x y : ℕ) → x < 2 → y < 2 → cond (eqb y 1) (not (cond (eqb x 1) (not t) t)) (cond (eqb x 1) (not t) t) ≡ cond (eqb ((x + y) % 2) 1) (not t) t
    go t zero zero h l = refl
    go t zero (suc zero) h l = refl
    go t (suc zero) zero h l = refl
    go false (suc zero) (suc zero) h l = refl
    go true (suc zero) (suc zero) h l = refl
    go t (suc (suc x)) y h l = absurd (omega arith)
    go t zero (suc (suc y)) h l = absurd (omega arith)
    go t (suc zero) (suc (suc y)) h l = absurd (omega arith)

-- Rounding up takes nothing away.
pub rounded_more : (len m : ℕ) (i : Bool) → len ≤ initial_len len m i
rounded_more len m false = omega arith
rounded_more len m true =
    let pos : 0 < max 1 m = omega arith in
    let count : (len + (max 1 m - 1)) / max 1 m ≤ packets len m = omega arith in
    omega (arith, lt-div-mul-add {a = len + (max 1 m - 1)} pos, mul-le-mul_right (max 1 m) count)
