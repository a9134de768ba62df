-- The laws of storing a submission's packets: one packet and the rest of them. The loop's invariant says that what is still to be stored gives the
-- goal; a law for a turn of the loop keeps it, and one for each way on from the loop ends it.
use Rattle.std.proofs.Common.{◌≡◌, ℕ, zero, suc, ◌+◌, ◌-◌, ◌*◌, ◌%◌, ◌<◌, ◌≤◌, max, Bool, true, false, eqb, List, [], ◌∷◌, map, length, get_or, take, drop, set, sym, refl, ap, ◌∙◌, add-one, arith, length-drop, length-set, drop_of_length-le, take_all, drop-cons, eq-eqb, ne_eqb}
use lib.Seq.{take-nil}
use Rattle.words.specs.Words.{iso_status}
use Rattle.words.specs.declared.descriptor.DmaDescriptor.{DmaDescriptor}
use Rattle.ring.specs.RingSums.{slot_at}
use Rattle.ring.specs.Stores.{Store, stored, is_last, stores_from, as_word}
use Rattle.ring.proofs.Steps.{next_slot}

-- ---- lists and slots

-- a ring that has slots is as large as it says
pub some_slots : (R : ℕ) → 0 < R → max 1 R ≡ R
some_slots R h = omega arith

-- what is left from i on is the element there and what is left from i + 1 on
pub drop_more : (xs : List ℕ) (i : ℕ) → i < length xs → drop i xs ≡ get_or xs i 0 ∷ drop (i + 1) xs
drop_more xs i h = rw (add-one, drop-cons xs i 0)

-- the slot after packet i's is packet i + 1's
pub slot_more : (R insert step i slot r : ℕ) → slot ≡ slot_at R insert step i → r ≡ (slot + step) % R → r ≡ slot_at R insert step (i + 1)
slot_more R insert step i slot r e f = f ∙ ap (λ (x : ℕ). (x + step) % R) e ∙ next_slot R insert step i ∙ ap (slot_at R insert step) (sym (add-one i))

-- a packet is the last one just where its number and one is the count
pub last_flag : (xs : List ℕ) (a b : ℕ) → length xs ≡ b - a → a ≤ b → eqb a b ≡ is_last xs
last_flag [] a b e h = eq-eqb a b (omega arith)
last_flag (x ∷ xs) a b e h = ne_eqb a b (λ q. omega arith)

-- ---- the words of a submission

-- words stored leave the ring as long as it was
pub length_stored : (xs : List Store) (ring : List ℕ) → length (stored xs ring) ≡ length ring
length_stored [] ring = refl
length_stored (x ∷ xs) ring = length_stored xs (set ring x.word x.value) ∙ length-set ring x.word x.value

module _ (R insert step : ℕ) where
  -- a submission stores two words for each packet
  pub length-stores_from : (i addr : ℕ) (lengths : List ℕ) → length (stores_from R insert step i addr lengths) ≡ 2 * length lengths
  length-stores_from i addr [] = refl
  length-stores_from i addr (l ∷ ls) = omega (arith, length-stores_from (suc i) (addr + l) ls)

  -- the words of packet i and those of the packets after it
  pub stores_more : (i addr : ℕ) (lengths : List ℕ) → i < length lengths
      → stores_from R insert step i addr (drop i lengths)
      ≡ record { word = 2 * slot_at R insert step i + 1; value = addr }
      ∷ record { word = 2 * slot_at R insert step i; value = iso_status (get_or lengths i 0) (eqb (i + 1) (length lengths)) }
      ∷ stores_from R insert step (i + 1) (addr + get_or lengths i 0) (drop (i + 1) lengths)
  stores_more i addr lengths h =
      let flag = last_flag (drop (i + 1) lengths) (i + 1) (length lengths) (length-drop (i + 1) lengths) (omega arith) in
      rw (drop_more lengths i h, flag, add-one i)

  -- with as many words as the packets have, a submission is the whole plan
  pub whole_plan : (i addr k : ℕ) (lengths ring : List ℕ) → 2 * length lengths ≤ k
      → stored (take k (stores_from R insert step i addr lengths)) ring ≡ stored (stores_from R insert step i addr lengths) ring
  whole_plan i addr k lengths ring h =
      let all : length (stores_from R insert step i addr lengths) ≤ k = omega (arith, length-stores_from i addr lengths) in
      ap (λ (xs : List Store). stored xs ring) (take_all k (stores_from R insert step i addr lengths) all)

-- a status word fits
pub status_fits : (len : ℕ) (last : Bool) → iso_status len last % 4_294_967_296 ≡ iso_status len last
status_fits len true = omega arith
status_fits len false = omega arith

-- the words of a slot in the order of their stores
abbrev pub slot_words : ℕ → DmaDescriptor → List Store
slot_words slot d = record { word = 2 * slot + 1; value = d.paddr } ∷ record { word = 2 * slot; value = d.status } ∷ []

-- the first of them alone
pub first_word : (slot : ℕ) (d : DmaDescriptor) (words : ℕ) (ring one : List ℕ) → words ≡ 1 → one ≡ set ring (2 * slot + 1) d.paddr
    → one ≡ stored (take words (slot_words slot d)) ring
first_word slot d words ring one e p = rw (p, e)

module _ (R insert step i addr : ℕ) (lengths : List ℕ) where
  module _ (slot low : ℕ) (d : DmaDescriptor) (at : slot ≡ slot_at R insert step i) (wraps : low ≡ addr % 4_294_967_296) where
    -- packet i is not the last, and both its words may be stored: what is left of the plan after them
    pub stored_whole : i + 1 < length lengths → d ≡ record { status = iso_status (get_or lengths i 0) false; paddr = low }
        → (left rest : ℕ) (ring two : List ℕ) → left ≡ suc (suc rest) → two ≡ set (set ring (2 * slot + 1) d.paddr) (2 * slot) d.status
        → stored (take rest (map as_word (stores_from R insert step (i + 1) (addr + get_or lengths i 0) (drop (i + 1) lengths)))) two
        ≡ stored (take left (map as_word (stores_from R insert step i addr (drop i lengths)))) ring
    stored_whole h made left rest ring two e p =
        let more : i < length lengths = omega arith in
        let flag = ne_eqb (i + 1) (length lengths) (λ q. omega arith) in
        rw (p, made, wraps, at, e, stores_more R insert step i addr lengths more, flag, status_fits (get_or lengths i 0) false)

    -- packet i is the last, or fewer than its two words may be stored: the plan ends with it
    pub stored_some : i < length lengths → d ≡ record { status = iso_status (get_or lengths i 0) (eqb (i + 1) (length lengths)); paddr = low }
        → (left words : ℕ) (ring some : List ℕ) → words ≡ left → (2 ≤ left → length lengths ≤ i + 1) → some ≡ stored (take words (slot_words slot d)) ring
        → some ≡ stored (take left (map as_word (stores_from R insert step i addr (drop i lengths)))) ring
    stored_some h made zero words ring some e last p = rw (p, e)
    stored_some h made (suc zero) words ring some e last p = rw (p, e, made, wraps, at, stores_more R insert step i addr lengths h)
    stored_some h made (suc (suc left)) words ring some e last p =
        rw (
          p,
          e,
          made,
          wraps,
          at,
          stores_more R insert step i addr lengths h,
          status_fits (get_or lengths i 0) (eqb (i + 1) (length lengths)),
          drop_of_length-le lengths (last (omega arith)),
          take-nil {A = Store} left,
        )
