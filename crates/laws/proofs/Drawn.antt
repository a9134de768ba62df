-- Laws of drawings: what a word of the ring is after one, and how a store and a clearing go with one.
use mathlib.Core.Path.{◌≡◌, refl, ◌∙◌, sym, ap, subst, subst⁻¹}
use mathlib.Core.List.{List, [], ◌∷◌, ◌++◌, map}
use Prim.Native.Nat.{ℕ, zero, suc, ◌+◌, ◌*◌, ◌≤◌, ◌<◌}
use Rattle.std.proofs.lemmas.List.{take-map}
use native.Mathlib.Omega.{arith}
use lib.ListN.{length, get_or, set, take, drop, length-set}
use lib.Seq.{set_comm, get_or-set_same, get_or-set_other, drop-set-lt}
use Rattle.ring.specs.Stores.{Store, stored, stores_from}
use Rattle.laws.specs.Drawing.{Laid, blank_laid, drawn, words_of, slot_of, word_at, Holds, planned_from, Among, Absent, Distinct}
use Rattle.laws.proofs.Lists.{absent_head, absent_tail, absent_cons, absent_none, absent_take, distinct_head, distinct_tail}

-- the ring with one packet laid
abbrev pub one : Laid → List ℕ → List ℕ
one x ring = set (set ring (2 * x.slot + 1) x.address) (2 * x.slot) x.status

pub length_one : (x : Laid) (ring : List ℕ) → length (one x ring) ≡ length ring
length_one x ring =
    length-set (set ring (2 * x.slot + 1) x.address) (2 * x.slot) x.status ∙ length-set ring (2 * x.slot + 1) x.address

pub length_drawn : (xs : List Laid) (ring : List ℕ) → length (drawn xs ring) ≡ length ring
length_drawn [] ring = refl
length_drawn (x ∷ xs) ring = length_drawn xs (one x ring) ∙ length_one x ring

-- one drawing after another is the drawing of both
pub drawn_append : (a b : List Laid) (ring : List ℕ) → drawn (a ++ b) ring ≡ drawn b (drawn a ring)
drawn_append [] b ring = refl
drawn_append (x ∷ a) b ring = drawn_append a b (one x ring)

-- a drawing is its words stored
pub stored_drawn : (xs : List Laid) (ring : List ℕ) → stored (words_of xs) ring ≡ drawn xs ring
stored_drawn [] ring = refl
stored_drawn (x ∷ xs) ring = stored_drawn xs (one x ring)

-- the planned stores of a submission are the words of what it plans to lay
pub stores_are : (R insert step i addr : ℕ) (lengths : List ℕ) → stores_from R insert step i addr lengths ≡ words_of (planned_from R insert step i addr lengths)
stores_are R insert step i addr [] = refl
stores_are R insert step i addr (l ∷ ls) = rw (stores_are R insert step (suc i) (addr + l) ls)

-- ---- other words

-- a word that is none of those stored is as it was
pub stored_other : (u : ℕ) (ws : List Store) (ring : List ℕ) → Absent u (map word_at ws) → get_or (stored ws ring) u 0 ≡ get_or ring u 0
stored_other u [] ring h = refl
stored_other u (x ∷ ws) ring h =
    stored_other u ws (set ring x.word x.value) (absent_tail u x.word (map word_at ws) h)
    ∙ get_or-set_other ring x.word u x.value 0 (λ e. absent_head u x.word (map word_at ws) h (sym e))

-- a store at such a word may come before or after
pub stored_set : (u v : ℕ) (ws : List Store) (ring : List ℕ) → Absent u (map word_at ws) → set (stored ws ring) u v ≡ stored ws (set ring u v)
stored_set u v [] ring h = refl
stored_set u v (x ∷ ws) ring h =
    stored_set u v ws (set ring x.word x.value) (absent_tail u x.word (map word_at ws) h)
    ∙ ap (stored ws) (set_comm ring x.word u x.value v (absent_head u x.word (map word_at ws) h))

-- the words of a slot that is none of those drawn
pub absent_words : (slot u : ℕ) (xs : List Laid) → 2 * slot ≤ u → u ≤ 2 * slot + 1 → Absent slot (map slot_of xs) → Absent u (map word_at (words_of xs))
absent_words slot u [] l m h = absent_none u
absent_words slot u (x ∷ xs) l m h =
    let off = absent_head slot x.slot (map slot_of xs) h in
    absent_cons u (2 * x.slot + 1) (2 * x.slot ∷ map word_at (words_of xs)) (λ e. off (omega arith))
    (absent_cons u (2 * x.slot) (map word_at (words_of xs)) (λ e. off (omega arith))
    (absent_words slot u xs l m (absent_tail slot x.slot (map slot_of xs) h)))

module _ (slot u : ℕ) (xs : List Laid) (ring : List ℕ) (l : 2 * slot ≤ u) (m : u ≤ 2 * slot + 1) (h : Absent slot (map slot_of xs)) where
  pub drawn_other : get_or (drawn xs ring) u 0 ≡ get_or ring u 0
  drawn_other = ap (λ (r : List ℕ). get_or r u 0) (sym (stored_drawn xs ring)) ∙ stored_other u (words_of xs) ring (absent_words slot u xs l m h)

  pub drawn_set : (v : ℕ) → set (drawn xs ring) u v ≡ drawn xs (set ring u v)
  drawn_set v =
      ap (λ (r : List ℕ). set r u v) (sym (stored_drawn xs ring)) ∙ stored_set u v (words_of xs) ring (absent_words slot u xs l m h)
      ∙ stored_drawn xs (set ring u v)

-- ---- the words of what is laid

-- a packet just laid
one_holds : (x : Laid) (ring : List ℕ) → 2 * x.slot + 1 < length ring → Holds (one x ring) x
one_holds x ring h =
    let first = set ring (2 * x.slot + 1) x.address in (
      get_or-set_same first (2 * x.slot) x.status 0 (omega (arith, length-set ring (2 * x.slot + 1) x.address)),
      get_or-set_other first (2 * x.slot) (2 * x.slot + 1) x.status 0 (λ e. omega arith) ∙ get_or-set_same ring (2 * x.slot + 1) x.address 0 h,
    )

-- stays where none of the words stored after it is its own
pub stored_holds :
    (x : Laid) (ws : List Store) (ring : List ℕ) → Absent (2 * x.slot) (map word_at ws) → Absent (2 * x.slot + 1) (map word_at ws) → Holds ring x
    → Holds (stored ws ring) x
stored_holds x ws ring a b h = (stored_other (2 * x.slot) ws ring a ∙ h.0, stored_other (2 * x.slot + 1) ws ring b ∙ h.1)

-- the first k words: none is a word of a slot that is not drawn
pub absent_first :
    (k slot u : ℕ) (xs : List Laid) → 2 * slot ≤ u → u ≤ 2 * slot + 1 → Absent slot (map slot_of xs) → Absent u (map word_at (take k (words_of xs)))
absent_first k slot u xs l m h = subst (Absent u) (take-map word_at k (words_of xs)) (absent_take u k (map word_at (words_of xs)) (absent_words slot u xs l m h))

-- every slot drawn is one of the ring's
abbrev pub Within : ℕ → List Laid → Type 0
Within words xs = (i : ℕ) → i < length xs → 2 * (get_or xs i blank_laid).slot + 1 < words

pub within_tail : (words : ℕ) (x : Laid) (xs : List Laid) → Within words (x ∷ xs) → Within words xs
within_tail words x xs h i k = h (suc i) (omega arith)

-- where both words of packet i are among the first k, the ring holds them
pub first_hold :
    (xs : List Laid) (k : ℕ) (ring : List ℕ) → Distinct (map slot_of xs) → Within (length ring) xs → (i : ℕ) → i < length xs → 2 * i + 2 ≤ k
    → Holds (stored (take k (words_of xs)) ring) (get_or xs i blank_laid)
first_hold [] k ring d w i h l = absurd (omega arith)
first_hold (x ∷ xs) zero ring d w i h l = absurd (omega arith)
first_hold (x ∷ xs) (suc zero) ring d w i h l = absurd (omega arith)
first_hold (x ∷ xs) (suc (suc k)) ring d w zero h l =
    let off = distinct_head x.slot (map slot_of xs) d in
    stored_holds x (take k (words_of xs)) (one x ring)
    (absent_first k x.slot (2 * x.slot) xs (omega arith) (omega arith) off)
    (absent_first k x.slot (2 * x.slot + 1) xs (omega arith) (omega arith) off)
    (one_holds x ring (w 0 (omega arith)))
first_hold (x ∷ xs) (suc (suc k)) ring d w (suc i) h l =
    first_hold xs k (one x ring) (distinct_tail x.slot (map slot_of xs) d)
    (subst⁻¹ (λ (n : ℕ). Within n xs) (length_one x ring) (within_tail (length ring) x xs w)) i (omega arith) (omega arith)

-- all of them
pub drawn_hold :
    (xs : List Laid) (ring : List ℕ) → Distinct (map slot_of xs) → Within (length ring) xs → (i : ℕ) → i < length xs
    → Holds (drawn xs ring) (get_or xs i blank_laid)
drawn_hold [] ring d w i h = absurd (omega arith)
drawn_hold (x ∷ xs) ring d w zero h =
    let off = distinct_head x.slot (map slot_of xs) d in
    let new = one_holds x ring (w 0 (omega arith)) in (
      drawn_other x.slot (2 * x.slot) xs (one x ring) (omega arith) (omega arith) off ∙ new.0,
      drawn_other x.slot (2 * x.slot + 1) xs (one x ring) (omega arith) (omega arith) off ∙ new.1,
    )
drawn_hold (x ∷ xs) ring d w (suc i) h =
    drawn_hold xs (one x ring) (distinct_tail x.slot (map slot_of xs) d)
    (subst⁻¹ (λ (n : ℕ). Within n xs) (length_one x ring) (within_tail (length ring) x xs w)) i (omega arith)

-- a word among the first k that is a slot's status is packet i's, with both its words among them
pub status_among :
    (xs : List Laid) (k slot : ℕ) → Among (2 * slot) (map word_at (take k (words_of xs)))
    → (i : ℕ) × (2 * i + 2 ≤ k) × (i < length xs) × ((get_or xs i blank_laid).slot ≡ slot)
status_among [] zero slot h = let l : h.0 < 0 = h.1 in absurd (omega arith)
status_among [] (suc k) slot h = let l : h.0 < 0 = h.1 in absurd (omega arith)
status_among (x ∷ xs) zero slot h = let l : h.0 < 0 = h.1 in absurd (omega arith)
status_among (x ∷ xs) (suc zero) slot h = lone h.0 h.1 h.2
  where
    lone : (j : ℕ) → j < 1 → get_or ((2 * x.slot + 1) ∷ []) j 0 ≡ 2 * slot
        → (i : ℕ) × (2 * i + 2 ≤ 1) × (i < suc (length xs)) × ((get_or (x ∷ xs) i blank_laid).slot ≡ slot)
    lone zero l e = absurd (omega arith)
    lone (suc j) l e = absurd (omega arith)
status_among (x ∷ xs) (suc (suc k)) slot h = go h.0 h.1 h.2 (status_among xs k slot)
  where
    words : List ℕ
    words = map word_at (take k (words_of xs))

    go : (j : ℕ) → j < suc (suc (length words)) → get_or ((2 * x.slot + 1) ∷ 2 * x.slot ∷ words) j 0 ≡ 2 * slot
        → (Among (2 * slot) words → (i : ℕ) × (2 * i + 2 ≤ k) × (i < length xs) × ((get_or xs i blank_laid).slot ≡ slot))
        → (i : ℕ) × (2 * i + 2 ≤ suc (suc k)) × (i < suc (length xs)) × ((get_or (x ∷ xs) i blank_laid).slot ≡ slot)
    go zero l e more = absurd (omega arith)
    go (suc zero) l e more = (0, omega arith, omega arith, omega arith)
    go (suc (suc j)) l e more =
        let r = more (j, omega arith, e) in
        let a : 2 * r.0 + 2 ≤ k = r.1 in
        let b : r.0 < length xs = r.2 in
        (suc r.0, omega arith, omega arith, r.3)

-- words behind the ring are as they were
pub first_behind :
    (xs : List Laid) (k words : ℕ) (ring : List ℕ) → Within words xs → drop words (stored (take k (words_of xs)) ring) ≡ drop words ring
first_behind [] zero words ring w = refl
first_behind [] (suc k) words ring w = refl
first_behind (x ∷ xs) zero words ring w = refl
first_behind (x ∷ xs) (suc zero) words ring w = drop-set-lt words ring (2 * x.slot + 1) x.address (w 0 (omega arith))
first_behind (x ∷ xs) (suc (suc k)) words ring w =
    let in_ring : 2 * x.slot + 1 < words = w 0 (omega arith) in
    let first = set ring (2 * x.slot + 1) x.address in
    first_behind xs k words (one x ring) (within_tail words x xs w)
    ∙ drop-set-lt words first (2 * x.slot) x.status (omega arith)
    ∙ drop-set-lt words ring (2 * x.slot + 1) x.address in_ring
