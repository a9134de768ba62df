-- Laws of lists that know nothing of sessions: how a slice loses its first element, ends, splits, is read and grows, how a run of stores is read, how a
-- part of a list is changed in place, and how it is written elsewhere, moved down and read after that.
use mathlib.Core.Path.{◌≡◌, refl, ◌∙◌, sym, ap, subst, subst⁻¹}
use mathlib.Core.Bool.{Bool, true, false}
use mathlib.Core.List.{List, [], ◌∷◌, ◌++◌, map}
use mathlib.Core.Logic.{◌≢◌}
use Prim.Native.Nat.{ℕ, zero, suc, ◌+◌, ◌-◌, ◌≤◌, ◌<◌}
use native.Mathlib.Nat.{add-zero, le_trans, min-le_left}
use native.Mathlib.Numerals.{add-one}
use native.Mathlib.Omega.{arith}
use lib.Dec.{ltb}
use lib.ListN.{length, get_or, set, take, drop, length-map, length-take, length-set, length-append, take-append-drop, drop_of_length-le}
use lib.Seq.{sets, slice, map-set_same, length-sets, sets-eq, take-suc-set, take-set-lt, drop-set-lt, get_or-set_same, get_or-set_other, slice-cons, length-slice, length-take-le, take-take, take_at, take-append-add, drop-append-le, drop-append-add, drop-drop, get_or-drop, get_or-take}
use borrow.Author.Tests.{ltb-true, ltb-false}

module _ {ℓ} {A : Type ℓ} where
  -- a slice is its first element and the slice from the next on
  pub slice_next : (f t : ℕ) (l : List A) (d : A) → f < t → t ≤ length l → slice f t l ≡ get_or l f d ∷ slice (f + 1) t l
  slice_next f t l d h k = rw add-one (slice-cons f t l d h k)

  -- a slice that begins where it ends, or behind it, is empty
  pub slice_past : (f t : ℕ) (l : List A) → t ≤ f → slice f t l ≡ []
  slice_past f t l h = drop_of_length-le (take t l) (subst⁻¹ (λ (n : ℕ). n ≤ f) (length-take t l) (le_trans (min-le_left t (length l)) h))

  -- a slice is its part up to an index within it, and its part from there
  pub slice_split : (f m t : ℕ) (l : List A) → f ≤ m → m ≤ t → t ≤ length l → slice f t l ≡ slice f m l ++ slice m t l
  slice_split f m t l h k n =
      let whole : take t l ≡ take m l ++ slice m t l = sym (take-append-drop m (take t l)) ∙ ap (λ (a : List A). a ++ slice m t l) (take-take m t l k) in
      let long : f ≤ length (take m l) = subst⁻¹ (λ (j : ℕ). f ≤ j) (length-take-le m l (le_trans k n)) h in
      ap (drop f) whole ∙ drop-append-le f (take m l) (slice m t l) long

  -- an element of a slice
  pub get_or-slice : (f t i : ℕ) (l : List A) (d : A) → f + i < t → get_or (slice f t l) i d ≡ get_or l (f + i) d
  get_or-slice f t i l d h = get_or-drop f (take t l) i d ∙ get_or-take t l (f + i) d h

  -- an element of the front of a list
  pub get_d_front : (t i : ℕ) (l : List A) (d : A) → i < t → get_or (slice 0 t l) i d ≡ get_or l i d
  get_d_front t i l d h = get_or-take t l i d h

  -- what holds of each element of a front holds of each of the list below its end, and back
  pub front_each :
      (P : A → Type 0) (t : ℕ) (l : List A) (d : A) → t ≤ length l → ((i : ℕ) → i < length (slice 0 t l) → P (get_or (slice 0 t l) i d))
      → (i : ℕ) → i < t → P (get_or l i d)
  front_each P t l d k g i h = subst P (get_d_front t i l d h) (g i (subst⁻¹ (λ (n : ℕ). i < n) (length-take-le t l k) h))

  pub front_kept :
      (P : A → Type 0) (t : ℕ) (l : List A) (d : A) → t ≤ length l → ((i : ℕ) → i < t → P (get_or l i d))
      → (i : ℕ) → i < length (slice 0 t l) → P (get_or (slice 0 t l) i d)
  front_kept P t l d k g i h =
      let in_use : i < t = subst (λ (n : ℕ). i < n) (length-take-le t l k) h in
      subst⁻¹ P (get_d_front t i l d in_use) (g i in_use)

  -- a slice up to an entry that was just put behind the others
  pub slice_pushed :
      (f count : ℕ) (l : List A) (a : A) → f ≤ count → count < length l → slice f (count + 1) (set l count a) ≡ slice f count l ++ (a ∷ [])
  slice_pushed f count l a h k =
      let long : f ≤ length (take count l) = omega (arith, length-take-le count l (omega arith)) in
      ap (λ (n : ℕ). slice f n (set l count a)) (add-one count) ∙ ap (drop f) (take-suc-set l count a k) ∙ drop-append-le f (take count l) (a ∷ []) long

  -- an entry before a run of stores, and one within it
  pub get_d_sets_before : (vs l : List A) (i k : ℕ) (d : A) → k < i → get_or (sets l i vs) k d ≡ get_or l k d
  get_d_sets_before [] l i k d h = refl
  get_d_sets_before (a ∷ vs) l i k d h = get_d_sets_before vs (set l i a) (suc i) k d (omega arith) ∙ get_or-set_other l i k a d (omega arith)

  pub get_or-sets_in : (vs l : List A) (i k : ℕ) (d : A) → k < length vs → i + length vs ≤ length l → get_or (sets l i vs) (i + k) d ≡ get_or vs k d
  get_or-sets_in [] l i k d h fits = absurd (omega arith)
  get_or-sets_in (a ∷ vs) l i zero d h fits =
      ap (λ (n : ℕ). get_or (sets (set l i a) (suc i) vs) n d) (add-zero i)
      ∙ get_d_sets_before vs (set l i a) (suc i) i d (omega arith)
      ∙ get_or-set_same l i a d (omega arith)
  get_or-sets_in (a ∷ vs) l i (suc k) d h fits =
      let on : i + suc k ≡ suc i + k = omega arith in
      ap (λ (n : ℕ). get_or (sets (set l i a) (suc i) vs) n d) on
      ∙ get_or-sets_in vs (set l i a) (suc i) k d (omega arith) (omega (arith, length-set l i a))

  pub get_or-sets_after : (vs l : List A) (i k : ℕ) (d : A) → i + length vs ≤ k → get_or (sets l i vs) k d ≡ get_or l k d
  get_or-sets_after [] l i k d h = refl
  get_or-sets_after (a ∷ vs) l i k d h = get_or-sets_after vs (set l i a) (suc i) k d (omega arith) ∙ get_or-set_other l i k a d (omega arith)

  -- a run of stores is the part that it stored
  pub slice_sets : (vs l : List A) (i : ℕ) → i + length vs ≤ length l → slice i (i + length vs) (sets l i vs) ≡ vs
  slice_sets [] l i h = slice_past i (i + 0) l (omega arith)
  slice_sets (a ∷ vs) l i h =
      let long : i + suc (length vs) ≤ length (sets (set l i a) (suc i) vs) = omega (arith, length-sets (set l i a) (suc i) vs, length-set l i a) in
      let first : get_or (sets (set l i a) (suc i) vs) i a ≡ a =
      get_d_sets_before vs (set l i a) (suc i) i a (omega arith) ∙ get_or-set_same l i a a (omega arith) in
      let to : i + suc (length vs) ≡ suc i + length vs = omega arith in
      slice-cons i (i + suc (length vs)) (sets (set l i a) (suc i) vs) a (omega arith) long
      ∙ ap (λ (x : A). x ∷ slice (suc i) (i + suc (length vs)) (sets (set l i a) (suc i) vs)) first
      ∙ ap (λ (n : ℕ). a ∷ slice (suc i) n (sets (set l i a) (suc i) vs)) to
      ∙ ap (λ (xs : List A). a ∷ xs) (slice_sets vs (set l i a) (suc i) (omega (arith, length-set l i a)))

  -- an element of a list whose elements were changed
  pub get_or-map_in : (f : A → A) (l : List A) (k : ℕ) (d e : A) → k < length l → get_or (map f l) k e ≡ f (get_or l k d)
  get_or-map_in f [] k d e h = absurd (omega arith)
  get_or-map_in f (x ∷ l) zero d e h = refl
  get_or-map_in f (x ∷ l) (suc k) d e h = get_or-map_in f l k d e (omega arith)

  -- a store before a slice leaves it
  pub slice_after_set : (f t i : ℕ) (l : List A) (a : A) → i < f → i < t → slice f t (set l i a) ≡ slice f t l
  slice_after_set f t i l a h k = ap (drop f) (take-set-lt t l i a k) ∙ drop-set-lt f (take t l) i a h

  -- one turn of a walk that writes what a part of one list becomes into another, and its end
  module _ {B : Type ℓ} (g : List A → List B) where
    pub write_next :
        (at i t : ℕ) (l : List A) (d : A) (xs : List B) (v : B) → i < t → t ≤ length l → ((rest : List A) → g (get_or l i d ∷ rest) ≡ v ∷ g rest)
        → sets (set xs at v) (at + 1) (g (slice (i + 1) t l)) ≡ sets xs at (g (slice i t l))
    write_next at i t l d xs v h k turn =
        ap (λ (m : ℕ). sets (set xs at v) m (g (slice (i + 1) t l))) (add-one at)
        ∙ ap (sets xs at) (sym (ap g (slice_next i t l d h k) ∙ turn (slice (i + 1) t l)))

    pub write_past : (at i t : ℕ) (l : List A) (xs : List B) → g [] ≡ [] → t ≤ i → sets xs at (g (slice i t l)) ≡ xs
    write_past at i t l xs none h = ap (sets xs at) (ap g (slice_past i t l h) ∙ none)

  -- the same in one list, where the walk writes no further on than it reads: what is left to write, into the list now, is what was left before
  pub amend_next :
      (g : List A → List A) (into i t : ℕ) (l : List A) (d v : A) → into ≤ i → i < t → t ≤ length l
      → ((rest : List A) → g (get_or l i d ∷ rest) ≡ v ∷ g rest)
      → sets (set l into v) (into + 1) (g (slice (i + 1) t (set l into v))) ≡ sets l into (g (slice i t l))
  amend_next g into i t l d v h k fits turn =
      ap (λ (vs : List A). sets (set l into v) (into + 1) (g vs)) (slice_after_set (i + 1) t into l v (omega arith) (omega arith))
      ∙ write_next g into i t l d l v k fits turn

  -- a part of a list between what stands before it and behind it, and another of its length in its place
  pub before_part : (f t : ℕ) (l : List A) → f ≤ t → t ≤ length l → length (take f (take t l)) ≡ f
  before_part f t l h k = length-take-le f (take t l) (omega (arith, length-take-le t l k))

  pub part_fits : (f t : ℕ) (l vs : List A) → f ≤ t → t ≤ length l → length vs ≡ length (slice f t l) → length (take f (take t l) ++ vs) ≡ length (take t l)
  part_fits f t l vs h k e =
      length-append (take f (take t l)) vs ∙ omega (arith, before_part f t l h k, e, length-slice f t l k, length-take-le t l k)

  pub part_stored :
      (f t : ℕ) (l vs : List A) → f ≤ t → t ≤ length l → length vs ≡ length (slice f t l) → take f (take t l) ++ vs ++ drop t l ≡ sets l f vs
  part_stored f t l vs h k e =
      let end : t ≡ f + length vs = omega (arith, e, length-slice f t l k) in
      ap (λ (a : List A). a ++ vs ++ drop t l) (take-take f t l h) ∙ ap (λ (m : ℕ). take f l ++ vs ++ drop m l) end ∙ sym (sets-eq vs l f (omega arith))

  -- a run of stores and what stands before it
  pub front_sets : (vs l : List A) (i : ℕ) → i + length vs ≤ length l → slice 0 (i + length vs) (sets l i vs) ≡ slice 0 i l ++ vs
  front_sets vs l i h =
      let long : length (take i l ++ vs) ≡ i + length vs =
      length-append (take i l) vs ∙ ap (λ (n : ℕ). n + length vs) (length-take-le i l (omega arith)) in
      ap (take (i + length vs)) (sets-eq vs l i h) ∙ take_at (take i l ++ vs) (drop (i + length vs) l) (i + length vs) long

  -- the part from `f` to `t` moved down to `at`: in front of its new end stand those before `at` and then the part
  pub closed_front :
      (at f t : ℕ) (l : List A) → at ≤ f → f ≤ t → t ≤ length l → slice 0 (at + (t - f)) (sets l at (slice f t l)) ≡ slice 0 at l ++ slice f t l
  closed_front at f t l h k n =
      let many : length (slice f t l) ≡ t - f = length-slice f t l n in
      ap (λ (j : ℕ). slice 0 (at + j) (sets l at (slice f t l))) (sym many) ∙ front_sets (slice f t l) l at (omega (arith, many))

  -- its end, from `m` on, is found where it moved to
  pub closed_end :
      (at f m t : ℕ) (l : List A) → at ≤ f → f ≤ m → m ≤ t → t ≤ length l
      → slice (at + (m - f)) (at + (t - f)) (sets l at (slice f t l)) ≡ slice m t l
  closed_end at f m t l h k u n =
      let long : length (take at l) ≡ at = length-take-le at l (omega arith) in
      let on : f + (m - f) ≡ m = omega arith in
      ap (drop (at + (m - f))) (closed_front at f t l h (omega arith) n)
      ∙ ap (λ (j : ℕ). drop (j + (m - f)) (take at l ++ slice f t l)) (sym long)
      ∙ drop-append-add (take at l) (slice f t l) (m - f)
      ∙ drop-drop (m - f) f (take t l)
      ∙ ap (λ (j : ℕ). slice j t l) on

  -- in front of what an entry `m` of the part moved to stand those before `at` and the part up to `m`
  pub closed_part :
      (at f m t : ℕ) (l : List A) → at ≤ f → f ≤ m → m ≤ t → t ≤ length l
      → slice 0 (at + (m - f)) (sets l at (slice f t l)) ≡ slice 0 at l ++ slice f m l
  closed_part at f m t l h k u n =
      let long : length (take at l) ≡ at = length-take-le at l (omega arith) in
      let many : length (slice f m l) ≡ m - f = length-slice f m l (omega arith) in
      sym (take-take (at + (m - f)) (at + (t - f)) (sets l at (slice f t l)) (omega arith))
      ∙ ap (take (at + (m - f))) (closed_front at f t l h (omega arith) n)
      ∙ ap (λ (j : ℕ). take (j + (m - f)) (take at l ++ slice f t l)) (sym long)
      ∙ take-append-add (take at l) (slice f t l) (m - f)
      ∙ ap (λ (xs : List A). take at l ++ take (m - f) xs) (slice_split f m t l k u n)
      ∙ ap (λ (xs : List A). take at l ++ xs) (take_at (slice f m l) (slice m t l) (m - f) many)

  -- what holds of each entry before `at` and of each of the part holds of each below the new end
  pub closed_parts :
      (P : A → Type 0) (at f t : ℕ) (l : List A) (d : A) → at ≤ f → f ≤ t → t ≤ length l
      → ((i : ℕ) → i < at → P (get_or l i d)) → ((i : ℕ) → f ≤ i → i < t → P (get_or l i d))
      → (i : ℕ) → i < at + (t - f) → P (get_or (sets l at (slice f t l)) i d)
  closed_parts P at f t l d h k n before part i u = go (ltb i at) refl
    where
      go : (b : Bool) → ltb i at ≡ b → P (get_or (sets l at (slice f t l)) i d)
      go true e =
          let less : i < at = ltb-true i at e in
          subst⁻¹ P (get_d_sets_before (slice f t l) l at i d less) (before i less)
      go false e =
          let past : at ≤ i = ltb-false i at e in
          let many : length (slice f t l) ≡ t - f = length-slice f t l n in
          let back : at + (i - at) ≡ i = omega arith in
          let moved : get_or (sets l at (slice f t l)) i d ≡ get_or l (f + (i - at)) d =
          ap (λ (j : ℕ). get_or (sets l at (slice f t l)) j d) (sym back)
          ∙ get_or-sets_in (slice f t l) l at (i - at) d (omega (arith, many)) (omega (arith, many))
          ∙ get_or-slice f t (i - at) l d (omega arith) in
          subst⁻¹ P moved (part (f + (i - at)) (omega arith) (omega arith))

  -- and so what holds of each below `t`
  pub closed_each :
      (P : A → Type 0) (at f t : ℕ) (l : List A) (d : A) → at ≤ f → f ≤ t → t ≤ length l → ((i : ℕ) → i < t → P (get_or l i d))
      → (i : ℕ) → i < at + (t - f) → P (get_or (sets l at (slice f t l)) i d)
  closed_each P at f t l d h k n g = closed_parts P at f t l d h k n (λ i u. g i (omega arith)) (λ i u v. g i v)

-- ---- lists of which a part is changed in place

module _ {A B : Type 0} (p : A → B) where
  map_take : (n : ℕ) (l : List A) → map p (take n l) ≡ take n (map p l)
  map_take zero l = refl
  map_take (suc n) [] = refl
  map_take (suc n) (a ∷ l) = ap (λ (r : List B). p a ∷ r) (map_take n l)

  pub map_drop : (n : ℕ) (l : List A) → map p (drop n l) ≡ drop n (map p l)
  map_drop zero l = refl
  map_drop (suc n) [] = refl
  map_drop (suc n) (a ∷ l) = map_drop n l

  pub map_slice : (f t : ℕ) (l : List A) → map p (slice f t l) ≡ slice f t (map p l)
  map_slice f t l = map_drop f (take t l) ∙ ap (drop f) (map_take t l)

  -- what a change of an element leaves, a change of a part of a list leaves
  pub map_amend :
      (f : A → A) (d : A) → ((a : A) → p (f a) ≡ p a) → (n i t : ℕ) (l : List A) → i + n ≡ t → t ≤ length l
      → map p (sets l i (map f (slice i t l))) ≡ map p l
  map_amend f d keeps zero i t l e k = ap (map p) (write_past (map f) i i t l l refl (omega arith))
  map_amend f d keeps (suc n) i t l e k =
      let v : A = f (get_or l i d) in
      ap (map p) (sym (amend_next (map f) i i t l d v (omega arith) (omega arith) k (λ rest. refl)))
      ∙ map_amend f d keeps n (i + 1) t (set l i v) (omega arith) (omega (arith, length-set l i v))
      ∙ map-set_same p l i v d (keeps (get_or l i d))

module _ {A : Type 0} where
  -- an entry of the part that was changed
  pub get_or-amended :
      (f : A → A) (i t k : ℕ) (l : List A) (d : A) → i ≤ k → k < t → t ≤ length l
      → get_or (sets l i (map f (slice i t l))) k d ≡ f (get_or l k d)
  get_or-amended f i t k l d h u fits =
      let j = k - i in
      let at : i + j ≡ k = omega arith in
      let many : length (map f (slice i t l)) ≡ t - i = length-map (slice i t l) f ∙ length-slice i t l fits in
      ap (λ (n : ℕ). get_or (sets l i (map f (slice i t l))) n d) (sym at)
      ∙ get_or-sets_in (map f (slice i t l)) l i j d (omega (arith, many)) (omega (arith, many))
      ∙ get_or-map_in f (slice i t l) j d d (omega (arith, length-slice i t l fits))
      ∙ ap f (get_or-slice i t j l d (omega arith) ∙ ap (λ (n : ℕ). get_or l n d) at)

-- a store that puts something other than 0, or goes elsewhere, makes no entry 0
pub set_some : (l : List ℕ) (i a k : ℕ) → (k ≡ i → a ≢ 0) → get_or l k 0 ≢ 0 → get_or (set l i a) k 0 ≢ 0
set_some [] i a k h some = some
set_some (x ∷ l) zero a zero h some = h refl
set_some (x ∷ l) zero a (suc k) h some = some
set_some (x ∷ l) (suc i) a zero h some = some
set_some (x ∷ l) (suc i) a (suc k) h some = set_some l i a k (λ e. h (ap suc e)) some
