-- Runs of stores, of any list: those that follow one another, what stands before, in and behind one, and a part of
-- the list that is written over.
use Rattle.std.proofs.Common.{◌≡◌, ℕ, zero, suc, ◌+◌, ◌-◌, ◌*◌, ◌≤◌, List, [], ◌∷◌, ◌++◌, length, get_or, take, drop, set, sym, refl, ap, ◌∙◌, add-zero, arith, length-append, length-drop, take-append-drop, drop_of_length-le, length-take-le, take_all, drop-cons, drop-set-lt, take-add, drop_at}
use borrow.Rule.Slice.PartMut.{put_mid}
use Rattle.std.specs.List.{copy_within}
use Rattle.std.proofs.lemmas.Slice.{put_mid-paste, between_is}
use lib.Seq.{slice, sets, paste, sets-eq, length-sets, take-set-le, drop-set-add, length-slice}
use Rattle.session.proofs.Laws.Lists.{slice_after_set, slice_split}

module _ {A : Type 0} where
  -- one run behind another is one run
  pub sets_append : (xs l : List A) (i : ℕ) (ys : List A) → sets (sets l i xs) (i + length xs) ys ≡ sets l i (xs ++ ys)
  sets_append [] l i ys = ap (λ (n : ℕ). sets l n ys) (add-zero i)
  sets_append (a ∷ xs) l i ys =
      let on : i + suc (length xs) ≡ suc i + length xs = omega arith in
      ap (λ (n : ℕ). sets (sets (set l i a) (suc i) xs) n ys) on ∙ sets_append xs (set l i a) (suc i) ys

  -- the same as a step of code: `now` holds the first run, and the second is stored where it ends
  pub then :
      (l : List A) {now next : List A} (at p : ℕ) (xs ys : List A) → now ≡ sets l at xs → p ≡ at + length xs → next ≡ sets now p ys
      → next ≡ sets l at (xs ++ ys)
  then l at p xs ys e f g =
      g ∙ ap (λ (m : List A). sets m p ys) e ∙ ap (λ (n : ℕ). sets (sets l at xs) n ys) f ∙ sets_append xs l at ys

-- ---- runs stored behind a list's front, or before its end

module _ {A : Type 0} where
  set_behind : (p q : List A) (k : ℕ) (a : A) → set (p ++ q) (length p + k) a ≡ p ++ set q k a
  set_behind [] q k a = let none : 0 + k ≡ k = omega arith in ap (λ (n : ℕ). set q n a) none
  set_behind (x ∷ p) q k a =
      let on : suc (length p) + k ≡ suc (length p + k) = omega arith in
      ap (λ (n : ℕ). set (x ∷ p ++ q) n a) on ∙ ap (λ (l : List A). x ∷ l) (set_behind p q k a)

  pub sets_behind : (p q : List A) (k n : ℕ) (vs : List A) → length p + k ≡ n → sets (p ++ q) n vs ≡ p ++ sets q k vs
  sets_behind p q k n [] e = refl
  sets_behind p q k n (v ∷ vs) e =
      let on : length p + suc k ≡ suc n = omega arith in
      ap (λ (l : List A). sets l (suc n) vs) (ap (λ (i : ℕ). set (p ++ q) i v) (sym e) ∙ set_behind p q k v) ∙ sets_behind p (set q k v) (suc k) (suc n) vs on

  -- a run in the place of one as long
  pub sets_first : (p q vs : List A) → length vs ≡ length p → sets (p ++ q) 0 vs ≡ vs ++ q
  sets_first p q vs e =
      let ends : 0 + length vs ≡ length p = omega arith in
      sets-eq vs (p ++ q) 0 (omega (arith, length-append p q))
      ∙ ap (λ (n : ℕ). vs ++ drop n (p ++ q)) ends
      ∙ ap (λ (l : List A). vs ++ l) (drop_at p q (length p) refl)

  pub sets_middle : (a b c new : List A) (n : ℕ) → length a ≡ n → length new ≡ length b → sets (a ++ (b ++ c)) n new ≡ a ++ (new ++ c)
  sets_middle a b c new n e k =
      let from : length a + 0 ≡ n = omega arith in
      sets_behind a (b ++ c) 0 n new from ∙ ap (λ (l : List A). a ++ l) (sets_first b c new k)

  -- what stands there already, stored again
  pub sets_same : (n at : ℕ) (l : List A) → at ≤ length l → sets l at (take n (drop at l)) ≡ l
  sets_same n at l h =
      let b : List A = take n (drop at l) in
      let parts : take at l ++ (b ++ drop n (drop at l)) ≡ l =
      ap (λ (m : List A). take at l ++ m) (take-append-drop n (drop at l)) ∙ take-append-drop at l in
      ap (λ (m : List A). sets m at b) (sym parts) ∙ sets_middle (take at l) b (drop n (drop at l)) b at (length-take-le at l h) refl ∙ parts

  pub take_sets : (n : ℕ) (l : List A) (i : ℕ) (vs : List A) → n ≤ i → take n (sets l i vs) ≡ take n l
  take_sets n l i [] h = refl
  take_sets n l i (v ∷ vs) h = take_sets n (set l i v) (suc i) vs (omega arith) ∙ take-set-le n l i v h

  pub drop_sets : (n : ℕ) (l : List A) (i : ℕ) (vs : List A) → i + length vs ≤ n → drop n (sets l i vs) ≡ drop n l
  drop_sets n l i [] h = refl
  drop_sets n l i (v ∷ vs) h = drop_sets n (set l i v) (suc i) vs (omega arith) ∙ drop-set-lt n l i v (omega arith)

  pub drop_sets_add : (n : ℕ) (l : List A) (i k : ℕ) (vs : List A) → n + k ≡ i → drop n (sets l i vs) ≡ sets (drop n l) k vs
  drop_sets_add n l i k [] e = refl
  drop_sets_add n l i k (v ∷ vs) e =
      let on : n + suc k ≡ suc i = omega arith in
      drop_sets_add n (set l i v) (suc i) (suc k) vs on
      ∙ ap (λ (m : List A). sets m (suc k) vs) (ap (λ (j : ℕ). drop n (set l j v)) (sym e) ∙ drop-set-add n l k v)

-- ---- a part of a list

module _ {A : Type 0} where
  -- what moves down over a front that was written, and covers it, leaves nothing of what was written
  slice_sets_after : (vs l : List A) (i f t : ℕ) → i + length vs ≤ f → f ≤ t → slice f t (sets l i vs) ≡ slice f t l
  slice_sets_after [] l i f t h k = refl
  slice_sets_after (v ∷ vs) l i f t h k =
      slice_sets_after vs (set l i v) (suc i) f t (omega arith) k ∙ slice_after_set f t i l v (omega arith) (omega arith)

  pub closed_over :
      (vs l : List A) (t : ℕ) → 2 * length vs ≤ t → t ≤ length l
      → sets (sets l 0 vs) 0 (slice (length vs) t (sets l 0 vs)) ≡ sets l 0 (slice (length vs) t l)
  closed_over vs l t h k =
      let ws : List A = slice (length vs) t l in
      let many : length ws ≡ t - length vs = length-slice (length vs) t l k in
      ap (sets (sets l 0 vs) 0) (slice_sets_after vs l 0 (length vs) t (omega arith) (omega arith))
      ∙ sets-eq ws (sets l 0 vs) 0 (omega (arith, many, length-sets l 0 vs))
      ∙ ap (λ (r : List A). ws ++ r) (drop_sets (0 + length ws) l 0 vs (omega (arith, many)))
      ∙ sym (sets-eq ws l 0 (omega (arith, many)))

  -- the part of `n` from `from` on moves down to `into`: where `k` are moved and `next` has `w` more, what is left to move gives the same list
  pub moved_on :
      (into from n k w : ℕ) (l : List A) {next : List A} → into ≤ from → k + w ≤ n → from + n ≤ length l
      → next ≡ sets l (into + k) (slice (from + k) (from + (k + w)) l)
      → sets next (into + (k + w)) (slice (from + (k + w)) (from + n) next) ≡ sets l (into + k) (slice (from + k) (from + n) l)
  moved_on into from n k w l h few fits e =
      let part : List A = slice (from + k) (from + (k + w)) l in
      let left : List A = slice (from + (k + w)) (from + n) l in
      let many : length part ≡ w = length-slice (from + k) (from + (k + w)) l (omega arith) ∙ omega arith in
      let on : into + (k + w) ≡ into + k + length part = omega (arith, many) in
      ap (λ (m : List A). sets m (into + (k + w)) (slice (from + (k + w)) (from + n) m)) e
      ∙ ap (sets (sets l (into + k) part) (into + (k + w)))
      (slice_sets_after part l (into + k) (from + (k + w)) (from + n) (omega (arith, many)) (omega arith))
      ∙ ap (λ (i : ℕ). sets (sets l (into + k) part) i left) on
      ∙ sets_append part l (into + k) left
      ∙ ap (sets l (into + k)) (sym (slice_split (from + k) (from + (k + w)) (from + n) l (omega arith) (omega arith) fits))

  pub slice_take : (f n : ℕ) (l : List A) → f ≤ length l → take n (drop f l) ≡ slice f (f + n) l
  slice_take f n l h = sym (ap (drop f) (take-add f n l) ∙ drop_at (take f l) (take n (drop f l)) f (length-take-le f l h))

-- ---- the library's words for a part that is written over, as a run of stores

module _ {A : Type 0} where
  pub pasted : (l : List A) (at : ℕ) (vs : List A) (n : ℕ) → at + n ≤ length l → n ≤ length vs → paste l at vs n ≡ sets l at (take n vs)
  pasted l at vs n h k =
      let many : length (take n vs) ≡ n = length-take-le n vs k in
      sym (sets-eq (take n vs) l at (omega arith) ∙ ap (λ (m : ℕ). take at l ++ take n vs ++ drop (at + m) l) many)

  pub part_written : (at n : ℕ) (l part vs : List A) → part ≡ vs → n ≡ length vs → at + n ≤ length l → put_mid at (at + n - at) l part ≡ sets l at vs
  part_written at n l part vs e k h =
      put_mid-paste at (at + n - at) l part vs n e (omega arith) k
      ∙ pasted l at vs n h (omega arith)
      ∙ ap (sets l at) (take_all n vs (omega arith))

  pub moved : (into from n : ℕ) (l : List A) → into ≤ from → from + n ≤ length l → copy_within l from (from + n) into ≡ sets l into (slice from (from + n) l)
  moved into from n l h k =
      pasted l into (drop from l) (from + n - from) (omega arith) (omega (arith, length-drop from l)) ∙ ap (sets l into) (between_is l from (from + n))

  -- where `k` of the `n` are moved, and what is left to move gives the goal, the library moves what is left
  pub moved_rest :
      (into from n k : ℕ) (l : List A) {goal : List A} → into ≤ from → k ≤ n → from + n ≤ length l
      → sets l (into + k) (slice (from + k) (from + n) l) ≡ goal
      → copy_within l (from + k) (from + n) (into + k) ≡ goal
  moved_rest into from n k l h few fits e =
      let ends : from + k + (n - k) ≡ from + n = omega arith in
      sym (ap (λ (t : ℕ). copy_within l (from + k) t (into + k)) ends)
      ∙ moved (into + k) (from + k) (n - k) l (omega arith) (omega arith)
      ∙ ap (λ (t : ℕ). sets l (into + k) (slice (from + k) t l)) ends
      ∙ e

-- n entries from i on, each read at its place, are the rest from there
abbrev places : List ℕ → ℕ → ℕ → List ℕ
places xs i zero = []
places xs i (suc n) = get_or xs i 0 ∷ places xs (suc i) n

pub places_drop : (xs : List ℕ) (i n : ℕ) → length xs ≡ i + n → places xs i n ≡ drop i xs
places_drop xs i zero e = sym (drop_of_length-le xs {i = i} (omega (arith, e)))
places_drop xs i (suc n) e =
    ap (λ (ys : List ℕ). get_or xs i 0 ∷ ys) (places_drop xs (suc i) n (omega (arith, e)))
    ∙ sym (drop-cons xs i 0 (omega (arith, e)))
