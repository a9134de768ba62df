-- Tables of entries: one turn and the end of a walk that reads, tests or writes them.
use Rattle.std.specs.List.{list_any, range_with_len}
use Rattle.std.proofs.Common.{◌≡◌, ℕ, zero, suc, ◌+◌, ◌-◌, ◌*◌, ◌<◌, ◌≤◌, Bool, true, false, ◌||◌, List, [], ◌∷◌, ◌++◌, length, get_or, take, drop, set, sym, refl, ap, ◌∙◌, subst, ap₂, append_assoc, add-one, arith, length-append, drop_of_length-le, drop-cons, drop-drop, drop_at}
use mathlib.Core.Bool.{or_assoc}
use lib.Seq.{slice, sets, drop-nil, drop-append-add}
use Rattle.words.proofs.Laws.Tests.{neither}
use Rattle.port.specs.Layout.{table_bytes, table_of, any_of}
use Rattle.port.proofs.Laws.Runs.{sets_append}

-- ---- reading

module _ {A : Type 0} (f : List ℕ → A) (w : ℕ) where
  pub length_table : (n : ℕ) (xs : List ℕ) → length (table_of f w n xs) ≡ n
  unfolding table_of
  length_table zero xs = refl
  length_table (suc n) xs = ap suc (length_table n (drop w xs))

  -- fewer entries are those that more begin with
  pub table_take : (m n : ℕ) (xs : List ℕ) → m ≤ n → table_of f w m xs ≡ take m (table_of f w n xs)
  unfolding table_of
  table_take zero n xs h = refl
  table_take (suc m) zero xs h = absurd (omega arith)
  table_take (suc m) (suc n) xs h = ap (λ (l : List A). f xs ∷ l) (table_take m n (drop w xs) (omega arith))

-- ---- testing

module _ (bad : List ℕ → Bool) (w : ℕ) where
  any_next : (n at : ℕ) (xs : List ℕ) → any_of bad w (suc n) (drop at xs) ≡ (bad (drop at xs) || any_of bad w n (drop (at + w) xs))
  unfolding any_of
  any_next n at xs = ap (λ (ys : List ℕ). bad (drop at xs) || any_of bad w n ys) (drop-drop w at xs)

  pub any_by :
      (n i at : ℕ) (xs : List ℕ) (b : Bool) → i < n → b ≡ bad (drop at xs)
      → (b || any_of bad w (n - (i + 1)) (drop (at + w) xs)) ≡ any_of bad w (n - i) (drop at xs)
  any_by n i at xs b h e =
      let left : suc (n - (i + 1)) ≡ n - i = omega arith in
      ap (λ (x : Bool). x || any_of bad w (n - (i + 1)) (drop (at + w) xs)) e
      ∙ sym (any_next (n - (i + 1)) at xs)
      ∙ ap (λ (k : ℕ). any_of bad w k (drop at xs)) left

  -- before the walk all are still to be looked at
  pub any_first : (n : ℕ) (xs : List ℕ) → any_of bad w (n - 0) xs ≡ any_of bad w n xs
  any_first n xs = let all : n - 0 ≡ n = omega arith in ap (λ (k : ℕ). any_of bad w k xs) all

  pub any_more :
      (n i at : ℕ) (xs : List ℕ) {b : Bool} → i < n → b ≡ bad (drop at xs) → b ≡ false
      → any_of bad w (n - (i + 1)) (drop (at + w) xs) ≡ any_of bad w (n - i) (drop at xs)
  any_more n i at xs h e clear = any_by n i at xs false h (sym clear ∙ e)

  -- the same where the place is counted from the first
  pub any_on :
      (n i from : ℕ) (xs : List ℕ) {b : Bool} → i < n → b ≡ bad (drop (from + w * i) xs) → b ≡ false
      → any_of bad w (n - (i + 1)) (drop (from + w * (i + 1)) xs) ≡ any_of bad w (n - i) (drop (from + w * i) xs)
  any_on n i from xs h e clear =
      let on : from + w * (i + 1) ≡ from + w * i + w = omega arith in
      ap (λ (k : ℕ). any_of bad w (n - (i + 1)) (drop k xs)) on ∙ any_more n i (from + w * i) xs h e clear

  -- the same where the places are counted
  pub any_step :
      (n i at : ℕ) (xs : List ℕ) → i < n → bad (drop (at + w * i) xs) ≡ false
      → any_of bad w (n - (i + 1)) (drop (at + w * (i + 1)) xs) ≡ any_of bad w (n - i) (drop (at + w * i) xs)
  any_step n i at xs h clear =
      let on : at + w * (i + 1) ≡ at + w * i + w = omega arith in
      ap (λ (k : ℕ). any_of bad w (n - (i + 1)) (drop k xs)) on ∙ any_more n i (at + w * i) xs h (sym clear) refl

  pub any_found :
      (n i at : ℕ) (xs : List ℕ) {b : Bool} → i < n → b ≡ bad (drop at xs) → b ≡ true → true ≡ any_of bad w (n - i) (drop at xs)
  any_found n i at xs h e found = any_by n i at xs true h (sym found ∙ e)

  pub any_end : (n i : ℕ) (xs : List ℕ) → n ≤ i → false ≡ any_of bad w (n - i) xs
  unfolding any_of
  any_end n i xs h = let none : n - i ≡ 0 = omega arith in sym (ap (λ (k : ℕ). any_of bad w k xs) none)

  -- those of a first part, and those behind it
  pub any_split : (m n at : ℕ) (xs : List ℕ) → any_of bad w (m + n) (drop at xs) ≡ (any_of bad w m (drop at xs) || any_of bad w n (drop (at + w * m) xs))
  unfolding any_of
  any_split zero n at xs =
      let all : 0 + n ≡ n = omega arith in
      let here : at ≡ at + w * 0 = omega arith in
      ap (λ (k : ℕ). any_of bad w k (drop at xs)) all ∙ ap (λ (k : ℕ). any_of bad w n (drop k xs)) here
  any_split (suc m) n at xs =
      let more : suc m + n ≡ suc (m + n) = omega arith in
      let on : at + w + w * m ≡ at + w * suc m = omega arith in
      ap (λ (k : ℕ). any_of bad w k (drop at xs)) more
      ∙ any_next (m + n) at xs
      ∙ ap (λ (x : Bool). bad (drop at xs) || x) (any_split m n (at + w) xs)
      ∙ sym (or_assoc (bad (drop at xs)) (any_of bad w m (drop (at + w) xs)) (any_of bad w n (drop (at + w + w * m) xs)))
      ∙ ap₂ (λ (x : Bool) (k : ℕ). x || any_of bad w n (drop k xs)) (sym (any_next m at xs)) on

  -- where none of some is bad, none of fewer is, and each is not
  pub any_less : (n m : ℕ) (xs : List ℕ) → m ≤ n → any_of bad w n xs ≡ false → any_of bad w m xs ≡ false
  unfolding any_of
  any_less n zero xs h e = refl
  any_less zero (suc m) xs h e = absurd (omega arith)
  any_less (suc n) (suc m) xs h e =
      let clear = neither (bad xs) (any_of bad w n (drop w xs)) e in
      ap₂ (λ (x y : Bool). x || y) clear.0 (any_less n m (drop w xs) (omega arith) clear.1)

  pub any_clear : (n i : ℕ) (xs : List ℕ) → i < n → any_of bad w n xs ≡ false → bad (drop (w * i) xs) ≡ false
  unfolding any_of
  any_clear zero i xs h e = absurd (omega arith)
  any_clear (suc n) zero xs h e =
      let none : w * 0 ≡ 0 = omega arith in
      ap (λ (k : ℕ). bad (drop k xs)) none ∙ (neither (bad xs) (any_of bad w n (drop w xs)) e).0
  any_clear (suc n) (suc i) xs h e =
      let on : w * suc i ≡ w + w * i = omega arith in
      ap (λ (k : ℕ). bad (drop k xs)) on
      ∙ ap bad (sym (drop-drop (w * i) w xs))
      ∙ any_clear n i (drop w xs) (omega arith) (neither (bad xs) (any_of bad w n (drop w xs)) e).1

  -- the entries asked by their places, as a chain over these asks them
  any_range :
      (n i at : ℕ) (xs : List ℕ) → list_any (λ (k : ℕ). bad (drop (at + w * k) xs)) (range_with_len i n) ≡ any_of bad w n (drop (at + w * i) xs)
  unfolding any_of
  any_range zero i at xs = refl
  any_range (suc n) i at xs =
      let on : at + w * (i + 1) ≡ at + w * i + w = omega arith in
      ap (λ (x : Bool). bad (drop (at + w * i) xs) || x) (any_range n (i + 1) at xs ∙ ap (λ (k : ℕ). any_of bad w n (drop k xs)) on)
      ∙ sym (any_next n (at + w * i) xs)

  pub any_places :
      (n at : ℕ) (xs : List ℕ) {b : Bool} → b ≡ list_any (λ (k : ℕ). bad (drop (at + w * k) xs)) (range_with_len 0 n) → b ≡ any_of bad w n (drop at xs)
  any_places n at xs e =
      let here : at + w * 0 ≡ at = omega arith in
      e ∙ any_range n 0 at xs ∙ ap (λ (k : ℕ). any_of bad w n (drop k xs)) here

-- a test of an entry's bytes and one of the entry, both made of each in turn
module _ {A : Type 0} (f : List ℕ → A) (w : ℕ) (bad : List ℕ → Bool) (test : A → Bool) (any : List A → Bool)
    (none : any [] ≡ false) (next : (a : A) (l : List A) → any (a ∷ l) ≡ (test a || any l)) where
  pub any_either :
      (n m : ℕ) (xs : List ℕ) → n ≤ m
      → any_of (λ (ys : List ℕ). bad ys || test (f ys)) w n xs ≡ (any_of bad w n xs || any (slice 0 n (table_of f w m xs)))
  unfolding any_of table_of
  any_either zero m xs h = sym none
  any_either (suc n) zero xs h = absurd (omega arith)
  any_either (suc n) (suc m) xs h =
      let rest : Bool = any_of bad w n (drop w xs) in
      let l : List A = slice 0 n (table_of f w m (drop w xs)) in
      ap (λ (x : Bool). (bad xs || test (f xs)) || x) (any_either n m (drop w xs) (omega arith))
      ∙ swap (bad xs) (test (f xs)) rest (any l)
      ∙ ap (λ (x : Bool). (bad xs || rest) || x) (sym (next (f xs) l))
    where
      swap : (a b c d : Bool) → ((a || b) || (c || d)) ≡ ((a || c) || (b || d))
      swap true b c d = refl
      swap false true true d = refl
      swap false true false d = refl
      swap false false c d = refl

-- ---- writing

module _ {A : Type 0} (f : A → List ℕ) (w : ℕ) where
  pub write_more :
      (i at : ℕ) (l : List A) (d a : A) (now : List ℕ) {next : List ℕ} → i < length l → a ≡ get_or l i d → length (f a) ≡ w → next ≡ sets now at (f a)
      → sets next (at + w) (table_bytes f (drop (i + 1) l)) ≡ sets now at (table_bytes f (drop i l))
  unfolding table_bytes
  write_more i at l d a now {next} h e k s =
      ap (λ (m : List ℕ). sets m (at + w) (table_bytes f (drop (i + 1) l))) s
      ∙ ap (λ (n : ℕ). sets (sets now at (f a)) (at + n) (table_bytes f (drop (i + 1) l))) (sym k)
      ∙ sets_append (f a) now at (table_bytes f (drop (i + 1) l))
      ∙ ap (λ (n : ℕ). sets now at (f a ++ table_bytes f (drop n l))) (add-one i)
      ∙ ap (λ (x : A). sets now at (table_bytes f (x ∷ drop (suc i) l))) e
      ∙ ap (λ (r : List A). sets now at (table_bytes f r)) (sym (drop-cons l i d h))

  pub write_end : (i at : ℕ) (l : List A) (now : List ℕ) → length l ≤ i → sets now at (table_bytes f (drop i l)) ≡ now
  unfolding table_bytes
  write_end i at l now h = ap (λ (r : List A). sets now at (table_bytes f r)) (drop_of_length-le l h)

  pub length_bytes : (l : List A) → ((a : A) → length (f a) ≡ w) → length (table_bytes f l) ≡ w * length l
  unfolding table_bytes
  length_bytes [] k = omega arith
  length_bytes (a ∷ l) k = length-append (f a) (table_bytes f l) ∙ omega (arith, k a, length_bytes l k)

-- the entries of a table from `i` on begin behind the bytes of those before
pub bytes_drop :
    {A : Type 0} (g : A → List ℕ) (w : ℕ) → ((a : A) → length (g a) ≡ w) → (i : ℕ) (l : List A) → table_bytes g (drop i l) ≡ drop (w * i) (table_bytes g l)
unfolding table_bytes
bytes_drop g w long zero l = let none : 0 ≡ w * 0 = omega arith in ap (λ (n : ℕ). drop n (table_bytes g l)) none
bytes_drop g w long (suc i) [] = sym (drop-nil (w * suc i))
bytes_drop g w long (suc i) (a ∷ l) =
    let on : length (g a) + w * i ≡ w * suc i = omega (arith, long a) in
    bytes_drop g w long i l ∙ sym (drop-append-add (g a) (table_bytes g l) (w * i)) ∙ ap (λ (n : ℕ). drop n (g a ++ table_bytes g l)) on

-- entries written one behind the other, by what one does to the bytes and to the table that they hold
module _ {A : Type 0} (g : A → List ℕ) (w off limit : ℕ) (long : (a : A) → length (g a) ≡ w) (table : List ℕ → List A) (Holds : List ℕ → Type 0)
    (turn : (now next : List ℕ) (i : ℕ) (a : A) → i < limit → Holds now → next ≡ sets now (off + w * i) (g a)
    → (table next ≡ set (table now) i a) × Holds next) where
  pub run_stored :
      (l : List A) (i : ℕ) {now next : List ℕ} → i + length l ≤ limit → Holds now → next ≡ sets now (off + w * i) (table_bytes g l)
      → (table next ≡ sets (table now) i l) × Holds next
  unfolding table_bytes
  run_stored [] i h k e = (ap table e, subst Holds (sym e) k)
  run_stored (a ∷ l) i {now} h k e =
      let first : List ℕ = sets now (off + w * i) (g a) in
      let one = turn now first i a (omega arith) k refl in
      let on : off + w * i + length (g a) ≡ off + w * suc i = omega (arith, long a) in
      let rest =
      run_stored l (suc i) (omega arith) one.1
      (e ∙ sym (sets_append (g a) now (off + w * i) (table_bytes g l)) ∙ ap (λ (n : ℕ). sets first n (table_bytes g l)) on) in
      (rest.0 ∙ ap (λ (t : List A). sets t (suc i) l) one.0, rest.1)

-- ---- a table that was written is read back

module _ {A : Type 0} (f : List ℕ → A) (g : A → List ℕ) (w : ℕ)
    (long : (a : A) → length (g a) ≡ w) (back : (a : A) (ys : List ℕ) → f (g a ++ ys) ≡ a) where
  pub table_back : (l : List A) (ys : List ℕ) → table_of f w (length l) (table_bytes g l ++ ys) ≡ l
  unfolding table_of table_bytes
  table_back [] ys = refl
  table_back (a ∷ l) ys =
      let rest : List ℕ = table_bytes g l ++ ys in
      ap (table_of f w (suc (length l))) (append_assoc (g a) (table_bytes g l) ys)
      ∙ ap₂ (λ (x : A) (r : List A). x ∷ r) (back a rest) (ap (table_of f w (length l)) (drop_at (g a) rest w (long a)) ∙ table_back l ys)

module _ {A : Type 0} (bad : List ℕ → Bool) (g : A → List ℕ) (w : ℕ)
    (long : (a : A) → length (g a) ≡ w) (good : (a : A) (ys : List ℕ) → bad (g a ++ ys) ≡ false) where
  pub table_good : (l : List A) (ys : List ℕ) → any_of bad w (length l) (table_bytes g l ++ ys) ≡ false
  unfolding any_of table_bytes
  table_good [] ys = refl
  table_good (a ∷ l) ys =
      let rest : List ℕ = table_bytes g l ++ ys in
      ap (any_of bad w (suc (length l))) (append_assoc (g a) (table_bytes g l) ys)
      ∙ ap₂ (λ (x y : Bool). x || y) (good a rest) (ap (any_of bad w (length l)) (drop_at (g a) rest w (long a)) ∙ table_good l ys)
