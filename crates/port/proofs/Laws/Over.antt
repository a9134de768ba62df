-- A table in the place of another (`table_kept`), entry by entry: how long it is, what one more entry written does, what it is where nothing was
-- changed, which bytes a part of it is, and what stands over what stood over a third.
use Rattle.std.proofs.Common.{◌≡◌, ℕ, zero, suc, ◌+◌, ◌-◌, ◌*◌, ◌<◌, ◌≤◌, Bool, true, false, cond, ◌||◌, List, [], ◌∷◌, ◌++◌, length, take, drop, set, sym, refl, ap, ◌∙◌, ap₂, append_assoc, arith, length-append, length-drop, take-append-drop, length-take-le, drop-drop, take_at, drop_at}
use lib.Seq.{slice, sets}
use Rattle.words.proofs.Laws.Tests.{neither}
use Rattle.port.specs.Layout.{table_bytes, table_of, table_kept, any_of}
use Rattle.port.proofs.Laws.Kept.{Octets, octets_drop, join}
use Rattle.port.proofs.Laws.Runs.{sets_behind, sets_first, take_sets, drop_sets_add, slice_take}
use Rattle.port.proofs.Laws.Tables.{table_take, bytes_drop}

-- ---- entries that read no further than their width

module _ {A : Type 0} (f : List ℕ → A) (w : ℕ) (local : (xs : List ℕ) → f (take w xs) ≡ f xs) where
  -- two lists that begin alike
  pub alike : (xs ys : List ℕ) → take w xs ≡ take w ys → f xs ≡ f ys
  alike xs ys e = sym (local xs) ∙ ap f e ∙ local ys

  -- a run stored behind the table
  pub table_before : (n : ℕ) (ys : List ℕ) (k : ℕ) (vs : List ℕ) → w * n ≤ k → table_of f w n (sets ys k vs) ≡ table_of f w n ys
  unfolding table_of
  table_before zero ys k vs h = refl
  table_before (suc n) ys k vs h =
      let whole : w * suc n ≡ w + w * n = omega arith in
      let on : w + (k - w) ≡ k = omega arith in
      ap₂ (λ (a : A) (l : List A). a ∷ l) (alike (sets ys k vs) ys (take_sets w ys k vs (omega arith)))
      (ap (table_of f w n) (drop_sets_add w ys k (k - w) vs on) ∙ table_before n (drop w ys) (k - w) vs (omega arith))

  -- an entry stored in its place
  module _ (g : A → List ℕ) (long : (a : A) → length (g a) ≡ w) (back : (a : A) (ys : List ℕ) → f (g a ++ ys) ≡ a) where
    pub table_set :
        (n i : ℕ) (ys : List ℕ) (x : A) → i < n → w * n ≤ length ys → table_of f w n (sets ys (w * i) (g x)) ≡ set (table_of f w n ys) i x
    unfolding table_of
    table_set zero i ys x h k = absurd (omega arith)
    table_set (suc n) zero ys x h k =
        let none : w * 0 ≡ 0 = omega arith in
        let whole : w * suc n ≡ w + w * n = omega arith in
        let front : length (take w ys) ≡ w = length-take-le w ys (omega arith) in
        let put : sets ys (w * 0) (g x) ≡ g x ++ drop w ys =
        ap (λ (m : ℕ). sets ys m (g x)) none
        ∙ ap (λ (l : List ℕ). sets l 0 (g x)) (sym (take-append-drop w ys))
        ∙ sets_first (take w ys) (drop w ys) (g x) (long x ∙ sym front) in
        ap₂ (λ (a : A) (l : List A). a ∷ l) (ap f put ∙ back x (drop w ys)) (ap (table_of f w n) (ap (drop w) put ∙ drop_at (g x) (drop w ys) w (long x)))
    table_set (suc n) (suc i) ys x h k =
        let whole : w * suc n ≡ w + w * n = omega arith in
        let on : w + w * i ≡ w * suc i = omega arith in
        ap₂ (λ (a : A) (l : List A). a ∷ l) (alike (sets ys (w * suc i) (g x)) ys (take_sets w ys (w * suc i) (g x) (omega arith)))
        (ap (table_of f w n) (drop_sets_add w ys (w * suc i) (w * i) (g x) on)
        ∙ table_set n i (drop w ys) x (omega arith) (omega (arith, length-drop w ys)))

-- ---- the table kept

module _ {A : Type 0} (g : A → List ℕ) (bad : List ℕ → Bool) (w : ℕ) (long : (a : A) → length (g a) ≡ w) where
  abbrev run : List ℕ → A → List ℕ
  run xs a = cond (bad xs) (take w xs) (g a)

  length_run : (xs : List ℕ) (a : A) → w ≤ length xs → length (run xs a) ≡ w
  length_run xs a h = go (bad xs)
    where
      go : (b : Bool) → length (cond b (take w xs) (g a)) ≡ w
      go true = length-take-le w xs h
      go false = long a

  pub length_kept : (n : ℕ) (l : List A) (xs : List ℕ) → w * length l ≤ length xs → length (table_kept g bad w n l xs) ≡ w * length l
  unfolding table_kept
  length_kept n [] xs h = omega arith
  length_kept zero (a ∷ l) xs h =
      let whole : w * suc (length l) ≡ w + w * length l = omega arith in
      length-append (run xs a) (table_kept g bad w zero l (drop w xs))
      ∙ omega (arith, length_run xs a (omega arith), length_kept zero l (drop w xs) (omega (arith, length-drop w xs)))
  length_kept (suc n) (a ∷ l) xs h =
      let whole : w * suc (length l) ≡ w + w * length l = omega arith in
      length-append (g a) (table_kept g bad w n l (drop w xs)) ∙ omega (arith, long a, length_kept n l (drop w xs) (omega (arith, length-drop w xs)))

  -- an entry of the layout is written over
  pub kept_put :
      (l : List A) (i : ℕ) (x : A) (xs c : List ℕ) → i < length l → w * length l ≤ length xs → bad (drop (w * i) xs) ≡ false
      → sets (table_kept g bad w 0 l xs ++ c) (w * i) (g x) ≡ table_kept g bad w 0 (set l i x) xs ++ c
  unfolding table_kept
  kept_put [] i x xs c h k e = absurd (omega arith)
  kept_put (a ∷ l) zero x xs c h k e =
      let none : w * 0 ≡ 0 = omega arith in
      let whole : w * suc (length l) ≡ w + w * length l = omega arith in
      let rest : List ℕ = table_kept g bad w 0 l (drop w xs) in
      let good : bad xs ≡ false = ap (λ (n : ℕ). bad (drop n xs)) (sym none) ∙ e in
      ap₂ (λ (ys : List ℕ) (n : ℕ). sets ys n (g x)) (append_assoc (run xs a) rest c) none
      ∙ sets_first (run xs a) (rest ++ c) (g x) (long x ∙ sym (length_run xs a (omega arith)))
      ∙ sym (append_assoc (g x) rest c)
      ∙ ap (λ (b : Bool). cond b (take w xs) (g x) ++ rest ++ c) (sym good)
  kept_put (a ∷ l) (suc i) x xs c h k e =
      let whole : w * suc (length l) ≡ w + w * length l = omega arith in
      let on : w + w * i ≡ w * suc i = omega arith in
      let rest : List A → List ℕ = λ (m : List A). table_kept g bad w 0 m (drop w xs) in
      let good : bad (drop (w * i) (drop w xs)) ≡ false = ap bad (drop-drop (w * i) w xs) ∙ ap (λ (n : ℕ). bad (drop n xs)) on ∙ e in
      ap (λ (ys : List ℕ). sets ys (w * suc i) (g x)) (append_assoc (run xs a) (rest l) c)
      ∙ sets_behind (run xs a) (rest l ++ c) (w * i) (w * suc i) (g x) (omega (arith, length_run xs a (omega arith)))
      ∙ ap (λ (ys : List ℕ). run xs a ++ ys) (kept_put l i x (drop w xs) c (omega arith) (omega (arith, length-drop w xs)) good)
      ∙ sym (append_assoc (run xs a) (rest (set l i x)) c)

  -- the entry behind those written is written too
  pub kept_next :
      (l : List A) (n : ℕ) (x : A) (xs c : List ℕ) → n < length l → w * length l ≤ length xs
      → sets (table_kept g bad w n l xs ++ c) (w * n) (g x) ≡ table_kept g bad w (suc n) (set l n x) xs ++ c
  unfolding table_kept
  kept_next [] n x xs c h k = absurd (omega arith)
  kept_next (a ∷ l) zero x xs c h k =
      let none : w * 0 ≡ 0 = omega arith in
      let whole : w * suc (length l) ≡ w + w * length l = omega arith in
      let rest : List ℕ = table_kept g bad w 0 l (drop w xs) in
      ap₂ (λ (ys : List ℕ) (m : ℕ). sets ys m (g x)) (append_assoc (run xs a) rest c) none
      ∙ sets_first (run xs a) (rest ++ c) (g x) (long x ∙ sym (length_run xs a (omega arith)))
      ∙ sym (append_assoc (g x) rest c)
  kept_next (a ∷ l) (suc n) x xs c h k =
      let whole : w * suc (length l) ≡ w + w * length l = omega arith in
      let on : w + w * n ≡ w * suc n = omega arith in
      let rest : ℕ → List A → List ℕ = λ (m : ℕ) (t : List A). table_kept g bad w m t (drop w xs) in
      ap (λ (ys : List ℕ). sets ys (w * suc n) (g x)) (append_assoc (g a) (rest n l) c)
      ∙ sets_behind (g a) (rest n l ++ c) (w * n) (w * suc n) (g x) (omega (arith, long a))
      ∙ ap (λ (ys : List ℕ). g a ++ ys) (kept_next l n x (drop w xs) c (omega arith) (omega (arith, length-drop w xs)))
      ∙ sym (append_assoc (g a) (rest (suc n) (set l n x)) c)

  -- entries of the layout are written in either case
  pub kept_good : (n : ℕ) (l : List A) (xs : List ℕ) → any_of bad w n xs ≡ false → table_kept g bad w 0 l xs ≡ table_kept g bad w n l xs
  unfolding table_kept any_of
  kept_good zero l xs e = refl
  kept_good (suc n) [] xs e = refl
  kept_good (suc n) (a ∷ l) xs e =
      let clear = neither (bad xs) (any_of bad w n (drop w xs)) e in
      ap₂ (λ (b : Bool) (r : List ℕ). cond b (take w xs) (g a) ++ r) clear.0 (kept_good n l (drop w xs) clear.1)

  -- a table over itself
  module _ (f : List ℕ → A) (kept : (xs : List ℕ) → Octets xs → w ≤ length xs → bad xs ≡ false → g (f xs) ≡ take w xs) where
    pub kept_same : (n : ℕ) (xs : List ℕ) → Octets xs → w * n ≤ length xs → table_kept g bad w 0 (table_of f w n xs) xs ≡ take (w * n) xs
    unfolding table_kept table_of
    kept_same zero xs o h = let none : w * 0 ≡ 0 = omega arith in ap (λ (m : ℕ). take m xs) (sym none)
    kept_same (suc n) xs o h =
        let whole : w * suc n ≡ w + w * n = omega arith in
        join w (w * n) xs (go (bad xs) refl) (kept_same n (drop w xs) (octets_drop w xs o) (omega (arith, length-drop w xs)))
        ∙ ap (λ (m : ℕ). take m xs) (sym whole)
      where
        go : (b : Bool) → bad xs ≡ b → cond b (take w xs) (g (f xs)) ≡ take w xs
        go true e = refl
        go false e = kept xs o (omega arith) e

    -- entries of the layout, written as they were read, are the bytes that they were read from: all from the first on, and a part
    table_same : (n : ℕ) (xs : List ℕ) → Octets xs → w * n ≤ length xs → any_of bad w n xs ≡ false → table_bytes g (table_of f w n xs) ≡ take (w * n) xs
    unfolding table_bytes table_of any_of
    table_same zero xs o h e = let none : w * 0 ≡ 0 = omega arith in ap (λ (m : ℕ). take m xs) (sym none)
    table_same (suc n) xs o h e =
        let whole : w * suc n ≡ w + w * n = omega arith in
        let clear = neither (bad xs) (any_of bad w n (drop w xs)) e in
        join w (w * n) xs (kept xs o (omega arith) clear.0)
        (table_same n (drop w xs) (octets_drop w xs o) (omega (arith, length-drop w xs)) clear.1)
        ∙ ap (λ (m : ℕ). take m xs) (sym whole)

    pub part_same :
        (off from to n : ℕ) (xs : List ℕ) → Octets xs → to ≤ n → off + w * to ≤ length xs → any_of bad w to (drop off xs) ≡ false
        → slice (off + w * from) (off + w * to) xs ≡ table_bytes g (slice from to (table_of f w n (drop off xs)))
    part_same off from to n xs o few h e =
        sym (drop-drop (w * from) off (take (off + w * to) xs))
        ∙ ap (drop (w * from))
        (sym (slice_take off (w * to) xs (omega arith))
        ∙ sym (table_same to (drop off xs) (octets_drop off xs o) (omega (arith, length-drop off xs)) e))
        ∙ sym (bytes_drop g w long from (table_of f w to (drop off xs)))
        ∙ ap (λ (l : List A). table_bytes g (drop from l)) (table_take f w to n (drop off xs) few)

  -- a table over one that stands over a third
  module _ (good : (a : A) (ys : List ℕ) → bad (g a ++ ys) ≡ false) (local : (xs : List ℕ) → bad (take w xs) ≡ bad xs) where
    same_bad : (xs z : List ℕ) (a : A) → w ≤ length xs → bad (run xs a ++ z) ≡ bad xs
    same_bad xs z a h = go (bad xs) refl
      where
        go : (b : Bool) → bad xs ≡ b → bad (cond b (take w xs) (g a) ++ z) ≡ b
        go true e = alike bad w local (take w xs ++ z) xs (take_at (take w xs) z w (length-take-le w xs h)) ∙ e
        go false e = good a z

    same_run : (xs z : List ℕ) (a b : A) → w ≤ length xs → run (run xs a ++ z) b ≡ run xs b
    same_run xs z a b h = ap (λ (x : Bool). cond x (take w (run xs a ++ z)) (g b)) (same_bad xs z a h) ∙ go (bad xs)
      where
        go : (x : Bool) → cond x (take w (cond x (take w xs) (g a) ++ z)) (g b) ≡ cond x (take w xs) (g b)
        go true = take_at (take w xs) z w (length-take-le w xs h)
        go false = refl

    pub kept_over :
        (l m : List A) (xs c : List ℕ) → length l ≡ length m → w * length m ≤ length xs
        → table_kept g bad w 0 l (table_kept g bad w 0 m xs ++ c) ≡ table_kept g bad w 0 l xs
    unfolding table_kept
    kept_over [] m xs c e h = refl
    kept_over (a ∷ l) [] xs c e h = absurd (omega (arith, e))
    kept_over (a ∷ l) (b ∷ m) xs c e h =
        let whole : w * suc (length m) ≡ w + w * length m = omega arith in
        let rest : List ℕ = table_kept g bad w 0 m (drop w xs) in
        let apart : run xs b ++ rest ++ c ≡ run xs b ++ (rest ++ c) = append_assoc (run xs b) rest c in
        ap (λ (ys : List ℕ). run ys a ++ table_kept g bad w 0 l (drop w ys)) apart
        ∙ ap₂ (λ (r s : List ℕ). r ++ s) (same_run xs (rest ++ c) b a (omega arith))
        (ap (table_kept g bad w 0 l) (drop_at (run xs b) (rest ++ c) w (length_run xs b (omega arith)))
        ∙ kept_over l m (drop w xs) c (omega (arith, e)) (omega (arith, length-drop w xs)))

    pub kept_any :
        (n : ℕ) (l : List A) (xs c : List ℕ) → n ≤ length l → w * length l ≤ length xs
        → any_of bad w n (table_kept g bad w 0 l xs ++ c) ≡ any_of bad w n xs
    unfolding table_kept any_of
    kept_any zero l xs c h k = refl
    kept_any (suc n) [] xs c h k = absurd (omega arith)
    kept_any (suc n) (a ∷ l) xs c h k =
        let whole : w * suc (length l) ≡ w + w * length l = omega arith in
        let rest : List ℕ = table_kept g bad w 0 l (drop w xs) in
        ap (λ (ys : List ℕ). bad ys || any_of bad w n (drop w ys)) (append_assoc (run xs a) rest c)
        ∙ ap₂ (λ (x y : Bool). x || y) (same_bad xs (rest ++ c) a (omega arith))
        (ap (any_of bad w n) (drop_at (run xs a) (rest ++ c) w (length_run xs a (omega arith)))
        ∙ kept_any n l (drop w xs) c (omega arith) (omega (arith, length-drop w xs)))

    -- over a table that was saved
    pub kept_saved :
        (n : ℕ) (l m : List A) (c : List ℕ) → length l ≡ length m → table_kept g bad w n l (table_bytes g m ++ c) ≡ table_bytes g l
    unfolding table_kept table_bytes
    kept_saved n [] m c e = refl
    kept_saved n (a ∷ l) [] c e = absurd (omega (arith, e))
    kept_saved zero (a ∷ l) (b ∷ m) c e =
        let rest : List ℕ = table_bytes g m ++ c in
        let apart : g b ++ table_bytes g m ++ c ≡ g b ++ rest = append_assoc (g b) (table_bytes g m) c in
        ap (λ (ys : List ℕ). run ys a ++ table_kept g bad w 0 l (drop w ys)) apart
        ∙ ap₂ (λ (x : Bool) (r : List ℕ). cond x (take w (g b ++ rest)) (g a) ++ r) (good b rest)
        (ap (table_kept g bad w 0 l) (drop_at (g b) rest w (long b)) ∙ kept_saved zero l m c (omega (arith, e)))
    kept_saved (suc n) (a ∷ l) (b ∷ m) c e =
        let rest : List ℕ = table_bytes g m ++ c in
        let apart : g b ++ table_bytes g m ++ c ≡ g b ++ rest = append_assoc (g b) (table_bytes g m) c in
        ap (λ (ys : List ℕ). g a ++ table_kept g bad w n l (drop w ys)) apart
        ∙ ap (λ (r : List ℕ). g a ++ r) (ap (table_kept g bad w n l) (drop_at (g b) rest w (long b)) ∙ kept_saved n l m c (omega (arith, e)))
