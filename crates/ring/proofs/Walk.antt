-- The walk round the frame list, entry by entry, and the table that it fills.
use Rattle.std.proofs.Common.{◌≡◌, ℕ, suc, ◌+◌, ◌-◌, ◌%◌, ◌<◌, List, [], ◌∷◌, ◌++◌, Bool, length, set, replicate, sym, ap, ◌∙◌, refl, arith, eq-eqb, ne_eqb}
use Rattle.std.proofs.Math.Seq.{set-append_seam}
use Rattle.std.proofs.lemmas.List.{append_assoc, append-nil, length-append}
use Rattle.ring.specs.RingSums.{walk, unless_back, frame_table}
use Rattle.ring.specs.declared.frames.IsoServiceFrames.{IsoServiceFrames}

module _ (size step first fuel frame : ℕ) where
  pub walk_done : walk size step first 0 frame ≡ []
  unfolding walk
  walk_done = refl

  pub walk_back : (frame + step) % size ≡ first → walk size step first (suc fuel) frame ≡ frame ∷ []
  unfolding walk
  walk_back e = ap (λ (b : Bool). frame ∷ unless_back b (walk size step first fuel ((frame + step) % size))) (eq-eqb _ _ e)

  pub walk_on : ((frame + step) % size ≡ first → ⊥) → walk size step first (suc fuel) frame ≡ frame ∷ walk size step first fuel ((frame + step) % size)
  unfolding walk
  walk_on n = ap (λ (b : Bool). frame ∷ unless_back b (walk size step first fuel ((frame + step) % size))) (ne_eqb _ _ n)

-- the i entries that are written stand before the rest of the walk, and zeros behind them
abbrev pub Written : (step first i frame : ℕ) (frames : List ℕ) → Type 0
Written step first i frame frames =
    (done : List ℕ) × (length done ≡ i) × (frames ≡ done ++ replicate (64 - i) 0)
    × (walk 64 step first 64 first ≡ done ++ walk 64 step first (64 - i) frame)

table_is : (done : List ℕ) (n : ℕ) (l w : List ℕ) → length done ≡ n → l ≡ done ++ replicate (64 - n) 0 → w ≡ done
    → ◌≡◌ {A = IsoServiceFrames} (record { count = n; frames = l }) (frame_table w)
table_is done n l w e f g = rw (f, g, ← e) refl

module _ (step first i frame : ℕ) (frames : List ℕ) (some : i < 64) (w : Written step first i frame frames) where
  fuel : 64 - i ≡ suc (64 - (i + 1))
  fuel = omega arith

  more : length (w.0 ++ frame ∷ []) ≡ i + 1
  more = length-append w.0 (frame ∷ []) ∙ ap (λ (k : ℕ). k + 1) w.1

  put : (n : ℕ) → 64 - i ≡ suc n → set frames i frame ≡ (w.0 ++ frame ∷ []) ++ replicate n 0
  put n e =
      ap (λ (l : List ℕ). set l i frame) (w.2 ∙ ap (λ (k : ℕ). w.0 ++ replicate k 0) e)
      ∙ ap (λ (k : ℕ). set (w.0 ++ replicate (suc n) 0) k frame) (sym w.1)
      ∙ set-append_seam w.0 0 (replicate n 0) frame
      ∙ sym (append_assoc w.0 (frame ∷ []) (replicate n 0))

  rest : (l : List ℕ) → walk 64 step first (suc (64 - (i + 1))) frame ≡ l → walk 64 step first 64 first ≡ w.0 ++ l
  rest l e = w.3 ∙ ap (λ (k : ℕ). w.0 ++ walk 64 step first k frame) fuel ∙ ap (λ (m : List ℕ). w.0 ++ m) e

  -- one more entry is written
  pub written_more : ((frame + step) % 64 ≡ first → ⊥) → Written step first (i + 1) ((frame + step) % 64) (set frames i frame)
  written_more other = (
    w.0 ++ frame ∷ [],
    more,
    put (64 - (i + 1)) fuel,
    rest _ (walk_on 64 step first (64 - (i + 1)) frame other)
        ∙ sym (append_assoc w.0 (frame ∷ []) (walk 64 step first (64 - (i + 1)) ((frame + step) % 64))),
  )

  -- it was the last
  pub written_whole : (frame + step) % 64 ≡ first
      → ◌≡◌ {A = IsoServiceFrames} (record { count = i + 1; frames = set frames i frame }) (frame_table (walk 64 step first 64 first))
  written_whole same =
      table_is (w.0 ++ frame ∷ []) (i + 1) (set frames i frame) (walk 64 step first 64 first) more (put (64 - (i + 1)) fuel)
      (rest _ (walk_back 64 step first (64 - (i + 1)) frame same))

-- all 64 are written
pub written_all : (step first frame : ℕ) (frames : List ℕ) → Written step first 64 frame frames
    → ◌≡◌ {A = IsoServiceFrames} (record { count = 64; frames = frames }) (frame_table (walk 64 step first 64 first))
written_all step first frame frames w =
    table_is w.0 64 frames (walk 64 step first 64 first) w.1 w.2
    (w.3 ∙ ap (λ (m : List ℕ). w.0 ++ m) (walk_done 64 step first 0 frame) ∙ append-nil w.0)
