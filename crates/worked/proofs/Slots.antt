-- The laws of the loop that finds a slot in use: one slot and those behind it. Assumes nothing.
use mathlib.Core.Path.{◌≡◌, refl, ap, ◌∙◌}
use mathlib.Core.List.{List, [], ◌∷◌}
use Prim.Native.Nat.{ℕ, zero, suc, ◌+◌, ◌-◌, ◌*◌, ◌≤◌, ◌<◌}
use native.Mathlib.Omega.{arith}
use lib.ListN.{length, get_or, drop, length-drop}
use lib.Seq.{drop-cons}
use Rattle.worked.specs.Camera.{use_mark, slots_in_use}

pub one_in_use : (status : ℕ) → 0 < status → 1 ≡ use_mark status
one_in_use zero h = absurd (omega arith)
one_in_use (suc status) h = refl

-- the words from a slot on are its own two and those from the next one on
slot_words_lem : (ring : List ℕ) (slot : ℕ) → slot * 2 + 1 < length ring
    → drop (slot * 2) ring ≡ get_or ring (slot * 2) 0 ∷ get_or ring (suc (slot * 2)) 0 ∷ drop ((slot + 1) * 2) ring
slot_words_lem ring slot h =
    let e : suc (suc (slot * 2)) ≡ (slot + 1) * 2 = omega arith in
    drop-cons ring (slot * 2) 0 (omega arith)
    ∙ ap (λ (l : List ℕ). get_or ring (slot * 2) 0 ∷ l) (drop-cons ring (suc (slot * 2)) 0 (omega arith))
    ∙ ap (λ (k : ℕ). get_or ring (slot * 2) 0 ∷ get_or ring (suc (slot * 2)) 0 ∷ drop k ring) e

here : (slot status address : ℕ) (rest : List ℕ) (left none : ℕ) → left < use_mark status
    → get_or (slots_in_use slot (status ∷ address ∷ rest)) left none ≡ slot
here slot zero address rest left none h = absurd (omega arith)
here slot (suc status) address rest zero none h = refl
here slot (suc status) address rest (suc left) none h = absurd (omega arith)

later : (slot status address : ℕ) (rest : List ℕ) (left none : ℕ) → use_mark status ≤ left
    → get_or (slots_in_use slot (status ∷ address ∷ rest)) left none ≡ get_or (slots_in_use (suc slot) rest) (left - use_mark status) none
later slot zero address rest left none h = ap (λ (k : ℕ). get_or (slots_in_use (suc slot) rest) k none) (omega arith)
later slot (suc status) address rest zero none h = absurd (omega arith)
later slot (suc status) address rest (suc left) none h = ap (λ (k : ℕ). get_or (slots_in_use (suc slot) rest) k none) (omega arith)

few : (slot : ℕ) (words : List ℕ) → length words ≤ 1 → slots_in_use slot words ≡ []
few slot [] h = refl
few slot (status ∷ []) h = refl
few slot (status ∷ address ∷ rest) h = absurd (omega arith)

pub slot_here : (ring : List ℕ) (slot left none : ℕ) → slot * 2 + 1 < length ring → left < use_mark (get_or ring (slot * 2) 0)
    → get_or (slots_in_use slot (drop (slot * 2) ring)) left none ≡ slot
slot_here ring slot left none h l =
    ap (λ (words : List ℕ). get_or (slots_in_use slot words) left none) (slot_words_lem ring slot h)
    ∙ here slot (get_or ring (slot * 2) 0) (get_or ring (suc (slot * 2)) 0) (drop ((slot + 1) * 2) ring) left none l

pub slot_later : (ring : List ℕ) (slot left none : ℕ) → slot * 2 + 1 < length ring → use_mark (get_or ring (slot * 2) 0) ≤ left
    → get_or (slots_in_use slot (drop (slot * 2) ring)) left none
    ≡ get_or (slots_in_use (slot + 1) (drop ((slot + 1) * 2) ring)) (left - use_mark (get_or ring (slot * 2) 0)) none
slot_later ring slot left none h l =
    ap (λ (words : List ℕ). get_or (slots_in_use slot words) left none) (slot_words_lem ring slot h)
    ∙ later slot (get_or ring (slot * 2) 0) (get_or ring (suc (slot * 2)) 0) (drop ((slot + 1) * 2) ring) left none l
    ∙ ap (λ (n : ℕ). get_or (slots_in_use n (drop ((slot + 1) * 2) ring)) (left - use_mark (get_or ring (slot * 2) 0)) none) (omega arith)

pub slot_none : (ring : List ℕ) (slot left none : ℕ) → length ring ≤ slot * 2 + 1 → get_or (slots_in_use slot (drop (slot * 2) ring)) left none ≡ none
slot_none ring slot left none h =
    ap (λ (l : List ℕ). get_or l left none) (few slot (drop (slot * 2) ring) (omega (arith, length-drop (slot * 2) ring)))
