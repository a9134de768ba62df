-- What is laid on a ring: for each packet its slot and the two words of its descriptor.
use Rattle.std.specs.Prelude.{◌≡◌, List, [], ◌∷◌, ℕ, suc, ◌+◌, ◌*◌, ◌<◌, length, get_or, set}
use Rattle.words.specs.Words.{iso_status}
use Rattle.ring.specs.RingSums.{slot_at}
use Rattle.ring.specs.Stores.{Store, is_last}

pub record Laid : Type 0 where
  pub slot : ℕ
  pub address : ℕ
  pub status : ℕ

-- address at word 2·slot + 1, then status at word 2·slot, one packet after the other
abbrev pub drawn : List Laid → List ℕ → List ℕ
drawn [] ring = ring
drawn (x ∷ xs) ring = drawn xs (set (set ring (2 * x.slot + 1) x.address) (2 * x.slot) x.status)

-- the same as stores, in their order
abbrev pub words_of : List Laid → List Store
words_of [] = []
words_of (x ∷ xs) = record { word = 2 * x.slot + 1; value = x.address } ∷ record { word = 2 * x.slot; value = x.status } ∷ words_of xs

abbrev pub slot_of : Laid → ℕ
slot_of x = x.slot

abbrev pub word_at : Store → ℕ
word_at x = x.word

abbrev pub blank_laid : Laid
blank_laid = record { slot = 0; address = 0; status = 0 }

-- a ring holds both words
abbrev pub Holds : List ℕ → Laid → Type 0
Holds ring x = (get_or ring (2 * x.slot) 0 ≡ x.status) × (get_or ring (2 * x.slot + 1) 0 ≡ x.address)

-- "Packet i goes to (insert + i × interval) mod R": the packets from number i on, of these lengths
abbrev pub planned_from : ℕ → ℕ → ℕ → ℕ → ℕ → List ℕ → List Laid
planned_from R insert step i addr [] = []
planned_from R insert step i addr (l ∷ ls) =
    record { slot = slot_at R insert step i; address = addr; status = iso_status l (is_last ls) } ∷ planned_from R insert step (suc i) (addr + l) ls

-- a number stands in a list, or does not; those of a list differ from one another
abbrev pub Among : ℕ → List ℕ → Type 0
Among n l = (i : ℕ) × (i < length l) × (get_or l i 0 ≡ n)

abbrev pub Absent : ℕ → List ℕ → Type 0
Absent n l = (i : ℕ) → i < length l → get_or l i 0 ≡ n → ⊥

abbrev pub Distinct : List ℕ → Type 0
Distinct l = (i j : ℕ) → i < j → j < length l → get_or l i 0 ≡ get_or l j 0 → ⊥
