-- The words of a submission's packets in their order: document 01, "Submit".
use Rattle.std.specs.Prelude.{ℕ, suc, ◌+◌, ◌*◌, ◌%◌, Bool, true, false, List, [], ◌∷◌, slice_set}
use Rattle.words.specs.Words.{iso_status}
use Rattle.ring.specs.RingSums.{slot_at}

-- a word to store, and words stored one after the other
pub record Store : Type 0 where
  pub word : ℕ
  pub value : ℕ

abbrev pub stored : List Store → List ℕ → List ℕ
stored [] ring = ring
stored (x ∷ xs) ring = stored xs (slice_set ring x.word x.value)

abbrev pub is_last : List ℕ → Bool
is_last [] = true
is_last (l ∷ ls) = false

-- "Packet i goes to (insert + i × interval) mod R, the address word before the status word." The packets from number i on, of these lengths
abbrev pub stores_from : ℕ → ℕ → ℕ → ℕ → ℕ → List ℕ → List Store
stores_from R insert step i addr [] = []
stores_from R insert step i addr (l ∷ ls) =
    record { word = 2 * slot_at R insert step i + 1; value = addr }
    ∷ record { word = 2 * slot_at R insert step i; value = iso_status l (is_last ls) }
    ∷ stores_from R insert step (suc i) (addr + l) ls

-- a word holds 32 bits: an address beyond them wraps
abbrev pub as_word : Store → Store
as_word x = record { word = x.word; value = x.value % 4_294_967_296 }
