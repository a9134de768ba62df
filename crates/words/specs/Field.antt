-- A field of a word: the bits from a place on, so many wide. A word is the sum of what is put into its fields.
use Rattle.std.specs.Prelude.{ℕ, ◌+◌, ◌*◌, ◌/◌, ◌%◌, ◌^◌, Bool, true, ◌&&◌, ◌||◌, List, [], ◌∷◌, leb}

pub record Field : Type 0 where
  pub place : ℕ
  pub width : ℕ

-- `bits lo w`: the w bits from bit lo on. `bit lo`: bit lo alone
abbrev pub bits : ℕ → ℕ → Field
bits lo w = record { place = lo; width = w }

abbrev pub bit : ℕ → Field
bit lo = bits lo 1

-- a value for a field
pub record Entry : Type 0 where
  pub field : Field
  pub value : ℕ

infix 68 ◌≔◌
abbrev pub ◌≔◌ : Field → ℕ → Entry
f ≔ v = record { field = f; value = v }

-- the value, cut to the field's width, at the field's place
abbrev pub put : Field → ℕ → ℕ
put f v = v % 2 ^ f.width * 2 ^ f.place

-- what stands in the field of a word
abbrev pub get : Field → ℕ → ℕ
get f w = w / 2 ^ f.place % 2 ^ f.width

-- the word with these entries, and zero elsewhere
abbrev pub word : List Entry → ℕ
word [] = 0
word (e ∷ es) = put e.field e.value + word es

-- the bit after a field's last
abbrev pub after : Field → ℕ
after f = f.place + f.width

-- the entries' fields follow each other, from bit p on
abbrev pub ascending : ℕ → List Entry → Bool
ascending p [] = true
ascending p (e ∷ es) = leb p e.field.place && ascending (after e.field) es

-- the field shares no bit with those of the entries
abbrev pub apart : Field → List Entry → Bool
apart f [] = true
apart f (e ∷ es) = (leb (after f) e.field.place || leb (after e.field) f.place) && apart f es
