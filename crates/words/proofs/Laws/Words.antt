-- The law of fields at each word of document 01, "Words": what each field of it reads.
-- Assumes nothing.
use Prim.Native.Nat.{ℕ}
use mathlib.Core.Bool.{Bool}
use mathlib.Core.Path.{◌≡◌, refl}
use Rattle.words.specs.Field.{bits, get}
use Rattle.words.specs.Words.{end_of_list, iso_entries, iso_status, chain_entries, setup_entries, setup_status, hcchar_entries, hcchar_word, hctsiz_entries, mask_entries}
use Rattle.words.specs.declared.types.Direction.{Direction}
use Rattle.words.specs.declared.types.Dwc2EpType.{Dwc2EpType}
use Rattle.words.specs.declared.types.Dwc2Pid.{Dwc2Pid}
use Rattle.words.proofs.Laws.Fields.{ReadBack, read_back, read_clear}

pub iso_fields : (len : ℕ) (last : Bool) → ReadBack (iso_entries len last)
iso_fields len last = read_back (iso_entries len last) tt

pub chain_fields : (count : ℕ) (last : Bool) → ReadBack (chain_entries count last)
chain_fields count last = read_back (chain_entries count last) tt

pub setup_fields : ReadBack setup_entries
setup_fields = read_back setup_entries tt

pub hcchar_fields :
    (dev ep : ℕ) (dir : Direction) (type : Dwc2EpType) (mps : ℕ) (low : Bool) (m : ℕ) (odd : Bool) → ReadBack (hcchar_entries dev ep dir type mps low m odd)
hcchar_fields dev ep dir type mps low m odd = read_back (hcchar_entries dev ep dir type mps low m odd) tt

pub hctsiz_fields : (pid : Dwc2Pid) (descs info : ℕ) → ReadBack (hctsiz_entries pid descs info)
hctsiz_fields pid descs info = read_back (hctsiz_entries pid descs info) tt

pub mask_fields : (dir : Direction) → ReadBack (mask_entries dir)
mask_fields dir = read_back (mask_entries dir) tt

-- "Setup is 0x87000008."
pub setup_word : setup_status ≡ 0x87000008
setup_word = refl

-- a packet of a camera's ring never ends the list: the controller goes round
pub iso_never_ends : (len : ℕ) (last : Bool) → get end_of_list (iso_status len last) ≡ 0
iso_never_ends len last = read_clear end_of_list (iso_entries len last) tt tt

-- bits 30 and 31, by which a channel is stopped and started, stay 0
pub hcchar_not_started :
    (dev ep : ℕ) (dir : Direction) (type : Dwc2EpType) (mps : ℕ) (low : Bool) (m : ℕ) (odd : Bool)
    → get (bits 30 2) (hcchar_word dev ep dir type mps low m odd) ≡ 0
hcchar_not_started dev ep dir type mps low m odd = read_clear (bits 30 2) (hcchar_entries dev ep dir type mps low m odd) tt tt
