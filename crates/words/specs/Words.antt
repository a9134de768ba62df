-- Document 01, "Words": each field by its place and width, and each word by its fields, in 01's order.
use Rattle.std.specs.Prelude.{ℕ, ◌+◌, ◌-◌, ◌*◌, ◌/◌, max, Bool, true, false, cond, Option, Some, None, List, [], ◌∷◌, eqb, ltb}
use Rattle.words.specs.Field.{Field, Entry, bits, bit, ◌≔◌, get, word}
use Rattle.words.specs.Numbers.{flag_of, direction_number, ep_type_number, pid_number, fault_bit}
use Rattle.words.specs.declared.types.Direction.{Direction}
use Rattle.words.specs.declared.types.Direction.TheVariants.{In, Out}
use Rattle.words.specs.declared.types.Dwc2EpType.{Dwc2EpType}
use Rattle.words.specs.declared.types.Dwc2EpType.TheVariants.{Control, Isochronous, Bulk, Interrupt}
use Rattle.words.specs.declared.types.Dwc2Pid.{Dwc2Pid}
use Rattle.words.specs.declared.types.Dwc2TransferFault.{Dwc2TransferFault}
use Rattle.words.specs.declared.types.Dwc2TransferFault.TheVariants.{Ahb, Stall, Babble, Transaction, FrameOverrun, DataToggle}

abbrev pub is_set : Field → ℕ → Bool
is_set f w = eqb (get f w) 1

-- "Status: active 31, result 28 to 29 (only 1 is a packet error), end of list 26, interrupt 25, setup 24, byte count 0 to 16, or 0 to 11 when
-- isochronous."
abbrev pub active : Field
active = bit 31

abbrev pub result : Field
result = bits 28 2

abbrev pub end_of_list : Field
end_of_list = bit 26

abbrev pub interrupt : Field
interrupt = bit 25

abbrev pub setup : Field
setup = bit 24

abbrev pub byte_count : Field
byte_count = bits 0 17

abbrev pub iso_byte_count : Field
iso_byte_count = bits 0 12

abbrev pub is_packet_error : ℕ → Bool
is_packet_error status = eqb (get result status) 1

-- "An isochronous descriptor has active, its length, and on the last packet interrupt."
abbrev pub iso_entries : ℕ → Bool → List Entry
iso_entries len last = iso_byte_count ≔ len ∷ interrupt ≔ flag_of last ∷ active ≔ 1 ∷ []

abbrev pub iso_status : ℕ → Bool → ℕ
iso_status len last = word (iso_entries len last)

-- "In a chain every descriptor is active and the last has interrupt and end of list."
abbrev pub chain_entries : ℕ → Bool → List Entry
chain_entries count last = byte_count ≔ count ∷ interrupt ≔ flag_of last ∷ end_of_list ≔ flag_of last ∷ active ≔ 1 ∷ []

abbrev pub chain_status : ℕ → Bool → ℕ
chain_status count last = word (chain_entries count last)

-- b bytes in packets of m: "max(1, ceil(b/m)) packets", where m is "raised to 1"
abbrev pub packets : ℕ → ℕ → ℕ
packets b m = max 1 ((b + (max 1 m - 1)) / max 1 m)

-- "IN counts are rounded up to whole packets, zero to one packet."
abbrev pub initial_len : ℕ → ℕ → Bool → ℕ
initial_len len m true = packets len m * max 1 m
initial_len len m false = len

-- 01, "Poll": "IN length is planned minus remaining, not below 0; OUT is planned."
abbrev pub moved_length : Direction → ℕ → ℕ → ℕ
moved_length In planned status = planned - get iso_byte_count status
moved_length Out planned status = planned

-- "Setup is 0x87000008."
abbrev pub setup_entries : List Entry
setup_entries = byte_count ≔ 8 ∷ setup ≔ 1 ∷ interrupt ≔ 1 ∷ end_of_list ≔ 1 ∷ active ≔ 1 ∷ []

abbrev pub setup_status : ℕ
setup_status = word setup_entries

-- "HCCHAR: packet size 0 to 10, endpoint 11 to 14, IN 15, low speed 17, type 18 to 19, mult 20 to 21 (1 unless isochronous), device 22 to 28, odd
-- frame 29." "Mult 0 counts as 1 everywhere."
abbrev pub packet_size : Field
packet_size = bits 0 11

abbrev pub endpoint : Field
endpoint = bits 11 4

abbrev pub direction_in : Field
direction_in = bit 15

abbrev pub low_speed : Field
low_speed = bit 17

abbrev pub ep_type : Field
ep_type = bits 18 2

abbrev pub mult : Field
mult = bits 20 2

abbrev pub device : Field
device = bits 22 7

abbrev pub odd_frame_bit : Field
odd_frame_bit = bit 29

abbrev pub mult_of : Dwc2EpType → ℕ → ℕ
mult_of Control m = 1
mult_of Isochronous m = max 1 m
mult_of Bulk m = 1
mult_of Interrupt m = 1

abbrev pub hcchar_entries : ℕ → ℕ → Direction → Dwc2EpType → ℕ → Bool → ℕ → Bool → List Entry
hcchar_entries dev ep dir type mps low m odd =
    packet_size ≔ mps ∷ endpoint ≔ ep ∷ direction_in ≔ direction_number dir ∷ low_speed ≔ flag_of low ∷ ep_type ≔ ep_type_number type ∷ mult ≔ mult_of type m
    ∷ device ≔ dev
    ∷ odd_frame_bit ≔ flag_of odd
    ∷ []

abbrev pub hcchar_word : ℕ → ℕ → Direction → Dwc2EpType → ℕ → Bool → ℕ → Bool → ℕ
hcchar_word dev ep dir type mps low m odd = word (hcchar_entries dev ep dir type mps low m odd)

-- "HCTSIZ: SCHINFO 0 to 7, descriptors − 1 at 8 to 15, PID 29 to 30"
abbrev pub schinfo : Field
schinfo = bits 0 8

abbrev pub descriptors_less_one : Field
descriptors_less_one = bits 8 8

abbrev pub pid : Field
pid = bits 29 2

abbrev pub hctsiz_entries : Dwc2Pid → ℕ → ℕ → List Entry
hctsiz_entries p descs info = schinfo ≔ info ∷ descriptors_less_one ≔ (descs - 1) ∷ pid ≔ pid_number p ∷ []

abbrev pub hctsiz_word : Dwc2Pid → ℕ → ℕ → ℕ
hctsiz_word p descs info = word (hctsiz_entries p descs info)

-- "HCINT: complete 0, halted 1, AHB 2, stall 3, transaction 7, babble 8, overrun 9, toggle 10."
abbrev pub complete : Field
complete = bit 0

abbrev pub halted : Field
halted = bit 1

abbrev pub fault_field : Dwc2TransferFault → Field
fault_field f = bit (fault_bit f)

-- "The fault is the first set of 2, 3, 8, 7, 9, 10."
abbrev pub first_fault : List Dwc2TransferFault → ℕ → Option Dwc2TransferFault
first_fault [] w = None
first_fault (f ∷ fs) w = cond (is_set (fault_field f) w) (Some f) (first_fault fs w)

abbrev pub fault_order : List Dwc2TransferFault
fault_order = Ahb ∷ Stall ∷ Babble ∷ Transaction ∷ FrameOverrun ∷ DataToggle ∷ []

abbrev pub hcint_fault : ℕ → Option Dwc2TransferFault
hcint_fault w = first_fault fault_order w

-- 01, "Submit": "the interrupt mask: bits 0, 1, 2, 9, for IN also 7, 8"
abbrev pub mask_entries : Direction → List Entry
mask_entries dir =
    complete ≔ 1 ∷ halted ≔ 1 ∷ fault_field Ahb ≔ 1 ∷ fault_field Transaction ≔ direction_number dir ∷ fault_field Babble ≔ direction_number dir
    ∷ fault_field FrameOverrun ≔ 1
    ∷ []

abbrev pub iso_hcintmsk : Direction → ℕ
iso_hcintmsk dir = word (mask_entries dir)

-- 01, "Planning transfers": "We refuse if base plus length .. exceeds 4,294,967,295"
abbrev pub is_beyond : ℕ → ℕ → Bool
is_beyond base bytes = ltb 4_294_967_295 (base + bytes)
