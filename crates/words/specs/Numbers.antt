-- Document 01's number for each case of the enums of types.rt, in the order of 01, "Words".
use Rattle.std.specs.Prelude.{ℕ, Bool, true, false}
use Rattle.words.specs.declared.types.Direction.{Direction}
use Rattle.words.specs.declared.types.Direction.TheVariants.{Out, In}
use Rattle.words.specs.declared.types.Dwc2EpType.{Dwc2EpType}
use Rattle.words.specs.declared.types.Dwc2EpType.TheVariants.{Control, Isochronous, Bulk, Interrupt}
use Rattle.words.specs.declared.types.Dwc2Pid.{Dwc2Pid}
use Rattle.words.specs.declared.types.Dwc2Pid.TheVariants.{Data0, Data1, Data2, MData, Setup}
use Rattle.words.specs.declared.types.Dwc2TransferFault.{Dwc2TransferFault}
use Rattle.words.specs.declared.types.Dwc2TransferFault.TheVariants.{Ahb, Stall, Babble, Transaction, FrameOverrun, DataToggle}

-- a yes is 1
abbrev pub flag_of : Bool → ℕ
flag_of true = 1
flag_of false = 0

-- HCCHAR's bit IN
abbrev pub direction_number : Direction → ℕ
direction_number Out = 0
direction_number In = 1

-- control 0, isochronous 1, bulk 2, interrupt 3
abbrev pub ep_type_number : Dwc2EpType → ℕ
ep_type_number Control = 0
ep_type_number Isochronous = 1
ep_type_number Bulk = 2
ep_type_number Interrupt = 3

-- DATA0 0, DATA2 1, DATA1 2, MDATA and SETUP 3
abbrev pub pid_number : Dwc2Pid → ℕ
pid_number Data0 = 0
pid_number Data2 = 1
pid_number Data1 = 2
pid_number MData = 3
pid_number Setup = 3

-- the bit of HCINT that reports each fault
abbrev pub fault_bit : Dwc2TransferFault → ℕ
fault_bit Ahb = 2
fault_bit Stall = 3
fault_bit Transaction = 7
fault_bit Babble = 8
fault_bit FrameOverrun = 9
fault_bit DataToggle = 10
