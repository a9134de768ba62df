-- Document 01, "Planning transfers": packets and chunks, the toggle, and the words of a stage's descriptors.
use Rattle.std.specs.Prelude.{ℕ, zero, suc, ◌+◌, ◌-◌, ◌*◌, ◌/◌, ◌%◌, max, Bool, true, false, cond, not, List, [], ◌∷◌, ◌++◌, replicate, ◌==◌}
use Rattle.std.proofs.lemmas.List.Edits.{sets}
use Rattle.words.specs.declared.types.Dwc2Pid.{Dwc2Pid}
use Rattle.words.specs.declared.types.Dwc2Pid.TheVariants.{Data0, Data1}
use Rattle.words.specs.Field.{get}
use Rattle.words.specs.Words.{packets, initial_len, chain_status, setup_status, hctsiz_word, is_set, packet_size, direction_in}
use Rattle.plan.specs.declared.split.DmaSplit.{DmaSplit}
use Rattle.plan.specs.declared.types.Dwc2TransferStage.{Dwc2TransferStage}
use Rattle.plan.specs.declared.types.Dwc2StageRole.{Dwc2StageRole}
use Rattle.plan.specs.declared.types.Dwc2StageRole.TheVariants.{Data, ControlSetup, ControlData, ControlStatus}

-- "The chunk is the largest multiple of m not above 131,071 − (m − 1)", where "packet size m is the given one, raised to 1"
abbrev pub chunk_of : ℕ → ℕ
chunk_of m = (131_071 - (max 1 m - 1)) / max 1 m * max 1 m

-- "Full chunks come first and the last is never empty; length 0 is one chunk of 0."
abbrev pub split_of : ℕ → ℕ → DmaSplit
split_of len m =
    record { chunk = chunk_of m; count = packets len (chunk_of m); last = len - (packets len (chunk_of m) - 1) * chunk_of m }

-- the lengths of the descriptors of a transfer
abbrev pub lengths : ℕ → ℕ → List ℕ
lengths len m = replicate ((split_of len m).count - 1) (chunk_of m) ++ ((split_of len m).last ∷ [])

-- the bytes that a list of lengths comes to
abbrev pub sum : List ℕ → ℕ
sum [] = 0
sum (l ∷ ls) = l + sum ls

-- DATA0 or DATA1
abbrev pub pid_of_toggle : Bool → Dwc2Pid
pid_of_toggle false = Data0
pid_of_toggle true = Data1

-- "A stage of b bytes is max(1, ceil(b/m)) packets, and the toggle flips when that is odd."
abbrev pub advanced : Bool → ℕ → Bool
advanced t n = cond (n % 2 == 1) (not t) t

-- a stage: HCTSIZ follows from the PID and the number of descriptors
abbrev pub stage_of : Dwc2StageRole → ℕ → Dwc2Pid → ℕ → ℕ → ℕ → ℕ → Dwc2TransferStage
stage_of role hcchar pid addr base descs len =
    record {
      role = role;
      hcchar = hcchar;
      hctsiz = hctsiz_word pid descs 0;
      dma_addr = addr;
      desc_base = base;
      descs = descs;
      len = len;
    }

-- the words of a chain of descriptors, status and address each: all but the last take the chunk; only the last has interrupt and end of list
abbrev pub chain_words : ℕ → Bool → ℕ → ℕ → ℕ → List ℕ
chain_words m is_in zero len addr = []
chain_words m is_in (suc zero) len addr = chain_status (initial_len len m is_in) true ∷ addr ∷ []
chain_words m is_in (suc (suc n)) len addr =
    chain_status (initial_len (chunk_of m) m is_in) false ∷ addr ∷ chain_words m is_in (suc n) (len - chunk_of m) (addr + chunk_of m)

-- "Setup is 0x87000008"; any other role is a chain, with the packet size and the direction of the stage's HCCHAR
abbrev pub role_words : Dwc2StageRole → Dwc2TransferStage → List ℕ
role_words Data s = chain_words (get packet_size s.hcchar) (is_set direction_in s.hcchar) s.descs s.len s.dma_addr
role_words ControlSetup s = setup_status ∷ s.dma_addr ∷ []
role_words ControlData s = chain_words (get packet_size s.hcchar) (is_set direction_in s.hcchar) s.descs s.len s.dma_addr
role_words ControlStatus s = chain_words (get packet_size s.hcchar) (is_set direction_in s.hcchar) s.descs s.len s.dma_addr

abbrev pub stage_words : Dwc2TransferStage → List ℕ
stage_words s = role_words s.role s

-- "Each stage writes its descriptors into its own stretch of the caller's array": two words a descriptor, from its own first one on
abbrev pub laid_stage : Dwc2TransferStage → List ℕ → List ℕ
laid_stage s array = sets array (2 * s.desc_base) (stage_words s)

abbrev pub laid_out : List Dwc2TransferStage → List ℕ → List ℕ
laid_out [] array = array
laid_out (s ∷ ss) array = laid_out ss (laid_stage s array)
