-- The laws of a chain of descriptors: one descriptor and the rest of the chain, stored and counted back, and what a stage that a planner
-- makes leans on. Assumes nothing.
use Rattle.std.proofs.Common.{◌≡◌, ℕ, zero, suc, ◌+◌, ◌-◌, ◌*◌, ◌<◌, ◌≤◌, min, Bool, true, false, not, eqb, ltb, List, [], ◌∷◌, ◌++◌, length, get_or, take, drop, set, sym, refl, ap, ◌∙◌, ap₂, append_assoc, append-nil, add_assoc, add-mul, mul-le-mul_right, one-mul, zero-add, arith, length-drop, drop-drop, ltb-false, eqb-true}
use Rattle.std.specs.Prelude.{Ok}
use lib.Seq.{sets, sets-eq, take-length, drop-length}
use borrow.Author.Tests.{not-false}
use Rattle.words.specs.Field.{get}
use Rattle.words.specs.Words.{packets, initial_len, chain_status, is_set, packet_size, direction_in, byte_count}
use Rattle.words.specs.declared.descriptor.DmaDescriptor.{DmaDescriptor}
use Rattle.plan.specs.declared.types.Dwc2TransferStage.{Dwc2TransferStage}
use Rattle.plan.specs.declared.types.Dwc2StageRole.{Dwc2StageRole}
use Rattle.plan.specs.declared.types.Dwc2StageRole.TheVariants.{Data, ControlSetup, ControlData, ControlStatus}
use Rattle.plan.specs.declared.refusals.PlanRefusal.TheVariants.{ShortBuffer, BadEndpoint}
use Rattle.plan.specs.Refusals.{◌⇒◌, is_short}
use Rattle.plan.specs.Planning.{chunk_of, chain_words, role_words, stage_words}
use Rattle.plan.specs.StageLength.{ChainFits, link_of, link_moved, chain_moved, is_forged, stage_answer}
use Rattle.words.proofs.Laws.Tests.{neither}
use Rattle.plan.proofs.Laws.Refusals.{none_holds}
use Rattle.plan.proofs.Laws.Split.{packets_some, parts_within, rounded_within, rounded_more}

-- ---- lists

-- two stores, and those that follow
pub sets_two : (l : List ℕ) (i a b : ℕ) (vs : List ℕ) → sets l i (a ∷ b ∷ vs) ≡ sets (set (set l i a) (i + 1) b) (i + 2) vs
sets_two l i a b vs =
    let one : suc i ≡ i + 1 = omega arith in
    let two : suc (suc i) ≡ i + 2 = omega arith in
    ap₂ (λ (j k : ℕ). sets (set (set l i a) j b) k vs) one two

-- stores into the part of a list from i on are stores into the list from i on
pub sets_part :
    (l vs : List ℕ) (i : ℕ) → i + length vs ≤ length l
    → take i l ++ (sets (take (length l - i) (drop i l)) 0 vs ++ drop (length l - i) (drop i l)) ≡ sets l i vs
sets_part l vs i h =
    let n : length l - i ≡ length (drop i l) = sym (length-drop i l) in
    rw (n, take-length, drop-length, append-nil, sets-eq vs (drop i l) 0 (omega (arith, length-drop i l)), sets-eq vs l i h, drop-drop, zero-add)
    (sym (append_assoc (take i l) vs (drop (i + length vs) l)))

-- ---- a chain

-- one descriptor, and the rest of the chain
pub chain_more : (m : ℕ) (is_in : Bool) (left rest buf : ℕ) → 1 < left
    → chain_words m is_in left rest buf
    ≡ chain_status (initial_len (chunk_of m) m is_in) false ∷ buf ∷ chain_words m is_in (left - 1) (rest - chunk_of m) (buf + chunk_of m)
chain_more m is_in zero rest buf h = absurd (omega arith)
chain_more m is_in (suc zero) rest buf h = absurd (omega arith)
chain_more m is_in (suc (suc n)) rest buf h =
    let e : suc n ≡ suc (suc n) - 1 = omega arith in
    ap (λ (k : ℕ). chain_status (initial_len (chunk_of m) m is_in) false ∷ buf ∷ chain_words m is_in k (rest - chunk_of m) (buf + chunk_of m)) e

-- so many chunks are within a length that more of them are within
pub chunks_fit : (i n k len : ℕ) → i ≤ n → n * k ≤ len → i * k ≤ len
chunks_fit i n k len h f = omega (arith, mul-le-mul_right k h)

-- one chunk more
pub chunk_more : (i k : ℕ) → (i + 1) * k ≡ i * k + k
chunk_more i k = omega (arith, add-mul i 1 k, one-mul k)

-- the words of a chain from descriptor i on, where k bytes are a chunk
abbrev pub chain_from : ℕ → ℕ → Bool → ℕ → ℕ → ℕ → ℕ → List ℕ
chain_from m k is_in descs len addr i = chain_words m is_in (descs - i) (len - i * k) (addr + i * k)

-- descriptor i is stored: what is behind it in the chain, stored behind it, gives the whole
pub store_more : (m k : ℕ) (is_in : Bool) (descs len addr i : ℕ) (l l' : List ℕ) (d : DmaDescriptor) → i + 1 < descs → k ≡ chunk_of m
    → d ≡ link_of (addr + i * k) k m is_in false
    → l' ≡ set (set l (2 * i) d.status) (2 * i + 1) d.paddr
    → sets l' (2 * (i + 1)) (chain_from m k is_in descs len addr (i + 1)) ≡ sets l (2 * i) (chain_from m k is_in descs len addr i)
store_more m k is_in descs len addr i l l' d h e f g =
    let s : ℕ = chain_status (initial_len (chunk_of m) m is_in) false in
    let at : 2 * (i + 1) ≡ 2 * i + 2 = omega arith in
    let n : descs - (i + 1) ≡ descs - i - 1 = omega arith in
    let r : len - (i + 1) * k ≡ len - i * k - chunk_of m = omega (arith, chunk_more i k) in
    let b : addr + (i + 1) * k ≡ addr + i * k + chunk_of m = omega (arith, chunk_more i k) in
    let put : l' ≡ set (set l (2 * i) s) (2 * i + 1) (addr + i * k) =
    g ∙ ap (λ (d : DmaDescriptor). set (set l (2 * i) d.status) (2 * i + 1) d.paddr) (f ∙ ap (λ (x : ℕ). link_of (addr + i * k) x m is_in false) e) in
    (λ j. sets (put j) (at j) (chain_words m is_in (n j) (r j) (b j)))
    ∙ sym (sets_two l (2 * i) s (addr + i * k) (chain_words m is_in (descs - i - 1) (len - i * k - chunk_of m) (addr + i * k + chunk_of m)))
    ∙ ap (sets l (2 * i)) (sym (chain_more m is_in (descs - i) (len - i * k) (addr + i * k) (omega arith)))

pub chain_last : (m : ℕ) (is_in : Bool) (left rest buf : ℕ) → left ≡ 1 → chain_words m is_in left rest buf ≡ chain_status (initial_len rest m is_in) true ∷ buf ∷ []
chain_last m is_in left rest buf e = rw e

pub store_last : (m : ℕ) (is_in : Bool) (left rest buf at : ℕ) (l l' : List ℕ) (d : DmaDescriptor) → left ≡ 1 → d ≡ link_of buf rest m is_in true
    → l' ≡ set (set l at d.status) (at + 1) d.paddr → l' ≡ sets l at (chain_words m is_in left rest buf)
store_last m is_in left rest buf at l l' d h f g =
    rw (g, f, chain_last m is_in left rest buf h) (sym (sets_two l at (chain_status (initial_len rest m is_in) true) buf []))

-- a chunk is whole packets: a descriptor that takes one is not rounded up
pub full_moved : (m k status : ℕ) → m ≤ 65_536 → k ≡ chunk_of m → k - get byte_count status ≡ link_moved k m status
full_moved m k status small e =
    let above : chunk_of m ≤ initial_len (chunk_of m) m true = rounded_more (chunk_of m) m true in
    let below : initial_len (chunk_of m) m true ≤ chunk_of m = rounded_within m small (chunk_of m) (omega arith) in
    let whole : initial_len (chunk_of m) m true ≡ chunk_of m = omega arith in
    let same : chunk_of m - get byte_count status ≡ min (chunk_of m) (chunk_of m - get byte_count status) = omega arith in
    ap (λ (x : ℕ). x - get byte_count status) e
    ∙ same
    ∙ ap (λ (x : ℕ). min (chunk_of m) (x - get byte_count status)) (sym whole)
    ∙ ap (λ (x : ℕ). link_moved x m status) (sym e)

-- what the descriptors of a chain moved from descriptor i on
abbrev pub moved_from : ℕ → ℕ → List ℕ → ℕ → ℕ → ℕ → ℕ → ℕ
moved_from m k array base descs len i = chain_moved m array (descs - i) (base + i) (len - i * k)

moved_more : (m : ℕ) (array : List ℕ) (left at rest : ℕ) → 1 < left
    → chain_moved m array left at rest ≡ link_moved (chunk_of m) m (get_or array (2 * at) 0) + chain_moved m array (left - 1) (at + 1) (rest - chunk_of m)
moved_more m array zero at rest h = absurd (omega arith)
moved_more m array (suc zero) at rest h = absurd (omega arith)
moved_more m array (suc (suc n)) at rest h =
    let e : suc n ≡ suc (suc n) - 1 = omega arith in
    ap (λ (k : ℕ). link_moved (chunk_of m) m (get_or array (2 * at) 0) + chain_moved m array k (at + 1) (rest - chunk_of m)) e

-- descriptor i is counted: what is behind it in the chain, counted on top of it, gives the whole
pub count_more : (m k : ℕ) (array : List ℕ) (base descs len i total r : ℕ) → i + 1 < descs → k ≡ chunk_of m
    → r ≡ link_moved k m (get_or array (2 * (base + i)) 0)
    → total + r + moved_from m k array base descs len (i + 1) ≡ total + moved_from m k array base descs len i
count_more m k array base descs len i total r h e f =
    let x : ℕ = link_moved (chunk_of m) m (get_or array (2 * (base + i)) 0) in
    let n : descs - (i + 1) ≡ descs - i - 1 = omega arith in
    let at : base + (i + 1) ≡ base + i + 1 = omega arith in
    let q : len - (i + 1) * k ≡ len - i * k - chunk_of m = omega (arith, chunk_more i k) in
    let same : r ≡ x = f ∙ ap (λ (k : ℕ). link_moved k m (get_or array (2 * (base + i)) 0)) e in
    (λ j. total + same j + chain_moved m array (n j) (at j) (q j))
    ∙ add_assoc total x (chain_moved m array (descs - i - 1) (base + i + 1) (len - i * k - chunk_of m))
    ∙ ap (λ (y : ℕ). total + y) (sym (moved_more m array (descs - i) (base + i) (len - i * k) (omega arith)))

pub count_last : (m : ℕ) (array : List ℕ) (left at rest total r : ℕ) → left ≡ 1 → r ≡ link_moved rest m (get_or array (2 * at) 0)
    → total + r ≡ total + chain_moved m array left at rest
count_last m array left at rest total r h f = rw (f, h)

-- two words a descriptor
pub length_chain : (m : ℕ) (is_in : Bool) (n len addr : ℕ) → length (chain_words m is_in n len addr) ≡ 2 * n
length_chain m is_in zero len addr = refl
length_chain m is_in (suc zero) len addr = refl
length_chain m is_in (suc (suc n)) len addr = omega (arith, length_chain m is_in (suc n) (len - chunk_of m) (addr + chunk_of m))

-- ---- a stage

-- two words a descriptor at most: a setup stage has one descriptor
long :
    (s : Dwc2TransferStage)
    → length (chain_words (get packet_size s.hcchar) (is_set direction_in s.hcchar) s.descs s.len s.dma_addr) ≤ 2 * s.descs
long s = omega (arith, length_chain (get packet_size s.hcchar) (is_set direction_in s.hcchar) s.descs s.len s.dma_addr)

length_role : (r : Dwc2StageRole) (s : Dwc2TransferStage) → 0 < s.descs → length (role_words r s) ≤ 2 * s.descs
length_role Data s h = long s
length_role ControlSetup s h = omega arith
length_role ControlData s h = long s
length_role ControlStatus s h = long s

pub length_stage : (s : Dwc2TransferStage) → 0 < s.descs → length (stage_words s) ≤ 2 * s.descs
length_stage s h = length_role s.role s h

-- what its chain leans on
pub planned_fits : (s : Dwc2TransferStage) (words : ℕ) → s.len ≤ 4_294_967_295 → stage_answer s words ≡ Ok tt
    → ChainFits (get packet_size s.hcchar) s.descs s.len 0 (words - 2 * s.desc_base)
planned_fits s words h e =
    let p : ℕ = chunk_of (get packet_size s.hcchar) in
    let passed = none_holds (is_short words ⇒ ShortBuffer ∷ is_forged s ⇒ BadEndpoint ∷ []) e in
    let sized = neither (eqb (get packet_size s.hcchar) 0) _ passed.1.0 in
    let few = neither (ltb 256 s.descs) _ sized.1 in
    let last = neither (ltb 1024 (s.desc_base + s.descs)) (not (eqb s.descs (packets s.len p))) few.1 in
    let long : 2048 ≤ words = ltb-false words 2048 passed.0 in
    let near : s.desc_base + s.descs ≤ 1024 = ltb-false 1024 (s.desc_base + s.descs) last.0 in
    let count : s.descs ≡ packets s.len p = eqb-true s.descs (packets s.len p) (not-false (eqb s.descs (packets s.len p)) last.1) in
    record {
      some = rw count (packets_some s.len p);
      room = omega arith;
      full = rw count (parts_within s.len p);
      reach = omega arith;
    }
