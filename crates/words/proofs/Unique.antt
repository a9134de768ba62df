-- Each public function's promise leaves one answer: two that keep it, at the same arguments, are equal. Each line is over the
-- function's own contract, so it fails where the promise is weakened. Assumes nothing.
use Prim.Native.Nat.{ℕ}
use mathlib.Core.List.{List}
use mathlib.Core.Path.{◌≡◌, refl, sym, ◌∙◌, ap}
use contract.Lifetimes.{Lfts}
use denote.Triple.Clauses.{Lasts, at_exit}
use borrow.Fn.Kinds.{ParamKind, ResultKind, Out, Dens, res_t, ended_of}
use Rattle.words.proofs.address
use Rattle.words.proofs.channel
use Rattle.words.proofs.descriptor
use Rattle.words.proofs.descriptor.DmaDescriptor
use Rattle.words.proofs.interrupt
use Rattle.words.proofs.lent
use Rattle.words.proofs.numbers

-- a promise fixes the result, and what lies behind each reference at the exit
abbrev pub Unique : (n : ℕ) (ps : List (ParamKind n)) (r : ResultKind n) → Out n ps r → Type 0
Unique n ps r Post =
    (κs : Lfts n) (a : Dens κs ps) (x y : (res_t r κs).Denot) (u v : Lasts (ended_of n ps r) κs a)
    → Post κs a x (at_exit (ended_of n ps r) κs a u)
    → Post κs a y (at_exit (ended_of n ps r) κs a v)
    → (x ≡ y) × (u ≡ v)

-- a promise that is an equation of the result
pub equal : {A L : Type 0} {x y e : A} {u v : L} → u ≡ v → x ≡ e → y ≡ e → (x ≡ y) × (u ≡ v)
equal l p q = (p ∙ sym q, l)

-- one of what a lent slice holds at the exit, where there is no result
pub equal_lent : {L : Type 0} {x y : Unit {0}} {l m n : List ℕ} (at : List ℕ → L) → m ≡ l → n ≡ l → (x ≡ y) × (at m ≡ at n)
equal_lent at p q = (refl, ap at (p ∙ sym q))

-- one of the result and of what one, two or three lent slices hold at the exit; `at` puts them in the places of their arguments
pub equal_both :
    {A L : Type 0} {x y e : A} {l m n : List ℕ} (at : List ℕ → L) → (x ≡ e) × (m ≡ l) → (y ≡ e) × (n ≡ l) → (x ≡ y) × (at m ≡ at n)
equal_both at p q = (p.0 ∙ sym q.0, ap at (p.1 ∙ sym q.1))

pub equal_all :
    {A L : Type 0} {x y e : A} {l m n k o q : List ℕ} (at : List ℕ → List ℕ → L) → (x ≡ e) × (m ≡ l) × (o ≡ k) → (y ≡ e) × (n ≡ l) × (q ≡ k)
    → (x ≡ y) × (at m o ≡ at n q)
equal_all {n = n} {o = o} at f g =
    (f.0 ∙ sym g.0, ap (λ (words : List ℕ). at words o) (f.1 ∙ sym g.1) ∙ ap (at n) (f.2 ∙ sym g.2))

pub equal_three :
    {A L : Type 0} {x y e : A} {l m n k o q i j r : List ℕ} (at : List ℕ → List ℕ → List ℕ → L)
    → (x ≡ e) × (m ≡ l) × (o ≡ k) × (j ≡ i)
    → (y ≡ e) × (n ≡ l) × (q ≡ k) × (r ≡ i)
    → (x ≡ y) × (at m o j ≡ at n q r)
equal_three {n = n} {o = o} {q = q} {j = j} at f g = (
  f.0 ∙ sym g.0,
  ap (λ (words : List ℕ). at words o j) (f.1 ∙ sym g.1) ∙ ap (λ (words : List ℕ). at n words j) (f.2 ∙ sym g.2) ∙ ap (at n q) (f.3 ∙ sym g.3),
)

pub is_beyond_unique : Unique 0 address.is_beyond.Kinds.ps address.is_beyond.Kinds.r address.is_beyond.Reads.Post
is_beyond_unique κs a x y u v = equal refl

pub hcchar_unique : Unique 0 channel.hcchar.Kinds.ps channel.hcchar.Kinds.r channel.hcchar.Reads.Post
hcchar_unique κs a x y u v = equal refl

pub hctsiz_ddma_unique : Unique 0 channel.hctsiz_ddma.Kinds.ps channel.hctsiz_ddma.Kinds.r channel.hctsiz_ddma.Reads.Post
hctsiz_ddma_unique κs a x y u v = equal refl

pub initial_len_unique : Unique 0 descriptor.initial_len.Kinds.ps descriptor.initial_len.Kinds.r descriptor.initial_len.Reads.Post
initial_len_unique κs a x y u v = equal refl

pub moved_length_unique : Unique 0 descriptor.moved_length.Kinds.ps descriptor.moved_length.Kinds.r descriptor.moved_length.Reads.Post
moved_length_unique κs a x y u v = equal refl

pub new_iso_unique : Unique 0 DmaDescriptor.new_iso.Kinds.ps DmaDescriptor.new_iso.Kinds.r DmaDescriptor.new_iso.Reads.Post
new_iso_unique κs a x y u v = equal refl

pub new_setup_unique : Unique 0 DmaDescriptor.new_setup.Kinds.ps DmaDescriptor.new_setup.Kinds.r DmaDescriptor.new_setup.Reads.Post
new_setup_unique κs a x y u v = equal refl

pub new_in_unique : Unique 0 DmaDescriptor.new_in.Kinds.ps DmaDescriptor.new_in.Kinds.r DmaDescriptor.new_in.Reads.Post
new_in_unique κs a x y u v = equal refl

pub new_out_unique : Unique 0 DmaDescriptor.new_out.Kinds.ps DmaDescriptor.new_out.Kinds.r DmaDescriptor.new_out.Reads.Post
new_out_unique κs a x y u v = equal refl

pub is_active_unique : Unique 0 DmaDescriptor.is_active.Kinds.ps DmaDescriptor.is_active.Kinds.r DmaDescriptor.is_active.Reads.Post
is_active_unique κs a x y u v = equal refl

pub remaining_unique : Unique 0 DmaDescriptor.remaining.Kinds.ps DmaDescriptor.remaining.Kinds.r DmaDescriptor.remaining.Reads.Post
remaining_unique κs a x y u v = equal refl

pub iso_remaining_unique : Unique 0 DmaDescriptor.iso_remaining.Kinds.ps DmaDescriptor.iso_remaining.Kinds.r DmaDescriptor.iso_remaining.Reads.Post
iso_remaining_unique κs a x y u v = equal refl

pub iso_status_error_unique : Unique 0 DmaDescriptor.iso_status_error.Kinds.ps DmaDescriptor.iso_status_error.Kinds.r DmaDescriptor.iso_status_error.Reads.Post
iso_status_error_unique κs a x y u v = equal refl

pub hcint_xfercompl_unique : Unique 0 interrupt.hcint_xfercompl.Kinds.ps interrupt.hcint_xfercompl.Kinds.r interrupt.hcint_xfercompl.Reads.Post
hcint_xfercompl_unique κs a x y u v = equal refl

pub hcint_chhltd_unique : Unique 0 interrupt.hcint_chhltd.Kinds.ps interrupt.hcint_chhltd.Kinds.r interrupt.hcint_chhltd.Reads.Post
hcint_chhltd_unique κs a x y u v = equal refl

pub hcint_fault_unique : Unique 0 interrupt.hcint_fault.Kinds.ps interrupt.hcint_fault.Kinds.r interrupt.hcint_fault.Reads.Post
hcint_fault_unique κs a x y u v = equal refl

pub iso_hcintmsk_unique : Unique 0 interrupt.iso_hcintmsk.Kinds.ps interrupt.iso_hcintmsk.Kinds.r interrupt.iso_hcintmsk.Reads.Post
iso_hcintmsk_unique κs a x y u v = equal refl

pub put_word_unique : Unique 1 lent.put_word.Kinds.ps lent.put_word.Kinds.r lent.put_word.Reads.Post
put_word_unique κs a x y u v = equal_lent (λ (words : List ℕ). (words, (tt, (tt, tt))))

pub status_at_unique : Unique 1 lent.status_at.Kinds.ps lent.status_at.Kinds.r lent.status_at.Reads.Post
status_at_unique κs a x y u v = equal refl

pub is_active_at_unique : Unique 1 lent.is_active_at.Kinds.ps lent.is_active_at.Kinds.r lent.is_active_at.Reads.Post
is_active_at_unique κs a x y u v = equal refl

pub clear_slot_unique : Unique 1 lent.clear_slot.Kinds.ps lent.clear_slot.Kinds.r lent.clear_slot.Reads.Post
clear_slot_unique κs a x y u v = equal_lent (λ (words : List ℕ). (words, (tt, tt)))

pub direction_number_unique : Unique 0 numbers.U32FromDirection.from.Kinds.ps numbers.U32FromDirection.from.Kinds.r numbers.U32FromDirection.from.Reads.Post
direction_number_unique κs a x y u v p q = equal refl p.0 q.0

pub ep_type_number_unique : Unique 0 numbers.U32FromDwc2EpType.from.Kinds.ps numbers.U32FromDwc2EpType.from.Kinds.r numbers.U32FromDwc2EpType.from.Reads.Post
ep_type_number_unique κs a x y u v p q = equal refl p.0 q.0

pub pid_number_unique : Unique 0 numbers.U32FromDwc2Pid.from.Kinds.ps numbers.U32FromDwc2Pid.from.Kinds.r numbers.U32FromDwc2Pid.from.Reads.Post
pid_number_unique κs a x y u v p q = equal refl p.0 q.0

pub fault_number_unique : Unique 0 numbers.U32FromDwc2TransferFault.from.Kinds.ps numbers.U32FromDwc2TransferFault.from.Kinds.r numbers.U32FromDwc2TransferFault.from.Reads.Post
fault_number_unique κs a x y u v p q = equal refl p.0 q.0
