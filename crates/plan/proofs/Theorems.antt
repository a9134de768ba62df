-- The descriptors of whole bulk and interrupt plans, for every request that is planned and every array that is lent: where each points and what it
-- counts, that together they cover the buffer, and what stays as it was.
use Rattle.std.proofs.Common.{◌≡◌, ℕ, zero, suc, ◌+◌, ◌-◌, ◌*◌, ◌%◌, ◌<◌, ◌≤◌, Bool, true, false, eqb, List, [], ◌∷◌, length, get_or, take, sym, refl, ap, ◌∙◌, mod-eq_of_lt, suc-mul, add-mul, one-mul, zero-add, zero-mul, arith}
use Rattle.std.specs.Prelude.{Ok}
use mathlib.Core.Path.{subst⁻¹}
use Rattle.words.specs.Field.{get}
use Rattle.words.specs.Numbers.{flag_of, direction_number}
use Rattle.words.specs.Words.{initial_len, chain_status, is_set, direction_in, byte_count, active, end_of_list, interrupt}
use Rattle.words.specs.declared.types.Direction.{Direction}
use Rattle.words.specs.declared.types.Direction.TheVariants.{Out, In}
use Rattle.words.proofs.Laws.Words.{chain_fields, hcchar_fields}
use Rattle.plan.specs.declared.types.DataRequest.{DataRequest}
use Rattle.plan.specs.Planning.{chunk_of, split_of, lengths, sum, laid_out}
use Rattle.plan.specs.DataStages.{is_in, is_low, ep_type_of, odd_of, size_of, data_hcchar, data_stages, data_answer, data_array}
use Rattle.plan.proofs.Laws.Data.{chunk_small, hcchar_size, Accepted, accepted}
use Rattle.plan.proofs.Laws.Layout.{ends, Filled, stages_laid}
use Rattle.plan.proofs.Laws.Split.{packets_some, parts_within, rounded_fits, each_within, lengths_count, lengths_full, lengths_last}

-- ---- what the theorems speak of

-- the number of descriptors, and their lengths
abbrev pub count_of : DataRequest → ℕ
count_of r = (split_of r.len (size_of r)).count

abbrev pub lengths_of : DataRequest → List ℕ
lengths_of r = lengths r.len (size_of r)

-- the length of descriptor k, and the bytes of those before it
abbrev pub length_at : DataRequest → ℕ → ℕ
length_at r k = get_or (lengths_of r) k 0

abbrev pub bytes_before : DataRequest → ℕ → ℕ
bytes_before r k = sum (take k (lengths_of r))

-- the two words of descriptor k
abbrev pub status_at : List ℕ → ℕ → ℕ
status_at array k = get_or array (2 * k) 0

abbrev pub address_at : List ℕ → ℕ → ℕ
address_at array k = get_or array (2 * k + 1) 0

-- `ends k n`, from the laws of the layout, is true where descriptor k of n ends a stage: k + 1 is a multiple of 256, or n

-- ---- what they lean on

-- equal lengths come to their multiple
sum_equal : (l : List ℕ) (c k : ℕ) → k ≤ length l → ((i : ℕ) → i < k → get_or l i 0 ≡ c) → sum (take k l) ≡ k * c
sum_equal l c zero h f = sym (zero-mul c)
sum_equal [] c (suc k) h f = absurd (omega arith)
sum_equal (x ∷ l) c (suc k) h f =
    omega (arith, f 0 (omega arith), sum_equal l c k (omega arith) (λ i b. f (suc i) (omega arith)), suc-mul k c)

-- each length before a descriptor of the plan is the chunk
pub before_is : (r : DataRequest) (k : ℕ) → k < count_of r → bytes_before r k ≡ k * chunk_of (size_of r)
before_is r k h =
    sum_equal (lengths_of r) (chunk_of (size_of r)) k (omega (arith, lengths_count r.len (size_of r))) (λ i l. lengths_full r.len (size_of r) i (omega arith))

-- the direction that a channel is programmed with is the request's
hcchar_way : (r : DataRequest) → is_set direction_in (data_hcchar r) ≡ is_in r.direction
hcchar_way r =
    ap (λ (x : ℕ). eqb x 1)
    (hcchar_fields r.device r.endpoint r.direction (ep_type_of r.kind) (size_of r) (is_low r.port_speed) 1 (odd_of r.kind r.odd_frame) 2
    (omega arith))
    ∙ go r.direction
  where
    go : (d : Direction) → eqb (direction_number d % 2) 1 ≡ is_in d
    go Out = refl
    go In = refl

-- a flag in a field of one bit is read back as it is
flag_read : (b : Bool) → flag_of b % 2 ≡ flag_of b
flag_read true = refl
flag_read false = refl

-- a length that a field of 17 bits holds
count_fits : (l m : ℕ) (i : Bool) → l ≤ chunk_of m → m ≤ 65_536 → initial_len l m i < 131_072
count_fits l m true h small = omega (arith, rounded_fits m small l h)
count_fits l m false h small = omega (arith, chunk_small m)

module _ (r : DataRequest) (a : List ℕ) (e : data_answer r (length a) ≡ Ok tt) where
  -- what the tests leave of the request's numbers
  facts : Accepted r (length a)
  facts = accepted r (length a) e

  -- The array that is left is the one that those stages are laid out in.
  pub array_is : data_array r a ≡ laid_out (data_stages r) a
  array_is = rw e

  -- every descriptor of the plan, word by word
  filled : Filled r.len (size_of r) (is_in r.direction) r.base 0 (count_of r) a (data_array r a)
  filled =
      let f = facts in
      let none : 0 * chunk_of (size_of r) ≡ 0 = zero-mul (chunk_of (size_of r)) in
      subst⁻¹ (Filled r.len (size_of r) (is_in r.direction) r.base 0 (count_of r) a) array_is
      (stages_laid (data_hcchar r) (size_of r) (is_in r.direction) (hcchar_size r f.size) (hcchar_way r) r.len r.base 4 (count_of r) r.len r.base
      0 r.toggle.0 a
      (packets_some r.len (chunk_of (size_of r))) (omega arith) (zero-add (count_of r)) (omega arith) (omega arith) refl (omega arith))

  -- ---- addresses

  -- The address of a descriptor is the base plus the lengths of all descriptors before it, those of earlier stages too. This excludes version
  -- one's failure: after a dip a long write went on at the wrong buffer offset.
  pub offset : (k : ℕ) → k < count_of r → address_at (data_array r a) k ≡ r.base + bytes_before r k
  offset k h = filled.addresses k (omega arith) h ∙ ap (λ (x : ℕ). r.base + x) (sym (before_is r k h))

  -- The descriptors cover the buffer without gap or overlap, as this and the next two say. The first begins where the buffer begins.
  pub cover_first : address_at (data_array r a) 0 ≡ r.base
  cover_first = filled.addresses 0 (omega arith) (packets_some r.len (chunk_of (size_of r))) ∙ omega (arith, zero-mul (chunk_of (size_of r)))

  -- Each descriptor ends where the next one begins: no byte is left out, and none belongs to two.
  pub cover_next : (k : ℕ) → k + 1 < count_of r → address_at (data_array r a) k + length_at r k ≡ address_at (data_array r a) (k + 1)
  cover_next k h =
      omega (
        arith,
        filled.addresses k (omega arith) (omega arith),
        filled.addresses (k + 1) (omega arith) h,
        lengths_full r.len (size_of r) k h,
        add-mul k 1 (chunk_of (size_of r)),
        one-mul (chunk_of (size_of r)),
      )

  -- The last one ends where the buffer ends: nothing is cut off, and no length goes beyond it.
  pub cover_last : address_at (data_array r a) (count_of r - 1) + length_at r (count_of r - 1) ≡ r.base + r.len
  cover_last =
      let some : 0 < count_of r = packets_some r.len (chunk_of (size_of r)) in
      omega (arith, filled.addresses (count_of r - 1) (omega arith) (omega arith), lengths_last r.len (size_of r), parts_within r.len (chunk_of (size_of r)))

  -- ---- the rest of the array

  -- The words behind the plan stay as they were: a plan writes its own descriptors and no other word.
  pub behind : (j : ℕ) → 2 * count_of r ≤ j → get_or (data_array r a) j 0 ≡ get_or a j 0
  behind j h = filled.behind j h

  -- The array is as long as it came.
  pub same_length : length (data_array r a) ≡ length a
  same_length = filled.size

  -- ---- status words

  -- The status word of a descriptor counts its own length, rounded up to whole packets for IN, and marks the last descriptor of each stage:
  -- each 256th, and the very last.
  pub counts :
      (k : ℕ) → k < count_of r → status_at (data_array r a) k ≡ chain_status (initial_len (length_at r k) (size_of r) (is_in r.direction)) (ends k (count_of r))
  counts k h = filled.statuses k (omega arith) h

  -- The byte count in it is that length: the field of 17 bits cuts nothing off.
  pub count_read : (k : ℕ) → k < count_of r → get byte_count (status_at (data_array r a) k) ≡ initial_len (length_at r k) (size_of r) (is_in r.direction)
  count_read k h =
      let f = facts in
      let small : size_of r ≤ 65_536 = omega arith in
      ap (get byte_count) (counts k h) ∙ chain_fields (initial_len (length_at r k) (size_of r) (is_in r.direction)) (ends k (count_of r)) 0 (omega arith)
      ∙ mod-eq_of_lt (count_fits (length_at r k) (size_of r) (is_in r.direction) (each_within r.len (size_of r) small k h) small)

  -- Every descriptor is active, so that the controller leaves none out.
  pub active_read : (k : ℕ) → k < count_of r → get active (status_at (data_array r a) k) ≡ 1
  active_read k h =
      ap (get active) (counts k h) ∙ chain_fields (initial_len (length_at r k) (size_of r) (is_in r.direction)) (ends k (count_of r)) 3 (omega arith)

  -- End of list stands exactly where a stage ends: the controller neither stops early nor runs on into the next stage.
  pub end_read : (k : ℕ) → k < count_of r → get end_of_list (status_at (data_array r a) k) ≡ flag_of (ends k (count_of r))
  end_read k h =
      ap (get end_of_list) (counts k h) ∙ chain_fields (initial_len (length_at r k) (size_of r) (is_in r.direction)) (ends k (count_of r)) 2 (omega arith)
      ∙ flag_read (ends k (count_of r))

  -- So does the interrupt: a stage asks for one, at its end.
  pub interrupt_read : (k : ℕ) → k < count_of r → get interrupt (status_at (data_array r a) k) ≡ flag_of (ends k (count_of r))
  interrupt_read k h =
      ap (get interrupt) (counts k h) ∙ chain_fields (initial_len (length_at r k) (size_of r) (is_in r.direction)) (ends k (count_of r)) 1 (omega arith)
      ∙ flag_read (ends k (count_of r))
