-- One entry of a table: what the code reads field by field is the entry that the rest begins with, and what it writes field by field is the
-- entry's bytes.
use Rattle.std.proofs.Common.{◌≡◌, ℕ, zero, suc, ◌+◌, ◌*◌, ◌<◌, ◌≤◌, Bool, false, ltb, List, [], ◌∷◌, ◌++◌, length, get_or, take, drop, sym, refl, ap, ◌∙◌, ap₂, arith, get_or-drop, get_or-take, drop-drop, ltb-false}
use lib.Seq.{sets}
use Rattle.session.specs.Reclaim.{error_bit, result_word}
use Rattle.session.specs.declared.types.IsoOutcome.{IsoOutcome}
use Rattle.session.specs.declared.types.TransferStatus.{TransferStatus}
use Rattle.session.specs.declared.types.IsoRequest.{IsoRequest}
use Rattle.session.specs.declared.types.IsoPacketPlan.{IsoPacketPlan}
use Rattle.port.specs.declared.tags.Tagged.{Tagged}
use Rattle.port.specs.Bytes.{byte_of, u16_of, u32_of, u64_of, u16_bytes, u32_bytes, u64_bytes}
use Rattle.port.specs.Tags.{status_tag, status_of, tagged, tagged_bytes, tagged_of, outcome_tagged, outcome_of, is_bad_tagged}
use Rattle.port.specs.Layout.{request_bytes, request_of, is_bad_request_bytes, plan_bytes, plan_of, is_bad_plan_bytes}
use Rattle.port.proofs.Laws.Runs.{then}

-- a field of an entry
pub field : {A : Type 0} (f : List ℕ → A) (n at : ℕ) (xs : List ℕ) → f (drop (at + n) xs) ≡ f (drop n (drop at xs))
field f n at xs = ap f (sym (drop-drop n at xs))

-- ---- reading

pub tagged_at :
    (xs : List ℕ) (at tag kind word : ℕ) → tag ≡ byte_of (drop at xs) → kind ≡ byte_of (drop (at + 1) xs) → word ≡ u32_of (drop (at + 2) xs)
    → tagged tag kind word ≡ tagged_of (drop at xs)
unfolding tagged_of
tagged_at xs at tag kind word p q r =
    ap (λ (n : ℕ). tagged n kind word) p
    ∙ ap (λ (n : ℕ). tagged (byte_of (drop at xs)) n word) (q ∙ field byte_of 1 at xs)
    ∙ ap (tagged (byte_of (drop at xs)) (byte_of (drop 1 (drop at xs)))) (r ∙ field u32_of 2 at xs)

abbrev pub request : ℕ → ℕ → ℕ → IsoOutcome → IsoRequest
request id packets total outcome = record { id = id; packets = packets; actual_length = total; outcome = outcome }

pub request_at_lem :
    (xs : List ℕ) (at id packets total : ℕ) (t : Tagged) (outcome : IsoOutcome)
    → id ≡ u64_of (drop at xs)
    → packets ≡ u16_of (drop (at + 12) xs)
    → total ≡ u32_of (drop (at + 8) xs)
    → t ≡ tagged_of (drop (at + 14) xs)
    → outcome ≡ outcome_of t
    → request id packets total outcome ≡ request_of (drop at xs)
unfolding request_of
request_at_lem xs at id packets total t outcome p q r s o =
    ap (λ (n : ℕ). request n packets total outcome) p
    ∙ ap (λ (n : ℕ). request (u64_of (drop at xs)) n total outcome) (q ∙ field u16_of 12 at xs)
    ∙ ap (λ (n : ℕ). request (u64_of (drop at xs)) (u16_of (drop 12 (drop at xs))) n outcome) (r ∙ field u32_of 8 at xs)
    ∙ ap (request (u64_of (drop at xs)) (u16_of (drop 12 (drop at xs))) (u32_of (drop 8 (drop at xs)))) (o ∙ ap outcome_of (s ∙ field tagged_of 14 at xs))

pub bad_request_at :
    (xs : List ℕ) (at : ℕ) (t : Tagged) (b : Bool) → t ≡ tagged_of (drop (at + 14) xs) → b ≡ is_bad_tagged 3 4 t → b ≡ is_bad_request_bytes (drop at xs)
unfolding is_bad_request_bytes
bad_request_at xs at t b p q = q ∙ ap (is_bad_tagged 3 4) (p ∙ field tagged_of 14 at xs)

abbrev pub plan : ℕ → ℕ → ℕ → TransferStatus → IsoPacketPlan
plan planned slot actual status = record { planned = planned; desc_index = slot; actual = actual; status = status }

pub plan_at :
    (xs : List ℕ) (at planned slot actual tag : ℕ) (status : TransferStatus)
    → planned ≡ u16_of (drop at xs)
    → slot ≡ u16_of (drop (at + 2) xs)
    → actual ≡ u16_of (drop (at + 4) xs)
    → tag ≡ byte_of (drop (at + 6) xs)
    → status ≡ status_of tag
    → plan planned slot actual status ≡ plan_of (drop at xs)
unfolding plan_of
plan_at xs at planned slot actual tag status p q r s o =
    ap (λ (n : ℕ). plan n slot actual status) p
    ∙ ap (λ (n : ℕ). plan (u16_of (drop at xs)) n actual status) (q ∙ field u16_of 2 at xs)
    ∙ ap (λ (n : ℕ). plan (u16_of (drop at xs)) (u16_of (drop 2 (drop at xs))) n status) (r ∙ field u16_of 4 at xs)
    ∙ ap (plan (u16_of (drop at xs)) (u16_of (drop 2 (drop at xs))) (u16_of (drop 4 (drop at xs)))) (o ∙ ap status_of (s ∙ field byte_of 6 at xs))

pub bad_plan_at : (xs : List ℕ) (at tag : ℕ) → tag ≡ byte_of (drop (at + 6) xs) → ltb 1 tag ≡ is_bad_plan_bytes (drop at xs)
unfolding is_bad_plan_bytes
bad_plan_at xs at tag p = ap (ltb 1) (p ∙ field byte_of 6 at xs)

-- ---- writing

pub tagged_put :
    (xs : List ℕ) {a b : List ℕ} (at : ℕ) (t : Tagged) → a ≡ sets xs at (t.tag ∷ t.kind ∷ []) → b ≡ sets a (at + 2) (u32_bytes t.word)
    → b ≡ sets xs at (tagged_bytes t)
unfolding tagged_bytes
tagged_put xs at t p q = then xs at (at + 2) (t.tag ∷ t.kind ∷ []) (u32_bytes t.word) p refl q

pub request_put :
    (xs : List ℕ) {a b c d : List ℕ} (at : ℕ) (r : IsoRequest) (t : Tagged)
    → a ≡ sets xs at (u64_bytes r.id)
    → b ≡ sets a (at + 8) (u32_bytes r.actual_length)
    → c ≡ sets b (at + 12) (u16_bytes r.packets)
    → t ≡ outcome_tagged r.outcome
    → d ≡ sets c (at + 14) (tagged_bytes t)
    → d ≡ sets xs at (request_bytes r)
unfolding request_bytes u64_bytes u32_bytes u16_bytes
request_put xs {c = c} at r t p q s o u =
    let id : List ℕ = u64_bytes r.id in
    let total : List ℕ = u32_bytes r.actual_length in
    let packets : List ℕ = u16_bytes r.packets in
    then xs at (at + 14) (id ++ total ++ packets) (tagged_bytes (outcome_tagged r.outcome))
    (then xs at (at + 12) (id ++ total) packets (then xs at (at + 8) id total p refl q) refl s) refl
    (u ∙ ap (λ (x : Tagged). sets c (at + 14) (tagged_bytes x)) o)

pub plan_put :
    (xs : List ℕ) {a b c d : List ℕ} (at : ℕ) (r : IsoPacketPlan) (tag : ℕ)
    → a ≡ sets xs at (u16_bytes r.planned)
    → b ≡ sets a (at + 2) (u16_bytes r.desc_index)
    → c ≡ sets b (at + 4) (u16_bytes r.actual)
    → tag ≡ status_tag r.status
    → d ≡ sets c (at + 6) (tag ∷ [])
    → d ≡ sets xs at (plan_bytes r)
unfolding plan_bytes u16_bytes
plan_put xs {c = c} at r tag p q s o u =
    let planned : List ℕ = u16_bytes r.planned in
    let slot : List ℕ = u16_bytes r.desc_index in
    let actual : List ℕ = u16_bytes r.actual in
    then xs at (at + 6) (planned ++ slot ++ actual) (status_tag r.status ∷ [])
    (then xs at (at + 4) (planned ++ slot) actual (then xs at (at + 2) planned slot p refl q) refl s) refl
    (u ∙ ap (λ (n : ℕ). sets c (at + 6) (n ∷ [])) o)

pub length_tagged : (t : Tagged) → length (tagged_bytes t) ≡ 6
unfolding tagged_bytes u32_bytes u16_bytes
length_tagged t = refl

pub length_request : (r : IsoRequest) → length (request_bytes r) ≡ 20
unfolding request_bytes tagged_bytes u64_bytes u32_bytes u16_bytes
length_request r = refl

pub length_plan : (p : IsoPacketPlan) → length (plan_bytes p) ≡ 7
unfolding plan_bytes u16_bytes
length_plan p = refl

-- ---- a request without an outcome

halves : (ys : List ℕ) → u64_of ys ≡ u16_of ys + 65536 * u16_of (drop 2 ys) + 4294967296 * u32_of (drop 4 ys)
unfolding u64_of u32_of
halves ys = refl

pub pair : (ys : List ℕ) → u16_of ys ≡ byte_of ys + 256 * byte_of (drop 1 ys)
unfolding u16_of byte_of
pair ys = ap (λ (n : ℕ). get_or ys 0 0 + 256 * n) (sym (get_or-drop 1 ys 0 0))

-- eight bytes by the fields of a plan, which are the last seven of them
pub by_plan :
    (ys : List ℕ)
    → u64_of ys
    ≡ byte_of ys
    + 256 * u16_of (drop 1 ys)
    + 16777216 * u16_of (drop 3 ys)
    + 1099511627776 * u16_of (drop 5 ys)
    + 72057594037927936 * byte_of (drop 7 ys)
unfolding u64_of u32_of u16_of byte_of
by_plan ys =
    let at : (k i : ℕ) → get_or (drop k ys) i 0 ≡ get_or ys (k + i) 0 = λ k i. get_or-drop k ys i 0 in
    let six : drop 2 (drop 4 ys) ≡ drop 6 ys = drop-drop 2 4 ys in
    let low = ap (λ (l : List ℕ). get_or l 0 0) six in
    let high = ap (λ (l : List ℕ). get_or l 1 0) six in
    omega (arith, low, high, at 1 0, at 1 1, at 2 0, at 2 1, at 3 0, at 3 1, at 4 0, at 4 1, at 5 0, at 5 1, at 6 0, at 6 1, at 7 0)

-- where the number ends with its first two bytes, the six behind them are the tag 0 without fault and word
module _ (ys : List ℕ) (h : u64_of ys < 65536) where
  pub ends_here : u16_of ys ≡ u64_of ys
  ends_here = omega (arith, h, halves ys)

  pub no_tag : (fault last : ℕ) → false ≡ is_bad_tagged fault last (tagged 0 0 0) → false ≡ is_bad_tagged fault last (tagged_of (drop 2 ys))
  unfolding tagged_of
  no_tag fault last good =
      let tag : byte_of (drop 2 ys) ≡ 0 = omega (arith, h, halves ys, pair (drop 2 ys)) in
      let kind : byte_of (drop 1 (drop 2 ys)) ≡ 0 = omega (arith, h, halves ys, pair (drop 2 ys)) in
      let word : u32_of (drop 2 (drop 2 ys)) ≡ 0 = ap u32_of (drop-drop 2 2 ys) ∙ omega (arith, h, halves ys) in
      good
      ∙ sym (ap (λ (n : ℕ). is_bad_tagged fault last (tagged n (byte_of (drop 1 (drop 2 ys))) (u32_of (drop 2 (drop 2 ys))))) tag
      ∙ ap₂ (λ (k w : ℕ). is_bad_tagged fault last (tagged 0 k w)) kind word)

-- the count of packets fills the two bytes before it
pub no_outcome : (xs : List ℕ) (at : ℕ) → u64_of (drop (at + 12) xs) < 65536 → false ≡ is_bad_request_bytes (drop at xs)
unfolding is_bad_request_bytes
no_outcome xs at h =
    let same : at + 12 + 2 ≡ at + 14 = omega arith in
    no_tag (drop (at + 12) xs) h 3 4 refl
    ∙ ap (λ (l : List ℕ). is_bad_tagged 3 4 (tagged_of l)) (drop-drop 2 (at + 12) xs ∙ ap (λ (n : ℕ). drop n xs) same ∙ sym (drop-drop 14 at xs))

-- ---- the result of a plan

as_bit : (tag : ℕ) → tag ≤ 1 → 16777216 * tag ≡ error_bit (status_of tag)
as_bit zero h = refl
as_bit (suc zero) h = refl
as_bit (suc (suc n)) h = absurd (omega arith)

-- a status that is of the layout stands for its own bit
module _ (xs : List ℕ) (at : ℕ) {tag : ℕ} (et : tag ≡ byte_of (drop (at + 6) xs)) (good : is_bad_plan_bytes (drop at xs) ≡ false) where
  pub status_few : tag ≤ 1
  unfolding is_bad_plan_bytes
  status_few = ltb-false 1 tag (ap (ltb 1) (et ∙ field byte_of 6 at xs) ∙ good)

  pub result_is :
      {actual planned : ℕ} → actual ≡ u16_of (drop (at + 4) xs) → planned ≡ u16_of (drop at xs)
      → actual + 4096 * planned + 16777216 * tag ≡ result_word (plan_of (drop at xs))
  unfolding plan_of
  result_is {actual} {planned} ea ep =
      ap (λ (n : ℕ). actual + 4096 * planned + n) (as_bit tag status_few)
      ∙ ap₂ (λ (m n : ℕ). m + 4096 * n + error_bit (status_of tag)) (ea ∙ field u16_of 4 at xs) ep
      ∙ ap (λ (n : ℕ). u16_of (drop 4 (drop at xs)) + 4096 * u16_of (drop at xs) + error_bit (status_of n)) (et ∙ field byte_of 6 at xs)

-- ---- no entry reads further than its width

module _ (n : ℕ) (xs : List ℕ) where
  get_within : (a i : ℕ) → a + i < n → get_or (drop a (take n xs)) i 0 ≡ get_or (drop a xs) i 0
  get_within a i h = get_or-drop a (take n xs) i 0 ∙ get_or-take n xs (a + i) 0 h ∙ sym (get_or-drop a xs i 0)

  byte_within : (a : ℕ) → a + 1 ≤ n → byte_of (drop a (take n xs)) ≡ byte_of (drop a xs)
  unfolding byte_of
  byte_within a h = get_within a 0 (omega arith)

  u16_within : (a : ℕ) → a + 2 ≤ n → u16_of (drop a (take n xs)) ≡ u16_of (drop a xs)
  unfolding u16_of
  u16_within a h = ap₂ (λ (x y : ℕ). x + 256 * y) (get_within a 0 (omega arith)) (get_within a 1 (omega arith))

  u32_within : (a : ℕ) → a + 4 ≤ n → u32_of (drop a (take n xs)) ≡ u32_of (drop a xs)
  unfolding u32_of
  u32_within a h =
      ap₂ (λ (x y : ℕ). x + 65536 * y) (u16_within a (omega arith))
      (sym (field u16_of 2 a (take n xs)) ∙ u16_within (a + 2) (omega arith) ∙ field u16_of 2 a xs)

  u64_within : (a : ℕ) → a + 8 ≤ n → u64_of (drop a (take n xs)) ≡ u64_of (drop a xs)
  unfolding u64_of
  u64_within a h =
      ap₂ (λ (x y : ℕ). x + 4294967296 * y) (u32_within a (omega arith))
      (sym (field u32_of 4 a (take n xs)) ∙ u32_within (a + 4) (omega arith) ∙ field u32_of 4 a xs)

  tagged_within : (a : ℕ) → a + 6 ≤ n → tagged_of (drop a (take n xs)) ≡ tagged_of (drop a xs)
  tagged_within a h =
      sym (tagged_at (take n xs) a (byte_of (drop a xs)) (byte_of (drop (a + 1) xs)) (u32_of (drop (a + 2) xs)) (sym (byte_within a (omega arith)))
      (sym (byte_within (a + 1) (omega arith))) (sym (u32_within (a + 2) (omega arith))))
      ∙ tagged_at xs a (byte_of (drop a xs)) (byte_of (drop (a + 1) xs)) (u32_of (drop (a + 2) xs)) refl refl refl

pub request_within : (xs : List ℕ) → request_of (take 20 xs) ≡ request_of xs
request_within xs =
    let t : Tagged = tagged_of (drop 14 xs) in
    sym (request_at_lem (take 20 xs) 0 (u64_of xs) (u16_of (drop 12 xs)) (u32_of (drop 8 xs)) t (outcome_of t) (sym (u64_within 20 xs 0 (omega arith)))
    (sym (u16_within 20 xs 12 (omega arith))) (sym (u32_within 20 xs 8 (omega arith))) (sym (tagged_within 20 xs 14 (omega arith))) refl)
    ∙ request_at_lem xs 0 (u64_of xs) (u16_of (drop 12 xs)) (u32_of (drop 8 xs)) t (outcome_of t) refl refl refl refl refl

pub bad_request_within : (xs : List ℕ) → is_bad_request_bytes (take 20 xs) ≡ is_bad_request_bytes xs
unfolding is_bad_request_bytes
bad_request_within xs = ap (is_bad_tagged 3 4) (tagged_within 20 xs 14 (omega arith))

pub plan_within : (xs : List ℕ) → plan_of (take 7 xs) ≡ plan_of xs
plan_within xs =
    let tag : ℕ = byte_of (drop 6 xs) in
    sym (plan_at (take 7 xs) 0 (u16_of xs) (u16_of (drop 2 xs)) (u16_of (drop 4 xs)) tag (status_of tag) (sym (u16_within 7 xs 0 (omega arith)))
    (sym (u16_within 7 xs 2 (omega arith))) (sym (u16_within 7 xs 4 (omega arith))) (sym (byte_within 7 xs 6 (omega arith))) refl)
    ∙ plan_at xs 0 (u16_of xs) (u16_of (drop 2 xs)) (u16_of (drop 4 xs)) tag (status_of tag) refl refl refl refl refl

pub bad_plan_within : (xs : List ℕ) → is_bad_plan_bytes (take 7 xs) ≡ is_bad_plan_bytes xs
unfolding is_bad_plan_bytes
bad_plan_within xs = ap (ltb 1) (byte_within 7 xs 6 (omega arith))
