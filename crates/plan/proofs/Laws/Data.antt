-- Laws of bulk and interrupt plans: what an accepted request says of its numbers, and how one stage follows another.
use Rattle.std.proofs.Common.{◌≡◌, ℕ, zero, suc, ◌+◌, ◌-◌, ◌*◌, ◌<◌, ◌≤◌, min, max, Bool, true, false, cond, ◌||◌, ltb, leb, List, [], ◌∷◌, ◌++◌, length, drop, set, replicate, sym, ap, ◌∙◌, le_trans, add-zero, mod-eq_of_lt, add-mul, mul-le-mul_right, mul_assoc, one-mul, zero-add, zero-mul, div-mul-le_self, sub-le, add-one, arith, ltb-false, le-ltb, lt-ltb, le-leb}
use Rattle.std.specs.Prelude.{Ok}
use mathlib.Core.Path.{subst, subst⁻¹}
use borrow.Author.Tests.{lt-leb}
use lib.Seq.{sets, sets-eq}
use Rattle.words.specs.Field.{get}
use Rattle.words.specs.Words.{packets, initial_len, packet_size, is_beyond}
use Rattle.words.proofs.Laws.Words.{hcchar_fields}
use Rattle.ring.proofs.Lists.{drop-replicate}
use Rattle.plan.specs.declared.split.DmaSplit.{DmaSplit}
use Rattle.plan.specs.declared.types.DataRequest.{DataRequest}
use Rattle.plan.specs.declared.types.Dwc2DataPlan.{Dwc2DataPlan}
use Rattle.plan.specs.declared.types.Dwc2TransferStage.{Dwc2TransferStage}
use Rattle.plan.specs.declared.refusals.PlanRefusal.TheVariants.{ShortBuffer, BadEndpoint, TooManyDescriptors, AddressLimit}
use Rattle.plan.specs.declared.toggle.DataToggle.{DataToggle}
use Rattle.plan.specs.Planning.{chunk_of, split_of, advanced, laid_stage, laid_out}
use Rattle.plan.specs.DataStages.{is_in, ep_type_of, is_low, odd_of, size_of, data_hcchar, data_stage, stages_from, toggle_after, blank_stage, stage_table, blank_plan, with_stage, data_answer}
use Rattle.plan.specs.StageLength.{StageFits}
use Rattle.plan.specs.Refusals.{◌⇒◌, is_short, is_bad}
use Rattle.words.proofs.Laws.Tests.{neither}
use Rattle.plan.proofs.Laws.Laid.{either}
use Rattle.plan.proofs.Laws.Refusals.{none_holds}
use Rattle.plan.proofs.Laws.Split.{chunk_pos, packets_some, parts_within, rest_within, rounded_more}

-- a chunk is at most the byte count's limit
pub chunk_small : (m : ℕ) → chunk_of m ≤ 131_071
chunk_small m = le_trans (div-mul-le_self (131_071 - (max 1 m - 1)) (max 1 m)) (sub-le 131_071 (max 1 m - 1))

-- the packet size that a channel is programmed with is the one that the plan is made for
pub hcchar_size : (r : DataRequest) → r.max_packet_size ≤ 2047 → get packet_size (data_hcchar r) ≡ size_of r
hcchar_size r h =
    let fits : size_of r < 2048 = omega arith in
    hcchar_fields r.device r.endpoint r.direction (ep_type_of r.kind) (size_of r) (is_low r.port_speed) 1 (odd_of r.kind r.odd_frame) 0
    (omega arith)
    ∙ mod-eq_of_lt fits

-- what an accepted request says of its numbers
pub record Accepted (r : DataRequest) (words : ℕ) : Type 0 where
  pub long : 2048 ≤ words
  pub size : r.max_packet_size ≤ 2047
  pub few : (split_of r.len (size_of r)).count ≤ 1024
  pub near : r.base + initial_len r.len (size_of r) (is_in r.direction) ≤ 4_294_967_295

pub accepted : (r : DataRequest) (words : ℕ) → data_answer r words ≡ Ok tt → Accepted r words
accepted r words e =
    let n =
    none_holds
    (is_short words ⇒ ShortBuffer ∷ is_bad r.endpoint r.device r.max_packet_size ⇒ BadEndpoint
    ∷ ltb 1024 (split_of r.len (size_of r)).count ⇒ TooManyDescriptors
    ∷ is_beyond r.base (initial_len r.len (size_of r) (is_in r.direction)) ⇒ AddressLimit ∷ []) e in
    let device = neither (ltb 15 r.endpoint) (ltb 127 r.device || ltb 2047 r.max_packet_size) n.1.0 in
    let packet = neither (ltb 127 r.device) (ltb 2047 r.max_packet_size) device.1 in
    record {
      long = ltb-false words 2048 n.0;
      size = ltb-false 2047 r.max_packet_size packet.1;
      few = ltb-false 1024 (split_of r.len (size_of r)).count n.1.1.0;
      near = ltb-false 4_294_967_295 (r.base + initial_len r.len (size_of r) (is_in r.direction)) n.1.1.1.0;
    }

-- at most 256 descriptors are one stage
pub stages_last :
    (hcchar m fuel descs len addr base : ℕ) (t : Bool) → 0 < fuel → descs ≤ 256
    → stages_from hcchar m fuel descs len addr base t ≡ data_stage hcchar descs len addr base t ∷ []
unfolding stages_from
stages_last hcchar m zero descs len addr base t some h = absurd (omega arith)
stages_last hcchar m (suc fuel) descs len addr base t some h = rw (le-leb descs 256 h)

-- more than 256 descriptors are a stage of 256, and the stages of the rest behind it
pub stages_next :
    (hcchar m fuel descs len addr base : ℕ) (t : Bool) → 256 < descs
    → stages_from hcchar m (suc fuel) descs len addr base t
    ≡ data_stage hcchar 256 (256 * chunk_of m) addr base t
    ∷ stages_from hcchar m fuel (descs - 256) (len - 256 * chunk_of m) (addr + 256 * chunk_of m) (base + 256) (advanced t (packets (256 * chunk_of m) m))
unfolding stages_from
stages_next hcchar m fuel descs len addr base t h = rw (lt-leb descs 256 h)

-- the same where the stages still asked for are some
pub stages_more :
    (hcchar m fuel descs len addr base : ℕ) (t : Bool) → 0 < fuel → 256 < descs
    → stages_from hcchar m fuel descs len addr base t
    ≡ data_stage hcchar 256 (256 * chunk_of m) addr base t
    ∷ stages_from hcchar m (fuel - 1) (descs - 256) (len - 256 * chunk_of m) (addr + 256 * chunk_of m) (base + 256) (advanced t (packets (256 * chunk_of m) m))
stages_more hcchar m zero descs len addr base t some h = absurd (omega arith)
stages_more hcchar m (suc fuel) descs len addr base t some h =
    let k = 256 * chunk_of m in
    let rest : ℕ → List Dwc2TransferStage = λ n. stages_from hcchar m n (descs - 256) (len - k) (addr + k) (base + 256) (advanced t (packets k m)) in
    let one_less_lem : fuel ≡ suc fuel - 1 = omega arith in
    stages_next hcchar m fuel descs len addr base t h ∙ ap (λ (n : ℕ). data_stage hcchar 256 k addr base t ∷ rest n) one_less_lem

-- there are no more stages than asked for
pub stages_few : (hcchar m fuel descs len addr base : ℕ) (t : Bool) → length (stages_from hcchar m fuel descs len addr base t) ≤ fuel
unfolding stages_from
stages_few hcchar m zero descs len addr base t = omega arith
stages_few hcchar m (suc fuel) descs len addr base t =
    go (leb descs 256) (data_stage hcchar descs len addr base t) (data_stage hcchar 256 (256 * chunk_of m) addr base t) _
    (stages_few hcchar m fuel (descs - 256) (len - 256 * chunk_of m) (addr + 256 * chunk_of m) (base + 256) (advanced t (packets (256 * chunk_of m) m)))
  where
    go : (b : Bool) (s r : Dwc2TransferStage) (rest : List Dwc2TransferStage) → length rest ≤ fuel → length (cond b (s ∷ []) (r ∷ rest)) ≤ suc fuel
    go true s r rest h = omega arith
    go false s r rest h = omega arith

-- the stages of a plan added one after the other
abbrev pub with_stages : ℕ → Dwc2DataPlan → List Dwc2TransferStage → Dwc2DataPlan
with_stages m plan [] = plan
with_stages m plan (s ∷ ss) = with_stages m (with_stage m plan s) ss

-- a plan by its parts
abbrev pub made : Bool → ℕ → List Dwc2TransferStage → Dwc2DataPlan
made t n stages = record { toggle = record { 0 = t }; count = n; stages = stages }

with_stages_lem :
    (m : ℕ) (plan : Dwc2DataPlan) (ss : List Dwc2TransferStage)
    → with_stages m plan ss ≡ made (toggle_after m plan.toggle.0 ss) (plan.count + length ss) (sets plan.stages plan.count ss)
with_stages_lem m plan [] = ap (λ (n : ℕ). made plan.toggle.0 n plan.stages) (sym (add-zero plan.count))
with_stages_lem m plan (s ∷ ss) =
    let e : plan.count + 1 + length ss ≡ plan.count + suc (length ss) = omega arith in
    let t = toggle_after m (advanced plan.toggle.0 (packets s.len m)) ss in
    with_stages_lem m (with_stage m plan s) ss
    ∙ ap (λ (n : ℕ). made t n (sets (set plan.stages plan.count s) (plan.count + 1) ss)) e
    ∙ ap (λ (n : ℕ). made t (plan.count + suc (length ss)) (sets (set plan.stages plan.count s) n ss)) (add-one plan.count)

-- added to a plan without stages they are the planned ones
pub planned_is :
    (m : ℕ) (toggle : DataToggle) (ss : List Dwc2TransferStage) → length ss ≤ 4
    → with_stages m (blank_plan toggle) ss ≡ made (toggle_after m toggle.0 ss) (length ss) (stage_table ss)
planned_is m toggle ss h =
    let t = toggle_after m toggle.0 ss in
    let fits : 0 + length ss ≤ 4 = omega arith in
    with_stages_lem m (blank_plan toggle) ss
    ∙ ap (λ (n : ℕ). made t n (sets (replicate 4 blank_stage) 0 ss)) (zero-add (length ss))
    ∙ ap (made t (length ss))
    (sets-eq ss (replicate 4 blank_stage) 0 fits ∙ ap (λ (n : ℕ). ss ++ drop n (replicate 4 blank_stage)) (zero-add (length ss))
    ∙ ap (λ (r : List Dwc2TransferStage). ss ++ r) (drop-replicate (length ss) 4 blank_stage))

-- the stages from number i on of so many descriptors, where a full stage is so many bytes and the plan has the stages before
abbrev pub ahead : ℕ → ℕ → ℕ → Dwc2DataPlan → ℕ → ℕ → ℕ → ℕ → List Dwc2TransferStage
ahead hcchar m most plan descs len addr i =
    cond
    (ltb (i * 256) descs)
    (stages_from hcchar m (4 - plan.count) (descs - i * 256) (len - i * most) (addr + i * most) (i * 256) plan.toggle.0)
    []

ahead_some :
    (hcchar m most descs len addr i : ℕ) (plan : Dwc2DataPlan) → i * 256 < descs
    → ahead hcchar m most plan descs len addr i
    ≡ stages_from hcchar m (4 - plan.count) (descs - i * 256) (len - i * most) (addr + i * most) (i * 256) plan.toggle.0
ahead_some hcchar m most descs len addr i plan h =
    ap
    (λ (b : Bool). cond b (stages_from hcchar m (4 - plan.count) (descs - i * 256) (len - i * most) (addr + i * most) (i * 256) plan.toggle.0) [])
    (lt-ltb (i * 256) descs h)

pub ahead_none : (hcchar m most descs len addr i : ℕ) (plan : Dwc2DataPlan) → descs ≤ i * 256 → ahead hcchar m most plan descs len addr i ≡ []
ahead_none hcchar m most descs len addr i plan h =
    ap
    (λ (b : Bool). cond b (stages_from hcchar m (4 - plan.count) (descs - i * 256) (len - i * most) (addr + i * most) (i * 256) plan.toggle.0) [])
    (le-ltb (i * 256) descs h)

-- with no stage yet all are still to come
pub ahead_all :
    (hcchar m most descs len addr : ℕ) (toggle : DataToggle) → 0 < descs
    → ahead hcchar m most (blank_plan toggle) descs len addr 0 ≡ stages_from hcchar m 4 descs len addr 0 toggle.0
ahead_all hcchar m most descs len addr toggle some =
    let n : descs - 0 * 256 ≡ descs = omega arith in
    let p : len - 0 * most ≡ len = omega (arith, zero-mul most) in
    let q : addr + 0 * most ≡ addr = omega (arith, zero-mul most) in
    ahead_some hcchar m most descs len addr 0 (blank_plan toggle) some ∙ (λ j. stages_from hcchar m 4 (n j) (p j) (q j) 0 toggle.0)

-- a stage, and those behind it
ahead_more :
    (hcchar m most descs len addr i : ℕ) (plan : Dwc2DataPlan) → plan.count ≡ i → i < 4 → i * 256 < descs → most ≡ 256 * chunk_of m
    → (256 < descs - i * 256 → most ≤ len - i * most)
    → (descs - i * 256 ≤ 256 → len - i * most ≤ most)
    → (s : Dwc2TransferStage) → s ≡ data_stage hcchar (min (descs - i * 256) 256) (min (len - i * most) most) (addr + i * most) (i * 256) plan.toggle.0
    → ahead hcchar m most plan descs len addr i ≡ s ∷ ahead hcchar m most (with_stage m plan s) descs len addr (i + 1)
ahead_more hcchar m most descs len addr i plan e few some em full rest s es =
    ahead_some hcchar m most descs len addr i plan some ∙ either 256 (descs - i * 256) more last
  where
    more :
        256 < descs - i * 256
        → stages_from hcchar m (4 - plan.count) (descs - i * 256) (len - i * most) (addr + i * most) (i * 256) plan.toggle.0
        ≡ s ∷ ahead hcchar m most (with_stage m plan s) descs len addr (i + 1)
    more h =
        let k = 256 * chunk_of m in
        let t = plan.toggle.0 in
        let within : most ≤ len - i * most = full h in
        let c : 256 ≡ min (descs - i * 256) 256 = omega arith in
        let w : k ≡ min (len - i * most) most = omega arith in
        let f : 4 - plan.count - 1 ≡ 4 - (plan.count + 1) = omega arith in
        let d : descs - i * 256 - 256 ≡ descs - (i + 1) * 256 = omega arith in
        let l : len - i * most - k ≡ len - (i + 1) * most = omega (arith, add-mul i 1 most, one-mul most) in
        let a : addr + i * most + k ≡ addr + (i + 1) * most = omega (arith, add-mul i 1 most, one-mul most) in
        let b : i * 256 + 256 ≡ (i + 1) * 256 = omega arith in
        let on : (i + 1) * 256 < descs = omega arith in
        stages_more hcchar m (4 - plan.count) (descs - i * 256) (len - i * most) (addr + i * most) (i * 256) t (omega arith) h
        ∙ (λ j. data_stage hcchar (c j) (w j) (addr + i * most) (i * 256) t ∷ stages_from hcchar m (f j) (d j) (l j) (a j) (b j) (advanced t (packets (w j) m)))
        ∙ ap
        (λ (s : Dwc2TransferStage). s ∷ stages_from hcchar m (4 - (plan.count + 1)) (descs - (i + 1) * 256) (len - (i + 1) * most) (addr + (i + 1) * most)
        ((i + 1) * 256) (advanced t (packets s.len m)))
        (sym es)
        ∙ ap (λ (ss : List Dwc2TransferStage). s ∷ ss) (sym (ahead_some hcchar m most descs len addr (i + 1) (with_stage m plan s) on))

    last :
        descs - i * 256 ≤ 256
        → stages_from hcchar m (4 - plan.count) (descs - i * 256) (len - i * most) (addr + i * most) (i * 256) plan.toggle.0
        ≡ s ∷ ahead hcchar m most (with_stage m plan s) descs len addr (i + 1)
    last h =
        let within : len - i * most ≤ most = rest h in
        let c : descs - i * 256 ≡ min (descs - i * 256) 256 = omega arith in
        let w : len - i * most ≡ min (len - i * most) most = omega arith in
        let none : descs ≤ (i + 1) * 256 = omega arith in
        stages_last hcchar m (4 - plan.count) (descs - i * 256) (len - i * most) (addr + i * most) (i * 256) plan.toggle.0 (omega arith) h
        ∙ (λ j. data_stage hcchar (c j) (w j) (addr + i * most) (i * 256) plan.toggle.0 ∷ [])
        ∙ ap (λ (s : Dwc2TransferStage). s ∷ []) (sym es)
        ∙ ap (λ (ss : List Dwc2TransferStage). s ∷ ss) (sym (ahead_none hcchar m most descs len addr (i + 1) (with_stage m plan s) none))

-- 256 descriptors of full chunks are within what is left, and full chunks before the last are left of the rest
pub full_left : (left k len : ℕ) → 256 < left → (left - 1) * k ≤ len → (256 * k ≤ len) × ((left - 256 - 1) * k ≤ len - 256 * k)
full_left left k len l h =
    let parts : (left - 1) * k ≡ (left - 256 - 1) * k + 256 * k =
    let e : left - 1 ≡ left - 256 - 1 + 256 = omega arith in ap (λ (n : ℕ). n * k) e ∙ add-mul (left - 256 - 1) 256 k in
    omega arith

-- what the numbers of an accepted request's plan keep to
pub record Sized (r : DataRequest) (hcchar m count most words : ℕ) : Type 0 where
  pub size_is : get packet_size hcchar ≡ m
  pub most_is : most ≡ 256 * chunk_of m
  pub some : 0 < count
  pub few : count ≤ 1024
  pub full : (count - 1) * chunk_of m ≤ r.len
  pub fit : r.len ≤ (count - 1) * chunk_of m + chunk_of m
  pub near : r.base + r.len ≤ 4_294_967_295
  pub long : 2048 ≤ words

pub sized :
    (r : DataRequest) (hcchar m : ℕ) (split : DmaSplit) (words : ℕ) → data_answer r words ≡ Ok tt → hcchar ≡ data_hcchar r → m ≡ size_of r → split ≡ split_of r.len m
    → Sized r hcchar m split.count (split.chunk * 256) words
sized r hcchar m split words e eh em es =
    let facts = accepted r words e in
    let split_is : split ≡ split_of r.len (size_of r) = es ∙ ap (split_of r.len) em in
    let chunk_is : split.chunk ≡ chunk_of m = ap (λ (s : DmaSplit). s.chunk) es in
    let count_is : packets r.len (chunk_of m) ≡ split.count = sym (ap (λ (s : DmaSplit). s.count) es) in
    let small : m ≤ 65_536 = omega (arith, facts.size) in
    record {
      size_is = ap (get packet_size) eh ∙ hcchar_size r facts.size ∙ sym em;
      most_is = omega (arith, chunk_is);
      some = subst (λ (n : ℕ). 0 < n) count_is (packets_some r.len (chunk_of m));
      few = subst⁻¹ (λ (s : DmaSplit). s.count ≤ 1024) split_is facts.few;
      full = subst (λ (n : ℕ). (n - 1) * chunk_of m ≤ r.len) count_is (parts_within r.len (chunk_of m));
      fit = subst (λ (n : ℕ). r.len ≤ (n - 1) * chunk_of m + chunk_of m) count_is (omega (arith, rest_within r.len (chunk_of m) (chunk_pos m small)));
      near = omega (arith, facts.near, rounded_more r.len (size_of r) (is_in r.direction));
      long = facts.long;
    }

-- what they say of stage i
module _ (r : DataRequest) (hcchar m count most words i : ℕ) (s : Sized r hcchar m count most words) (h : i * 256 < count) where
  parts : (count - 1) * chunk_of m ≡ (count - i * 256 - 1) * chunk_of m + i * most
  parts =
      let e : count - 1 ≡ count - i * 256 - 1 + i * 256 = omega arith in
      let em : most ≡ 256 * chunk_of m = s.most_is in
      ap (λ (n : ℕ). n * chunk_of m) e
      ∙ add-mul (count - i * 256 - 1) (i * 256) (chunk_of m)
      ∙ ap (λ (n : ℕ). (count - i * 256 - 1) * chunk_of m + n) (mul_assoc i 256 (chunk_of m) ∙ ap (λ (n : ℕ). i * n) (sym em))

  -- the stages before it are within the length
  pub stages_within : i * most ≤ r.len
  stages_within = let f = s.full in omega (arith, parts)

  -- it is full where others come behind it
  pub takes_full : 256 < count - i * 256 → most ≤ r.len - i * most
  takes_full l =
      let f = s.full in
      let e : count - i * 256 - 1 ≡ count - i * 256 - 1 - 256 + 256 = omega arith in
      let e' : (count - i * 256 - 1) * chunk_of m ≡ (count - i * 256 - 1 - 256) * chunk_of m + 256 * chunk_of m =
      ap (λ (n : ℕ). n * chunk_of m) e ∙ add-mul (count - i * 256 - 1 - 256) 256 (chunk_of m) in
      omega (arith, parts, s.most_is)

  -- and takes what is left where none does
  pub takes_rest : count - i * 256 ≤ 256 → r.len - i * most ≤ most
  takes_rest l =
      let f = s.fit in
      let last : count - i * 256 - 1 ≤ 255 = omega arith in
      let e : (count - i * 256 - 1) * chunk_of m ≤ 255 * chunk_of m = mul-le-mul_right (chunk_of m) last in
      omega (arith, parts, s.most_is)

  -- it fits the array and the address limit
  pub stage_fits :
      (array : List ℕ) (t : Bool) → length array ≡ words
      → StageFits (data_stage hcchar (min (count - i * 256) 256) (min (r.len - i * most) most) (r.base + i * most) (i * 256) t) (length array)
  stage_fits array t e =
      let few = s.few in
      let long = s.long in
      let near = s.near in
      let within = stages_within in
      let left : min (count - i * 256) 256 - 1 ≤ count - i * 256 - 1 = omega arith in
      let most_left : min (count - i * 256) 256 - 1 ≤ 256 = omega arith in
      let a : (min (count - i * 256) 256 - 1) * chunk_of m ≤ (count - i * 256 - 1) * chunk_of m = mul-le-mul_right (chunk_of m) left in
      let b : (min (count - i * 256) 256 - 1) * chunk_of m ≤ 256 * chunk_of m = mul-le-mul_right (chunk_of m) most_left in
      let full : (min (count - i * 256) 256 - 1) * chunk_of m ≤ min (r.len - i * most) most = omega (arith, parts, s.full, s.most_is) in
      record {
        some = omega arith;
        room = omega arith;
        full = subst⁻¹ (λ (p : ℕ). (min (count - i * 256) 256 - 1) * chunk_of p ≤ min (r.len - i * most) most) s.size_is full;
        reach = omega arith;
      }

  -- A turn: it is laid out and added, and what is still to do gives what was to do.
  pub turn :
      (plan plan' : Dwc2DataPlan) (stage : Dwc2TransferStage) (a a' : List ℕ) → plan.count ≡ i
      → stage ≡ data_stage hcchar (min (count - i * 256) 256) (min (r.len - i * most) most) (r.base + i * most) (i * 256) plan.toggle.0
      → a' ≡ laid_stage stage a
      → plan' ≡ with_stage m plan stage
      → (laid_out (ahead hcchar m most plan' count r.len r.base (i + 1)) a' ≡ laid_out (ahead hcchar m most plan count r.len r.base i) a)
      × (with_stages m plan' (ahead hcchar m most plan' count r.len r.base (i + 1)) ≡ with_stages m plan (ahead hcchar m most plan count r.len r.base i))
  turn plan plan' stage a a' e es ea ep =
      let few = s.few in
      let more = ahead_more hcchar m most count r.len r.base i plan e (omega arith) h s.most_is takes_full takes_rest stage es in (
        rw (ea, ep) (ap (λ (ss : List Dwc2TransferStage). laid_out ss a) (sym more)),
        rw ep (ap (with_stages m plan) (sym more)),
      )
