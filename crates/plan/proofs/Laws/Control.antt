-- Control transfers: what the four tests leave of a request that is planned, and what its stages and its setup packet are.
use Rattle.std.proofs.Common.{◌≡◌, ℕ, zero, suc, ◌+◌, ◌-◌, ◌*◌, ◌/◌, ◌<◌, ◌≤◌, max, Bool, true, false, cond, ◌&&◌, ◌||◌, ltb, ◌≢◌, List, [], ◌∷◌, length, sym, refl, ap, ◌∙◌, subst, ap₂, arith, ltb-false, le-ltb, lt-ltb}
use Rattle.std.specs.Prelude.{Some, None, Ok}
use native.Mathlib.Nat.{div-eq_of_lt, lt-div-mul-add}
use Rattle.words.specs.declared.types.Direction.{Direction}
use Rattle.words.specs.declared.types.Direction.TheVariants.{Out, In}
use Rattle.words.specs.declared.types.Dwc2Pid.{Dwc2Pid}
use Rattle.words.specs.Words.{initial_len, is_beyond}
use Rattle.plan.specs.declared.types.ControlRequest.{ControlRequest}
use Rattle.plan.specs.declared.types.ControlSetup.{ControlSetup}
use Rattle.plan.specs.declared.types.Dwc2ControlPlan.{Dwc2ControlPlan}
use Rattle.plan.specs.declared.types.Dwc2StageRole.{Dwc2StageRole}
use Rattle.plan.specs.declared.types.Dwc2TransferStage.{Dwc2TransferStage}
use Rattle.plan.specs.declared.refusals.PlanRefusal.TheVariants.{ShortBuffer, BadEndpoint, ControlTooLong, AddressLimit}
use Rattle.plan.specs.Planning.{chunk_of, split_of, stage_of, laid_stage, laid_out}
use Rattle.plan.specs.Refusals.{◌⇒◌, is_short, is_bad}
use Rattle.plan.specs.StageLength.{StageFits}
use Rattle.plan.specs.DataStages.{is_in}
use Rattle.plan.specs.ControlPlan.{control_size, status_direction, status_addr, status_way, has_data_stage, setup_stage, data_stage_of, status_stage}
use Rattle.plan.specs.ControlPlan.{control_stages, is_too_long, control_beyond, control_answer, planned_control, setup_bytes}
use Rattle.words.proofs.Laws.Tests.{neither}
use Rattle.plan.proofs.Laws.Refusals.{none_holds}
use Rattle.plan.proofs.Laws.Split.{empty_is_one_packet, parts_pos, rounded_fits, rounded_more}

-- at the packet sizes of a control endpoint the chunk is no less than the most control data
small_chunk : (m : ℕ) → m ≤ 2047 → 65_535 ≤ chunk_of m
small_chunk m h =
    let pos : 0 < max 1 m = omega arith in
    omega (arith, lt-div-mul-add {a = 131_071 - (max 1 m - 1)} pos)

-- Control data, at most 65,535 bytes, is one descriptor.
pub one_descriptor : (len packet : ℕ) → len ≤ 65_535 → packet ≤ 2047 → (split_of len (control_size packet)).count ≡ 1
one_descriptor zero packet short small = empty_is_one_packet (chunk_of (control_size packet))
one_descriptor (suc len) packet short small =
    let c : ℕ = chunk_of (control_size packet) in
    let room : 65_535 ≤ c = small_chunk (control_size packet) (omega arith) in
    let none : (suc len - 1) / c ≡ 0 = div-eq_of_lt (omega arith) in
    omega (arith, parts_pos (suc len) c (omega arith) (omega arith))

-- Its count, rounded up to whole packets, fits the field of 17 bits.
pub one_count_fits : (len packet : ℕ) → len ≤ 65_535 → packet ≤ 2047 → initial_len len (control_size packet) true ≤ 131_071
one_count_fits len packet short small =
    rounded_fits (control_size packet) (omega arith) len (omega (arith, small_chunk (control_size packet) (omega arith)))

-- Where there is data, the status stage never goes its way.
pub status_opposite : (direction : Direction) → status_direction true direction ≢ direction
status_opposite In e = let z : ◌≡◌ {A = ℕ} 0 1 = cc in omega arith
status_opposite Out e = let z : ◌≡◌ {A = ℕ} 0 1 = cc in omega arith

-- Where there is none, the status stage comes in.
pub status_in : (r : ControlRequest) → r.len ≡ 0 → status_way r ≡ In
status_in r e = rw e

-- The bytes of a setup packet are eight.
pub setup_packet_length : (s : ControlSetup) (direction : Direction) (len : ℕ) → length (setup_bytes s direction len) ≡ 8
setup_packet_length s direction len = refl

-- what is known of a request that is planned
pub record Plannable (r : ControlRequest) (words : ℕ) : Type 0 where
  pub room : 2048 ≤ words
  pub small : r.max_packet_size ≤ 2047
  pub short : r.len ≤ 65_535
  pub setup_reach : r.setup_dma + 8 ≤ 4_294_967_295
  pub data_reach : 0 < r.len → r.data_dma + r.len ≤ 4_294_967_295
  pub status_reach : status_addr (status_way r) r.setup_dma r.status_dma ≤ 4_294_967_295

-- a status OUT is at the setup address, and the address of a status IN is tested
status_within : (d : Direction) (setup status m : ℕ) → setup ≤ 4_294_967_295 → (is_in d && is_beyond status m) ≡ false → status_addr d setup status ≤ 4_294_967_295
status_within In setup status m h e = omega (arith, ltb-false 4_294_967_295 (status + m) e)
status_within Out setup status m h e = h

-- A request that is planned passed the four tests, so its stages have room and lie within the address limit.
pub plannable : (r : ControlRequest) (words : ℕ) → control_answer r words ≡ Ok tt → Plannable r words
plannable r words e =
    let m : ℕ = control_size r.max_packet_size in
    let bytes : ℕ = initial_len r.len m (is_in r.direction) in
    let passed =
    none_holds
    (is_short words ⇒ ShortBuffer
    ∷ is_bad 0 r.device r.max_packet_size ⇒ BadEndpoint
    ∷ is_too_long r.len ⇒ ControlTooLong
    ∷ control_beyond r ⇒ AddressLimit
    ∷ [])
    e in
    let data-test = has_data_stage r && is_beyond r.data_dma bytes in
    let status-test = is_in (status_way r) && is_beyond r.status_dma m in
    let first = neither (is_beyond r.setup_dma 8) (data-test || status-test) passed.1.1.1.0 in
    let then = neither data-test status-test first.1 in
    let setup_fits : r.setup_dma + 8 ≤ 4_294_967_295 = ltb-false 4_294_967_295 (r.setup_dma + 8) first.0 in
    record {
      room = ltb-false words 2048 passed.0;
      small = ltb-false 2047 r.max_packet_size (neither (ltb 127 r.device) (ltb 2047 r.max_packet_size) passed.1.0).1;
      short = ltb-false 65_535 r.len passed.1.1.0;
      setup_reach = setup_fits;
      data_reach =
          λ h.
          let f : is_beyond r.data_dma bytes ≡ false =
          subst (λ (b : Bool). (b && is_beyond r.data_dma bytes) ≡ false) (lt-ltb 0 r.len h) then.0 in
          omega (arith, ltb-false 4_294_967_295 (r.data_dma + bytes) f, rounded_more r.len m (is_in r.direction));
      status_reach = status_within (status_way r) r.setup_dma r.status_dma m (omega arith) then.1;
    }

-- So the one descriptor of a planned data stage holds all of its data.
pub planned_one_descriptor :
    (r : ControlRequest) (words : ℕ) → control_answer r words ≡ Ok tt → (split_of r.len (control_size r.max_packet_size)).count ≡ 1
planned_one_descriptor r words e =
    let f = plannable r words e in
    one_descriptor r.len r.max_packet_size f.short f.small

-- A stage of one descriptor fits where its descriptor and its bytes do.
pub one_fits :
    (role : Dwc2StageRole) (hcchar : ℕ) (pid : Dwc2Pid) (addr base len words : ℕ) → 2 * (base + 1) ≤ words → addr + len ≤ 4_294_967_295
    → StageFits (stage_of role hcchar pid addr base 1 len) words
one_fits role hcchar pid addr base len words room reach = record { some = omega arith; room = room; full = omega arith; reach = reach }

-- the plan and the stages where there is data, and where there is none
abbrev plan_if : ControlRequest → Bool → Dwc2ControlPlan
plan_if r b =
    record {
      setup = setup_stage r;
      «data» = cond b (Some (data_stage_of r)) None;
      status = cond b (status_stage r 2) (status_stage r 1);
    }

abbrev stages_if : ControlRequest → Bool → List Dwc2TransferStage
stages_if r b = cond b (setup_stage r ∷ data_stage_of r ∷ status_stage r 2 ∷ []) (setup_stage r ∷ status_stage r 1 ∷ [])

-- With data the plan has three stages, laid out one behind the other.
pub planned_with_data :
    (r : ControlRequest) (array : List ℕ) {s d t : Dwc2TransferStage} {one two three : List ℕ} → 0 < r.len → s ≡ setup_stage r → d ≡ data_stage_of r
    → t ≡ status_stage r 2 → one ≡ laid_stage s array → two ≡ laid_stage d one → three ≡ laid_stage t two
    → (record { setup = s; «data» = Some d; status = t } ≡ planned_control r)
    × (three ≡ laid_out (control_stages r) array)
planned_with_data r array some p q k first second third =
    let has : true ≡ has_data_stage r = sym (lt-ltb 0 r.len some) in (
      rw (p, q, k) (ap (plan_if r) has),
      third ∙ ap₂ laid_stage k (second ∙ ap₂ laid_stage q (first ∙ ap (λ (x : Dwc2TransferStage). laid_stage x array) p))
          ∙ ap (λ (b : Bool). laid_out (stages_if r b) array) has,
    )

-- Without data it has two.
pub planned_without :
    (r : ControlRequest) (array : List ℕ) {s t : Dwc2TransferStage} {one two : List ℕ} → r.len ≤ 0 → s ≡ setup_stage r
    → t ≡ status_stage r 1 → one ≡ laid_stage s array → two ≡ laid_stage t one
    → (record { setup = s; «data» = None; status = t } ≡ planned_control r)
    × (two ≡ laid_out (control_stages r) array)
planned_without r array none p k first second =
    let has : false ≡ has_data_stage r = sym (le-ltb 0 r.len none) in (
      rw (p, k) (ap (plan_if r) has),
      second ∙ ap₂ laid_stage k (first ∙ ap (λ (x : Dwc2TransferStage). laid_stage x array) p)
          ∙ ap (λ (b : Bool). laid_out (stages_if r b) array) has,
    )
