-- What was written is read back: numbers, cases and entries.
use Rattle.std.proofs.Common.{Option, Some, None, ◌≡◌, ℕ, ◌+◌, ◌*◌, ◌/◌, ◌%◌, Bool, true, false, not, ◌||◌, ltb, List, ◌++◌, sym, refl, ap, ◌∙◌, ap₂, arith}
use Rattle.ring.specs.declared.speed.Speed.{Speed}
use Rattle.ring.specs.declared.speed.Speed.TheVariants.{High, Full, Low}
use Rattle.words.specs.Numbers.{fault_bit}
use Rattle.words.specs.declared.types.Direction.{Direction}
use Rattle.words.specs.declared.types.Direction.TheVariants.{Out, In}
use Rattle.words.specs.declared.types.Dwc2TransferFault.{Dwc2TransferFault}
use Rattle.words.specs.declared.types.Dwc2TransferFault.TheVariants as fault
use Rattle.session.specs.declared.types.IsoMode.{IsoMode}
use Rattle.session.specs.declared.types.IsoMode.TheVariants.{Compatible, Guarded}
use Rattle.session.specs.declared.types.TransferStatus.{TransferStatus}
use Rattle.session.specs.declared.types.TransferStatus.TheVariants.{Completed, Error}
use Rattle.session.specs.declared.types.IsoOutcome.{IsoOutcome}
use Rattle.session.specs.declared.types.IsoOutcome.TheVariants as outcome
use Rattle.session.specs.declared.types.IsoHaltReason.TheVariants as reason
use Rattle.session.specs.declared.types.IsoHaltReason.{IsoHaltReason}
use Rattle.session.specs.declared.types.IsoRequest.{IsoRequest}
use Rattle.session.specs.declared.types.IsoPacketPlan.{IsoPacketPlan}
use Rattle.port.specs.declared.tags.Tagged.{Tagged}
use Rattle.port.specs.Bytes.{byte_of, u16_of, u32_of, u64_of, u16_bytes, u32_bytes, u64_bytes}
use Rattle.port.specs.Tags.{speed_tag, speed_of, direction_tag, direction_of, mode_tag, mode_of, status_tag, status_of, flag_tag, flag_of, fault_of, is_fault}
use Rattle.port.specs.Tags.{tagged, tagged_bytes, tagged_of, outcome_tagged, outcome_of, fatal_tagged, fatal_of, is_bad_tagged}
use Rattle.port.specs.Layout.{request_bytes, request_of, is_bad_request_bytes, plan_bytes, plan_of, is_bad_plan_bytes}
use Rattle.port.proofs.Laws.Entries.{request_at_lem, plan_at}

-- ---- numbers: the two halves of a number, put together

abbrev pub joined16 : ℕ → ℕ
joined16 x = x % 256 + 256 * (x / 256)

abbrev pub joined32 : ℕ → ℕ
joined32 x = joined16 (x % 65536) + 65536 * joined16 (x / 65536)

abbrev pub joined64 : ℕ → ℕ
joined64 x = joined32 (x % 4294967296) + 4294967296 * joined32 (x / 4294967296)

pub join16 : (x : ℕ) → joined16 x ≡ x
join16 x = omega arith

pub join32 : (x : ℕ) → joined32 x ≡ x
join32 x =
    let halves : x % 65536 + 65536 * (x / 65536) ≡ x = omega arith in
    ap₂ (λ (a b : ℕ). a + 65536 * b) (join16 (x % 65536)) (join16 (x / 65536)) ∙ halves

pub join64 : (x : ℕ) → joined64 x ≡ x
join64 x =
    let halves : x % 4294967296 + 4294967296 * (x / 4294967296) ≡ x = omega arith in
    ap₂ (λ (a b : ℕ). a + 4294967296 * b) (join32 (x % 4294967296)) (join32 (x / 4294967296)) ∙ halves

-- ---- cases

pub speed_back : (s : Speed) → s ≡ speed_of (speed_tag s)
speed_back High = refl
speed_back Full = refl
speed_back Low = refl

pub direction_back : (d : Direction) → d ≡ direction_of (direction_tag d)
direction_back Out = refl
direction_back In = refl

pub mode_back : (m : IsoMode) → m ≡ mode_of (mode_tag m)
mode_back Compatible = refl
mode_back Guarded = refl

pub status_back : (s : TransferStatus) → s ≡ status_of (status_tag s)
status_back Completed = refl
status_back Error = refl

pub flag_back : (b : Bool) → b ≡ flag_of (flag_tag b)
flag_back true = refl
flag_back false = refl

fault_back : (k : Dwc2TransferFault) → k ≡ fault_of (fault_bit k)
fault_back fault.Ahb = refl
fault_back fault.Stall = refl
fault_back fault.Babble = refl
fault_back fault.Transaction = refl
fault_back fault.FrameOverrun = refl
fault_back fault.DataToggle = refl

fault_known : (k : Dwc2TransferFault) → is_fault (fault_bit k) ≡ true
fault_known fault.Ahb = refl
fault_known fault.Stall = refl
fault_known fault.Babble = refl
fault_known fault.Transaction = refl
fault_known fault.FrameOverrun = refl
fault_known fault.DataToggle = refl

outcome_back : (o : IsoOutcome) → o ≡ outcome_of (outcome_tagged o)
outcome_back outcome.Done = refl
outcome_back outcome.Disconnected = refl
outcome_back outcome.Cancelled = refl
outcome_back (outcome.Fault kind word) = ap (λ (k : Dwc2TransferFault). outcome.Fault k word) (fault_back kind)
outcome_back (outcome.UnexpectedHalt word) = refl

pub fatal_back : (f : Option IsoHaltReason) → f ≡ fatal_of (fatal_tagged f)
fatal_back None = refl
fatal_back (Some reason.Cancelled) = refl
fatal_back (Some (reason.Fault kind word)) = ap (λ (k : Dwc2TransferFault). Some (reason.Fault k word)) (fault_back kind)

outcome_good : (o : IsoOutcome) → is_bad_tagged 3 4 (outcome_tagged o) ≡ false
outcome_good outcome.Done = refl
outcome_good outcome.Disconnected = refl
outcome_good outcome.Cancelled = refl
outcome_good (outcome.Fault kind word) = ap (λ (b : Bool). not b || false) (fault_known kind)
outcome_good (outcome.UnexpectedHalt word) = refl

pub fatal_good : (f : Option IsoHaltReason) → is_bad_tagged 2 2 (fatal_tagged f) ≡ false
fatal_good None = refl
fatal_good (Some reason.Cancelled) = refl
fatal_good (Some (reason.Fault kind word)) = ap (λ (b : Bool). not b || false) (fault_known kind)

pub tagged_back : (t : Tagged) (ys : List ℕ) → t ≡ tagged_of (tagged_bytes t ++ ys)
unfolding tagged_of tagged_bytes byte_of u32_of u16_of u32_bytes u16_bytes
tagged_back t ys = ap (tagged t.tag t.kind) (sym (join32 t.word))

-- ---- entries

pub request_back : (r : IsoRequest) (ys : List ℕ) → request_of (request_bytes r ++ ys) ≡ r
unfolding request_bytes u64_of u32_of u16_of u64_bytes u32_bytes u16_bytes
request_back r ys =
    sym
    (request_at_lem (request_bytes r ++ ys) 0 r.id r.packets r.actual_length (outcome_tagged r.outcome) r.outcome
    (sym (join64 r.id)) (sym (join16 r.packets)) (sym (join32 r.actual_length)) (tagged_back (outcome_tagged r.outcome) ys)
    (outcome_back r.outcome))

pub request_good : (r : IsoRequest) (ys : List ℕ) → is_bad_request_bytes (request_bytes r ++ ys) ≡ false
unfolding is_bad_request_bytes request_bytes u64_bytes u32_bytes u16_bytes
request_good r ys = ap (is_bad_tagged 3 4) (sym (tagged_back (outcome_tagged r.outcome) ys)) ∙ outcome_good r.outcome

pub plan_back : (p : IsoPacketPlan) (ys : List ℕ) → plan_of (plan_bytes p ++ ys) ≡ p
unfolding plan_bytes byte_of u16_of u16_bytes
plan_back p ys =
    sym
    (plan_at (plan_bytes p ++ ys) 0 p.planned p.desc_index p.actual (status_tag p.status) p.status
    (sym (join16 p.planned)) (sym (join16 p.desc_index)) (sym (join16 p.actual)) refl (status_back p.status))

pub plan_good : (p : IsoPacketPlan) (ys : List ℕ) → is_bad_plan_bytes (plan_bytes p ++ ys) ≡ false
unfolding is_bad_plan_bytes plan_bytes byte_of u16_bytes
plan_good p ys = by_status p.status
  where
    by_status : (s : TransferStatus) → ltb 1 (status_tag s) ≡ false
    by_status Completed = refl
    by_status Error = refl
