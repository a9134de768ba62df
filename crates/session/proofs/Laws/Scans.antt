-- What a walk over the tables finds: slots of the ring, and what a submission asks.
use mathlib.Core.Path.{◌≡◌, ◌∙◌, sym, ap, refl, subst⁻¹}
use Rattle.std.proofs.Common.{ap₂, take-add}
use Rattle.std.specs.List.{list_any}
use Rattle.std.proofs.lemmas.List.Folds.{list_any-append}
use mathlib.Core.Bool.{Bool, true, false, not, ◌||◌, ◌&&◌, cond}
use mathlib.Core.List.{List}
use Prim.Native.Nat.{ℕ, ◌+◌, ◌-◌, ◌≤◌, ◌<◌}
use native.Mathlib.Omega.{arith}
use lib.Dec.{leb, ltb}
use lib.ListN.{length, get_or, take, drop, length-drop}
use lib.Seq.{slice, get_or-take, get_or-drop, length-take-le}
use Rattle.std.specs.Prelude.{Option, Some, None}
use Rattle.std.specs.Option.{unwrap_or}
use borrow.Author.Tests.{ltb-false}
use Rattle.ring.specs.RingSums.{packet_limit, slots_from}
use Rattle.session.specs.declared.types.IsoChannelState.{IsoChannelState}
use Rattle.session.specs.declared.types.IsoPacketPlan.{IsoPacketPlan}
use Rattle.session.specs.declared.transfer.IsoTransfer.{IsoTransfer}
use Rattle.session.specs.declared.transfer.SubmitScan.{SubmitScan}
use Rattle.session.specs.Session.{blank_plan, slots, room, packets_of, all_packets, pending_packets, has_reason}
use Rattle.session.specs.Place.{step_of, tail_slot, insert_at, insert_of}
use Rattle.session.specs.Way.{is_guarded, any_held, pending_plans}
use Rattle.session.specs.declared.record.RecordScan.{RecordScan}
use Rattle.session.specs.Scan.{Scanned, Found, Asked, none_asked}
use Rattle.session.specs.Record.{is_bad_config, is_bad_counts, is_bad_request, any_bad_request, is_bad_sums, is_bad_plan, any_bad_plan, is_bad_state, is_bad_record}
use Rattle.words.proofs.Laws.Tests.{neither}
use Rattle.session.proofs.Laws.Sums.{packets_split}
use Rattle.session.proofs.Laws.Record.{good_plans}
use Rattle.session.proofs.Laws.Tables.{part}

-- the slots of a part of the plans in use, where none of these is bad
pub slots_below :
    (limit size all f : ℕ) (plans : List IsoPacketPlan) → any_bad_plan limit size (take all plans) ≡ false → size ≤ 256 → all ≤ length plans → f ≤ all
    → (i : ℕ) → i < length (take (all - f) (drop f plans)) → (get_or (take (all - f) (drop f plans)) i blank_plan).desc_index < 256
slots_below limit size all f plans e few fits h i l =
    let within : i < all - f = omega (arith, l, length-take-le (all - f) (drop f plans) (omega (arith, length-drop f plans))) in
    let same : get_or (take (all - f) (drop f plans)) i blank_plan ≡ get_or (take all plans) (f + i) blank_plan =
    get_or-take (all - f) (drop f plans) i blank_plan within
    ∙ get_or-drop f plans i blank_plan
    ∙ sym (get_or-take all plans (f + i) blank_plan (omega arith)) in
    let good = good_plans limit size (take all plans) e (f + i) (omega (arith, length-take-le all plans fits)) in
    omega (arith, ap (λ (p : IsoPacketPlan). p.desc_index) same, good.slot)

-- a count of packets that is there, and one that is not
counted_none : (b : Bool) (m : ℕ) → None ≡ cond b None (Some m) → b ≡ true
counted_none true m e = refl
counted_none false m e = grind arith

pub counted_some : (b : Bool) {n m : ℕ} → Some n ≡ cond b None (Some m) → (b ≡ false) × (n ≡ m)
counted_some true e = grind arith
counted_some false e = (refl, grind arith)

-- a first part of a list and what stands behind it, up to an end
parts : {A : Type 0} (test : A → Bool) (from to : ℕ) (l : List A) → from ≤ to
    → list_any test (take to l) ≡ (list_any test (take from l) || list_any test (take (to - from) (drop from l)))
parts test from to l h =
    let all : from + (to - from) ≡ to = omega (arith, h) in
    sym (ap (λ (n : ℕ). list_any test (take n l)) all)
    ∙ ap (list_any test) (take-add from (to - from) l)
    ∙ list_any-append test (take from l) (take (to - from) (drop from l))

-- what the walk counts, from what its tests answered
module _ (s : IsoChannelState) (long : length s.requests ≡ 64) {config : Bool} (is : config ≡ is_bad_config s.cfg) (past : (config || is_bad_counts s) ≡ false) where
  past_counts : (is_bad_config s.cfg || is_bad_counts s) ≡ false
  past_counts = ap (λ (b : Bool). b || is_bad_counts s) (sym is) ∙ past

  abbrev fits : (ltb s.head.count s.head.done ≡ false) × (ltb 64 s.head.count ≡ false)
  fits = neither (ltb s.head.count s.head.done) (ltb 64 s.head.count) (neither (is_bad_config s.cfg) (is_bad_counts s) past_counts).1

  done_in : s.head.done ≤ s.head.count
  done_in = ltb-false s.head.count s.head.done fits.0

  pub pending_is : packets_of (take (s.head.count - s.head.done) (drop s.head.done s.requests)) ≡ pending_packets s
  pending_is = ap packets_of (part s.head.done s.head.count s.requests done_in)

  pub pending_in : pending_packets s ≤ all_packets s
  pending_in =
      let within : s.head.count ≤ length s.requests = omega (arith, ltb-false 64 s.head.count fits.1) in
      omega (arith, packets_split s.head.done s.head.count s.requests done_in within)

  -- the completed requests and the pending ones, each counted where none is bad
  abbrev Done : Option ℕ → Type 0
  Done r = r ≡ cond (any_bad_request (take s.head.done s.requests)) None (Some (packets_of (take s.head.done s.requests)))

  abbrev Pending : Option ℕ → Type 0
  Pending r =
      let rs = take (s.head.count - s.head.done) (drop s.head.done s.requests) in
      r ≡ cond (any_bad_request rs) None (Some (packets_of rs))

  both_parts :
      any_bad_request (slice 0 s.head.count s.requests)
      ≡ (any_bad_request (take s.head.done s.requests) || any_bad_request (take (s.head.count - s.head.done) (drop s.head.done s.requests)))
  both_parts = parts is_bad_request s.head.done s.head.count s.requests done_in

  bad_requests : any_bad_request (slice 0 s.head.count s.requests) ≡ true → is_bad_record s ≡ true
  bad_requests e = rw (past_counts, e)

  pub bad_done : Done None → is_bad_record s ≡ true
  bad_done e =
      let bad = counted_none (any_bad_request (take s.head.done s.requests)) _ e in
      bad_requests
      (both_parts ∙ ap (λ (b : Bool). b || any_bad_request (take (s.head.count - s.head.done) (drop s.head.done s.requests))) bad)

  module _ {before : ℕ} (ed : Done (Some before)) where
    clear : any_bad_request (take s.head.done s.requests) ≡ false
    clear = (counted_some (any_bad_request (take s.head.done s.requests)) ed).0

    pub bad_pending : Pending None → is_bad_record s ≡ true
    bad_pending e =
        let rs = take (s.head.count - s.head.done) (drop s.head.done s.requests) in
        let bad = counted_none (any_bad_request rs) _ e in
        bad_requests (both_parts ∙ ap₂ (λ (a b : Bool). a || b) clear bad)

    module _ {pending : ℕ} (ep : Pending (Some pending)) where
      pub none_bad : false ≡ any_bad_request (slice 0 s.head.count s.requests)
      none_bad =
          let rs = take (s.head.count - s.head.done) (drop s.head.done s.requests) in
          sym (both_parts ∙ ap₂ (λ (a b : Bool). a || b) clear (counted_some (any_bad_request rs) ep).0)

      pub its_pending : pending ≡ pending_packets s
      its_pending =
          let rs = take (s.head.count - s.head.done) (drop s.head.done s.requests) in
          (counted_some (any_bad_request rs) ep).1 ∙ pending_is

      pub its_all : before + pending ≡ all_packets s
      its_all =
          let within : s.head.count ≤ length s.requests = omega (arith, long, ltb-false 64 s.head.count fits.1) in
          omega
          (arith, (counted_some (any_bad_request (take s.head.done s.requests)) ed).1, its_pending, packets_split s.head.done s.head.count s.requests done_in within)

  -- the tests that follow decide, one behind the other
  module _ {requests : Bool} (er : requests ≡ any_bad_request (slice 0 s.head.count s.requests)) (good : requests ≡ false) {all pending most : ℕ}
      (ea : all ≡ all_packets s) (ep : pending ≡ pending_packets s) (em : most ≡ room s.cfg) where
    past_requests : any_bad_request (slice 0 s.head.count s.requests) ≡ false
    past_requests = sym er ∙ good

    sums_are : (ltb 1024 all || ltb most pending) ≡ is_bad_sums s
    sums_are = rw (ea, ep, em)

    pub bad_sums : (ltb 1024 all || ltb most pending) ≡ true → is_bad_record s ≡ true
    bad_sums e = let sums : is_bad_sums s ≡ true = sym sums_are ∙ e in rw (past_counts, past_requests, sums)

    pub few_plans : (ltb 1024 all || ltb most pending) ≡ false → all ≤ 1024
    few_plans e = ltb-false 1024 all (neither (ltb 1024 all) (ltb most pending) e).0

    -- the plans of completed requests and of pending ones are all plans in use
    pub plan_parts :
        (limit size before : ℕ) → before ≤ all
        → (any_bad_plan limit size (take before s.plans) || any_bad_plan limit size (take (all - before) (drop before s.plans))) ≡ any_bad_plan limit size (take all s.plans)
    plan_parts limit size before h = sym (parts (is_bad_plan limit size) before all s.plans h)

    pub bad_left :
        {limit size : ℕ} {plans : Bool} → (ltb 1024 all || ltb most pending) ≡ false → limit ≡ packet_limit s.cfg.speed → size ≡ slots s.cfg
        → plans ≡ any_bad_plan limit size (take all s.plans) → plans ≡ true
        → is_bad_record s ≡ true
    bad_left e el ez eb is =
        let sums : is_bad_sums s ≡ false = sym sums_are ∙ e in
        let bad : any_bad_plan (packet_limit s.cfg.speed) (slots s.cfg) (slice 0 (all_packets s) s.plans) ≡ true = rw (← el, ← ez, ← ea, ← eb) is in
        rw (past_counts, past_requests, sums, bad)

    pub not_bad_left :
        {limit size : ℕ} {plans state : Bool} → (ltb 1024 all || ltb most pending) ≡ false → limit ≡ packet_limit s.cfg.speed → size ≡ slots s.cfg
        → plans ≡ any_bad_plan limit size (take all s.plans)
        → state ≡ (leb size s.head.td_last || not s.head.live && (ltb s.head.done s.head.count || has_reason s.fatal))
        → (plans || state) ≡ false → is_bad_record s ≡ false
    not_bad_left {plans = plans} {state = state} e el ez eb es left =
        let n = neither plans state left in
        let sums : is_bad_sums s ≡ false = sym sums_are ∙ e in
        let none : any_bad_plan (packet_limit s.cfg.speed) (slots s.cfg) (slice 0 (all_packets s) s.plans) ≡ false = rw (← el, ← ez, ← ea, ← eb) n.0 in
        let well : is_bad_state s ≡ false = rw (← ez, ← es) n.1 in
        rw (past_counts, past_requests, sums, none, well)

-- nothing is found of a bad record
pub scanned_none : (s : IsoChannelState) {r : Option RecordScan} → r ≡ None → is_bad_record s ≡ true → Scanned s r
scanned_none s e bad = subst⁻¹ (Scanned s) e bad

-- what was asked of a record that is not bad
pub asked_found :
    (s : IsoChannelState) (t : IsoTransfer) (lengths ring : List ℕ) (scan : Option SubmitScan) → Asked s t lengths ring scan → is_bad_record s ≡ false
    → Found s t lengths ring (unwrap_or scan none_asked)
asked_found s t lengths ring None bad good = let z : ◌≡◌ {A = ℕ} 0 1 = ap (λ (b : Bool). cond b 0 1) (sym bad ∙ good) in absurd (omega arith)
asked_found s t lengths ring (Some r) asked good = asked.1

module _ (s : IsoChannelState) (t : IsoTransfer) (lengths ring : List ℕ) (r : SubmitScan) where
  -- in a good record: the first packet's slot goes by the newest's, the clash by that slot
  pub found_at :
      {tail : ℕ} → r.all ≡ all_packets s → r.pending ≡ pending_packets s → tail ≡ tail_slot s
      → r.insert ≡ insert_at s.cfg s.head t tail ring
      → (length lengths ≤ 255 → r.clash
      ≡ (is_guarded s.cfg.mode && any_held (pending_plans s) (slots_from (slots s.cfg) r.insert (step_of s.cfg) 0 (length lengths))))
      → Found s t lengths ring r
  found_at ea ep et ei ec =
      let there : r.insert ≡ insert_of s t ring = ei ∙ ap (λ (x : ℕ). insert_at s.cfg s.head t x ring) et in
      record {
        all = ea;
        pending = ep;
        insert = there;
        clash = λ few.
            ec few
            ∙ ap (λ (i : ℕ).
            is_guarded s.cfg.mode && any_held (pending_plans s) (slots_from (slots s.cfg) i (step_of s.cfg) 0 (length lengths))) there;
      }
