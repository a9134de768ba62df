-- A submission on the bytes of a session: the packets' plans, the request and the numbers, each written where it stands, are the submission's session.
-- Bytes of the layout are as if all entries in use were written, so each entry that is added is the next behind those written.
use Rattle.std.proofs.Common.{Option, ◌≡◌, ℕ, suc, ◌+◌, ◌*◌, ◌<◌, ◌≤◌, min, List, [], ◌∷◌, ◌++◌, length, get_or, take, drop, sym, refl, ap, ◌∙◌, subst, ap₂, zero-add, arith, length-take-le, get_or-take}
use lib.Seq.{slice, sets}
use Rattle.ring.specs.RingSums.{slot_at}
use Rattle.session.specs.declared.types.IsoConfig.{IsoConfig}
use Rattle.session.specs.declared.types.IsoHaltReason.{IsoHaltReason}
use Rattle.session.specs.declared.types.IsoHead.{IsoHead}
use Rattle.session.specs.declared.types.IsoRequest.{IsoRequest}
use Rattle.session.specs.declared.types.IsoPacketPlan.{IsoPacketPlan}
use Rattle.session.specs.declared.types.IsoChannelState.{IsoChannelState}
use Rattle.session.specs.declared.transfer.IsoTransfer.{IsoTransfer}
use Rattle.session.specs.declared.transfer.SubmitParts.{SubmitParts}
use Rattle.session.specs.declared.transfer.Submitted.{Submitted}
use Rattle.session.specs.Session.{blank_plan, packets_of, all_packets}
use Rattle.session.specs.Place.{plans_from}
use Rattle.session.specs.Submit.{new_request, submitted}
use Rattle.session.specs.Parts.{requests_with, plans_with, joined, Fitting}
use Rattle.session.proofs.Laws.Lists.{slice_pushed}
use Rattle.session.proofs.Laws.Stores.{new_plan, length-plans_from, get_or-plans_from}
use Rattle.session.proofs.Laws.Submits.{pushed}
use Rattle.session.proofs.Laws.Sums.{packets_append}
use Rattle.session.specs.Scan.{whole}
use Rattle.port.specs.Tags.{tagged_of, fatal_of}
use Rattle.port.specs.Layout.{config_of, head_of, head_bytes, request_bytes, is_bad_request_bytes, plan_bytes, is_bad_plan_bytes, table_bytes}
use Rattle.port.specs.Layout.{layout_number, session_of, requests_in, plans_in, front, kept}
use Rattle.port.specs.Places.{with_plans, Kept}
use Rattle.port.specs.Calls.{grown_bytes}
use Rattle.port.specs.Submit.{Grown}
use Rattle.port.proofs.Laws.Runs.{sets_append}
use Rattle.port.proofs.Laws.Entries.{length_request, length_plan}
use Rattle.port.proofs.Laws.Loaded.{session_at}
use Rattle.port.proofs.Laws.Calls.{long_enough}
use Rattle.port.proofs.Laws.Kept.{Octets}
use Rattle.port.proofs.Laws.Left.{left_is, kept_head, next_request, next_plan}
use Rattle.port.proofs.Laws.Over.{kept_good}
use Rattle.port.proofs.Laws.Placed.{requests_many}
use Rattle.port.proofs.Laws.Walks.{requests_in_lem, plans_in_lem}
use Rattle.port.proofs.Canonical.{loaded_left, requests_clear, plans_clear}

-- ---- the plans of n packets

module _ (R insert step n : ℕ) (lengths : List ℕ) (fits : n ≤ length lengths) where
  pub length_packets : length (plans_from R insert step 0 (take n lengths)) ≡ n
  length_packets = length-plans_from R insert step 0 (take n lengths) ∙ length-take-le n lengths fits

  pub packet_there :
      (i slot : ℕ) → i < n → slot ≡ slot_at R insert step i
      → new_plan (get_or lengths i 0) slot ≡ get_or (plans_from R insert step 0 (take n lengths)) i blank_plan
  packet_there i slot h e =
      ap₂ new_plan (sym (get_or-take n lengths i 0 h)) (e ∙ ap (slot_at R insert step) (sym (zero-add i)))
      ∙ sym (get_or-plans_from R insert step 0 (take n lengths) i (omega (arith, length-take-le n lengths fits)))

-- the same bytes, by other names of the numbers
kept_named :
    {n m i j : ℕ} {xs ys : List ℕ} {s t : IsoChannelState} → Kept n m xs ys s → n ≡ i → m ≡ j → s ≡ t → Kept i j xs ys t
kept_named {n} {j = j} {xs} {ys} {s} k en em e =
    left_is (subst (λ (a : ℕ). Kept a j xs ys s) en (subst (λ (a : ℕ). Kept n a xs ys s) em k)) e

-- bytes of the layout, in the place of themselves: each entry in use is as it is written
in_use_written :
    (xs : List ℕ) → Octets xs → layout_number xs ≡ 0 → Kept (requests_in (session_of xs)) (plans_in (session_of xs)) xs xs (session_of xs)
unfolding kept
in_use_written xs octets z =
    let s : IsoChannelState = session_of xs in
    record {
      bytes =
          (loaded_left xs z octets).bytes
          ∙ ap₂ (λ (r p : List ℕ). front s ++ r ++ p ++ drop 8488 xs)
          (kept_good request_bytes is_bad_request_bytes 20 length_request (requests_in s) s.requests (drop 40 xs) (requests_clear xs z))
          (kept_good plan_bytes is_bad_plan_bytes 7 length_plan (plans_in s) s.plans (drop 1320 xs) (plans_clear xs z));
      holds = refl;
    }

-- plans written behind one another, the first of them behind those that were written
plans_put :
    {n m to : ℕ} {xs now next : List ℕ} {s : IsoChannelState} → 8488 ≤ length xs → Kept n m xs now s → (ps : List IsoPacketPlan) → m + length ps ≡ to
    → to ≤ 1024
    → next ≡ sets now (1320 + 7 * m) (table_bytes plan_bytes ps)
    → Kept n to xs next (with_plans s (sets s.plans m ps))
unfolding table_bytes
plans_put {n} {m} {to} {xs} {now} {next} {s} enough k [] ends fits e =
    kept_named (subst (λ (l : List ℕ). Kept n m xs l s) (sym e) k) refl (omega arith) refl
plans_put {n} {m} {to} {xs} {now} {next} {s} enough k (p ∷ ps) ends fits e =
    let on : 1320 + 7 * m + length (plan_bytes p) ≡ 1320 + 7 * suc m = omega (arith, length_plan p) in
    let one : List ℕ = sets now (1320 + 7 * m) (plan_bytes p) in
    plans_put {m = suc m} enough (next_plan {next = one} enough k p (omega arith) refl) ps (omega arith) fits
    (e
    ∙ sym (sets_append (plan_bytes p) now (1320 + 7 * m) (table_bytes plan_bytes ps))
    ∙ ap (λ (i : ℕ). sets one i (table_bytes plan_bytes ps)) on)

-- ---- what is added, and the numbers

-- the parts that are read where they stand, with the tables, are the session
pub parts_read :
    (xs : List ℕ) {cfg : IsoConfig} {head : IsoHead} {fatal : Option IsoHaltReason} → cfg ≡ config_of xs → head ≡ head_of xs
    → fatal ≡ fatal_of (tagged_of (drop 34 xs))
    → whole cfg head fatal (session_of xs).requests (session_of xs).plans ≡ session_of xs
unfolding session_of
parts_read xs ec eh ef = session_at xs ec eh refl ef refl refl

module _ (xs : List ℕ) (octets : Octets xs) (z : layout_number xs ≡ 0) (lengths : List ℕ) (r : SubmitParts) where
  abbrev s : IsoChannelState
  s = session_of xs

  -- the session that the submission leaves
  abbrev left : IsoChannelState
  left = (joined s r lengths).session

  -- the packets' plans
  abbrev packets : ℕ → List IsoPacketPlan
  packets n = plans_from r.slots r.insert r.step 0 (take n lengths)

  long : 8488 ≤ length xs
  long = long_enough xs refl z

  pub none_put : r.added ≤ 0 → (r.added ≡ 0 → r.head.count ≡ s.head.count) → Grown xs xs r lengths
  none_put h same =
      let none : r.added ≡ 0 = omega arith in
      let as_many : s.head.count ≡ r.head.count = sym (same none) in
      let as_they_were : s.requests ≡ requests_with s r.added = ap (requests_with s) (sym none) in
      kept_named (in_use_written xs octets z) (ap (λ (n : ℕ). min n 64) as_many)
      (ap₂ (λ (n : ℕ) (l : List IsoRequest). min (packets_of (slice 0 (min n 64) l)) 1024) as_many as_they_were)
      (ap (λ (n : ℕ). whole s.cfg s.head s.fatal (requests_with s n) (sets s.plans r.to (packets n))) (sym none))

  module _ (some : 0 < r.added) (fit : Fitting s r lengths) where
    abbrev new : IsoRequest
    new = new_request s.head.next_request_id r.added

    -- the entries in use before, and those that the submission leaves in use
    few : s.head.count ≤ 64
    few = omega (arith, fit.requests)

    few_left : left.head.count ≤ 64
    few_left = omega (arith, fit.requests, fit.counted)

    plans_before : plans_in s ≡ r.to
    plans_before = plans_in_lem s few (omega (arith, fit.behind, fit.plans)) ∙ sym fit.behind

    packets_left : all_packets left ≡ r.to + r.added
    packets_left =
        ap₂ (λ (n : ℕ) (l : List IsoRequest). packets_of (slice 0 n l)) fit.counted (pushed s r.added some)
        ∙ ap packets_of (slice_pushed 0 s.head.count s.requests new (omega arith) (omega (arith, fit.requests, requests_many xs)))
        ∙ packets_append (slice 0 s.head.count s.requests) (new ∷ [])
        ∙ omega (arith, fit.behind)

    pub some_put :
        {head : IsoHead} {q : IsoRequest} {one two : List ℕ} → head ≡ s.head
        → one ≡ sets xs (1320 + 7 * r.to) (table_bytes plan_bytes (packets r.added))
        → q ≡ new_request head.next_request_id r.added
        → two ≡ sets one (40 + 20 * head.count) (request_bytes q)
        → Grown xs two r lengths
    some_put {head} {q} {one} eh e eq f =
        let asked : q ≡ new = eq ∙ ap (λ (h : IsoHead). new_request h.next_request_id r.added) eh in
        let ends : r.to + length (packets r.added) ≡ r.to + r.added =
        omega (arith, length_packets r.slots r.insert r.step r.added lengths (omega (arith, fit.every))) in
        let before = kept_named (in_use_written xs octets z) (requests_in_lem s few) plans_before refl in
        let planned = plans_put long before (packets r.added) ends fit.plans e in
        let put =
        next_request long planned new fit.requests
        (f ∙ ap₂ (λ (h : IsoHead) (x : IsoRequest). sets one (40 + 20 * h.count) (request_bytes x)) eh asked) in
        let more : suc s.head.count ≡ requests_in left = omega (arith, fit.counted, requests_in_lem left few_left) in
        let behind : r.to + r.added ≡ plans_in left =
        sym (plans_in_lem left few_left (omega (arith, packets_left, fit.plans)) ∙ packets_left) in
        kept_named put more behind
        (ap (λ (l : List IsoRequest). whole s.cfg s.head s.fatal l (plans_with s r lengths)) (sym (pushed s r.added some)))

  pub numbers_put :
      (t : IsoTransfer) (ring : List ℕ) {two three : List ℕ} → Grown xs two r lengths → three ≡ sets two 15 (head_bytes r.head)
      → joined s r lengths ≡ submitted s t lengths ring
      → three ≡ grown_bytes xs (submitted s t lengths ring).session
  numbers_put t ring k f j = (kept_head long k r.head f).bytes ∙ ap (λ (x : Submitted). grown_bytes xs x.session) j
