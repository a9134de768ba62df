-- The laws of a submission's ends: what the code leaves on each way, part by part, is what the definition leaves.
use mathlib.Core.Path.{◌≡◌, refl, ◌∙◌, sym, ap, ap₂, subst⁻¹}
use mathlib.Core.Bool.{Bool, true, false, not, ◌&&◌, cond}
use mathlib.Core.List.{List}
use mathlib.Core.Logic.{◌⊎◌, ⊎_elim}
use Prim.Native.Nat.{ℕ, ◌+◌, ◌*◌, ◌≤◌, ◌<◌}
use Rattle.std.specs.Prelude.{Option, Some, None, Result}
use native.Mathlib.Omega.{arith}
use lib.Dec.{T, ltb}
use lib.ListN.{length, set, take}
use lib.Seq.{sets, take_all}
use borrow.Author.Tests.{lt-ltb, ne_eqb}
use Rattle.ring.specs.RingSums.{slot_at}
use Rattle.session.specs.declared.types.IsoHead.{IsoHead}
use Rattle.session.specs.declared.types.IsoRequest.{IsoRequest}
use Rattle.session.specs.declared.types.IsoPacketPlan.{IsoPacketPlan}
use Rattle.session.specs.declared.types.IsoChannelState.{IsoChannelState}
use Rattle.session.specs.declared.transfer.IsoTransfer.{IsoTransfer}
use Rattle.session.specs.declared.transfer.SubmitWay.{SubmitWay}
use Rattle.session.specs.declared.transfer.SubmitWay.TheVariants.{Refuse, TooLong, Spend, Early, Cut, Late, Accept}
use Rattle.session.specs.declared.transfer.IsoChannelStart.{IsoChannelStart}
use Rattle.session.specs.declared.transfer.IsoSubmission.{IsoSubmission}
use Rattle.session.specs.declared.refusal.IsoRefusal.{IsoRefusal}
use Rattle.session.specs.declared.transfer.Submitted.{Submitted}
use Rattle.session.specs.declared.transfer.SubmitParts.{SubmitParts}
use Rattle.session.specs.declared.transfer.SubmitScan.{SubmitScan}
use Rattle.session.specs.Session.{slots, all_packets}
use Rattle.session.specs.Record.{is_bad_record}
use Rattle.session.specs.Scan.{whole, only, Found, is_gate, added, head_after, ring_by}
use Rattle.ring.specs.Stores.{stored, stores_from}
use Rattle.session.specs.Place.{step_of, insert_of, plans_from}
use Rattle.session.specs.Way.{submit_way}
use Rattle.session.specs.Submit.{new_request, start_words, answer_of, start_after, session_after, ring_after, submitted_by, submitted_ring}
use Rattle.session.specs.Parts.{requests_with, plans_with, joined, Parted}
use Rattle.ring.proofs.Stores.{whole_plan}
use Rattle.session.proofs.Laws.Admitted.{Admitted, gate_admitted, acceptable, told_of}
use Rattle.session.proofs.Laws.Ways.{answer_by, ring_by_lem}

-- only an accepted submission adds packets
pub some_added : (way : SubmitWay) (count n : ℕ) → n ≡ added way count → 0 < n → (way ≡ Accept) × (n ≡ count)
some_added (Refuse k) count n e h = absurd (omega arith)
some_added (TooLong k) count n e h = absurd (omega arith)
some_added (Spend k) count n e h = absurd (omega arith)
some_added Early count n e h = absurd (omega arith)
some_added Cut count n e h = absurd (omega arith)
some_added Late count n e h = absurd (omega arith)
some_added Accept count n e h = (refl, e)

-- only an accepted submission counts a request more
module _ (s : IsoChannelState) (t : IsoTransfer) (slot : ℕ) where
  one_counted : (way : SubmitWay) → way ≡ Accept → (head_after way s.cfg s.head t slot).count ≡ s.head.count + 1
  one_counted way e = ap (λ (w : SubmitWay). (head_after w s.cfg s.head t slot).count) e

  none_counted : (way : SubmitWay) (n : ℕ) → 0 ≡ added way n → (way ≡ Accept → 0 < n) → (head_after way s.cfg s.head t slot).count ≡ s.head.count
  none_counted (Refuse k) n e h = refl
  none_counted (TooLong k) n e h = refl
  none_counted (Spend k) n e h = refl
  none_counted Early n e h = refl
  none_counted Cut n e h = refl
  none_counted Late n e h = refl
  none_counted Accept n e h = let some : 0 < n = h refl in absurd (omega arith)

-- an accepted submission passed every refusal
pub gate : (way : SubmitWay) → way ≡ Accept → T (is_gate way)
gate way e = subst⁻¹ (λ (w : SubmitWay). T (is_gate w)) e tt

-- the answer reads of the session its next number alone
pub answer_only : (way : SubmitWay) (s : IsoChannelState) → answer_of way (only s.cfg s.head) ≡ answer_of way s
answer_only (Refuse k) s = refl
answer_only (TooLong k) s = refl
answer_only (Spend k) s = refl
answer_only Early s = refl
answer_only Cut s = refl
answer_only Late s = refl
answer_only Accept s = refl

module _ (s : IsoChannelState) (t : IsoTransfer) (n : ℕ) where
  none_starts : n ≡ 0 → cond (ltb 0 n && not s.head.live) (Some (start_words (only s.cfg s.head) t)) None ≡ None
  none_starts e = rw e

  one_starts : 0 < n → cond (ltb 0 n && not s.head.live) (Some (start_words (only s.cfg s.head) t)) None ≡ cond s.head.live None (Some (start_words s t))
  one_starts h =
      ap (λ (b : Bool). cond (b && not s.head.live) (Some (start_words (only s.cfg s.head) t)) None) (lt-ltb 0 n h) ∙ turned s.head.live
    where
      turned : (live : Bool) → cond (not live) (Some (start_words s t)) None ≡ cond live None (Some (start_words s t))
      turned true = refl
      turned false = refl

  -- a channel starts where the submission adds packets and none is live
  pub start_by :
      (way : SubmitWay) (count : ℕ) → n ≡ added way count → (way ≡ Accept → 0 < count)
      → cond (ltb 0 n && not s.head.live) (Some (start_words (only s.cfg s.head) t)) None ≡ start_after way s t
  start_by (Refuse k) count e f = none_starts e
  start_by (TooLong k) count e f = none_starts e
  start_by (Spend k) count e f = none_starts e
  start_by Early count e f = none_starts e
  start_by Cut count e f = none_starts e
  start_by Late count e f = none_starts e
  start_by Accept count e f = let h : 0 < count = f refl in one_starts (omega arith)

-- where packets are added, a request is
pub pushed : (s : IsoChannelState) (n : ℕ) → 0 < n → requests_with s n ≡ set s.requests s.head.count (new_request s.head.next_request_id n)
pushed s n h =
    ap (λ (b : Bool). cond b s.requests (set s.requests s.head.count (new_request s.head.next_request_id n))) (ne_eqb n 0 (λ e. omega arith))

-- the ring: where the packets go is asked only past every refusal, and an accepted submission stores every word
module _ (s : IsoChannelState) (t : IsoTransfer) (lengths ring : List ℕ) (insert : ℕ) where
  pub ring_left_lem :
      (way : SubmitWay) → (T (is_gate way) → insert ≡ insert_of s t ring) → (way ≡ Accept → 2 * length lengths ≤ t.words)
      → ring_by way s.cfg t insert lengths ring ≡ ring_after way s t lengths ring
  ring_left_lem (Refuse k) at f = refl
  ring_left_lem (TooLong k) at f = refl
  ring_left_lem (Spend k) at f = refl
  ring_left_lem Early at f = refl
  ring_left_lem Cut at f = ap (λ (i : ℕ). stored (take t.words (stores_from (slots s.cfg) i (step_of s.cfg) 0 t.base lengths)) ring) (at tt)
  ring_left_lem Late at f = refl
  ring_left_lem Accept at f =
      whole_plan (slots s.cfg) insert (step_of s.cfg) 0 t.base t.words lengths ring (f refl)
      ∙ ap (λ (i : ℕ). stored (stores_from (slots s.cfg) i (step_of s.cfg) 0 t.base lengths) ring) (at tt)

  -- the session: a request and its plans behind the others where packets were added, else the tables as they were
  module _ (n all slot : ℕ) where
    abbrev planned : ℕ → List IsoPacketPlan
    planned k = sets s.plans all (plans_from (slots s.cfg) insert (step_of s.cfg) 0 (take k lengths))

    kept :
        (way : SubmitWay) → n ≡ 0
        → whole s.cfg (head_after way s.cfg s.head t slot) s.fatal (requests_with s n) (planned n)
        ≡ whole s.cfg (head_after way s.cfg s.head t slot) s.fatal s.requests s.plans
    kept way e = ap (λ (k : ℕ). whole s.cfg (head_after way s.cfg s.head t slot) s.fatal (requests_with s k) (planned k)) e

    pub session_left :
        (way : SubmitWay) → n ≡ added way (length lengths) → (T (is_gate way) → insert ≡ insert_of s t ring)
        → (way ≡ Accept → (all ≡ all_packets s) × (0 < length lengths)) → slot ≡ slot_at (slots s.cfg) insert (step_of s.cfg) n
        → whole s.cfg (head_after way s.cfg s.head t slot) s.fatal (requests_with s n) (planned n) ≡ session_after way s t lengths ring
    session_left (Refuse k) e at f last = kept (Refuse k) e
    session_left (TooLong k) e at f last = kept (TooLong k) e
    session_left (Spend k) e at f last = kept (Spend k) e
    session_left Early e at f last = kept Early e
    session_left Cut e at f last = kept Cut e
    session_left Late e at f last = kept Late e
    session_left Accept e at f last =
        let R = slots s.cfg in
        let step = step_of s.cfg in
        let i = insert_of s t ring in
        let after : slot ≡ slot_at R i step (length lengths) = last ∙ ap₂ (λ (a b : ℕ). slot_at R a step b) (at tt) e in
        let asked : requests_with s n ≡ set s.requests s.head.count (new_request s.head.next_request_id (length lengths)) =
        ap (requests_with s) e ∙ pushed s (length lengths) (f refl).1 in
        let plans : planned n ≡ sets s.plans (all_packets s) (plans_from R i step 0 lengths) =
        ap₂ (λ (a b : ℕ). sets s.plans a (plans_from R b step 0 (take n lengths))) (f refl).0 (at tt)
        ∙ ap (λ (l : List ℕ). sets s.plans (all_packets s) (plans_from R i step 0 l)) (take_all n lengths (omega arith)) in
        ap (λ (x : ℕ). whole s.cfg (head_after Accept s.cfg s.head t x) s.fatal (requests_with s n) (planned n)) after
        ∙ ap₂ (whole s.cfg (head_after Accept s.cfg s.head t (slot_at R i step (length lengths))) s.fatal) asked plans

-- the whole answer, from its parts
abbrev of : Result IsoSubmission IsoRefusal → Option IsoChannelStart → IsoChannelState → Submitted
of x y z = record { answer = x; start = y; session = z }

module _ (s : IsoChannelState) (t : IsoTransfer) (lengths ring : List ℕ) (r : SubmitParts) (way : SubmitWay) where
  abbrev placed : ℕ → ℕ → IsoHead → IsoChannelState
  placed R step h =
      whole s.cfg h s.fatal (requests_with s r.added) (sets s.plans r.to (plans_from R r.insert step 0 (take r.added lengths)))

  parts_by :
      (slot : ℕ) → r.slots ≡ slots s.cfg → r.step ≡ step_of s.cfg → r.added ≡ added way (length lengths)
      → (T (is_gate way) → r.insert ≡ insert_of s t ring)
      → (way ≡ Accept → (r.to ≡ all_packets s) × (0 < length lengths)) → slot ≡ slot_at r.slots r.insert r.step r.added
      → r.answer ≡ answer_of way (only s.cfg s.head)
      → r.start ≡ cond (ltb 0 r.added && not s.head.live) (Some (start_words (only s.cfg s.head) t)) None
      → r.head ≡ head_after way s.cfg s.head t slot
      → joined s r lengths ≡ submitted_by way s t lengths ring
  parts_by slot eR ek e at f last a b h =
      let R = slots s.cfg in
      let step = step_of s.cfg in
      ap₂ (λ (x y : ℕ). of r.answer r.start (placed x y r.head)) eR ek
      ∙ ap₂ (λ (x : Result IsoSubmission IsoRefusal) (y : Option IsoChannelStart). of x y (placed R step r.head)) (a ∙ answer_only way s)
      (b ∙ start_by s t r.added way (length lengths) e (λ w. (f w).1))
      ∙ ap (λ (x : IsoHead). of (answer_of way s) (start_after way s t) (placed R step x)) h
      ∙ ap (of (answer_of way s) (start_after way s t))
      (session_left s t lengths ring r.insert r.added r.to slot way e at f (last ∙ ap₂ (λ (x y : ℕ). slot_at x r.insert y r.added) eR ek))

-- the parts in a session that was asked: what it answered is used only past every refusal, so in a good record
module _ (s : IsoChannelState) (t : IsoTransfer) (lengths ring : List ℕ) (scan : SubmitScan) (way : SubmitWay)
    (asked : is_bad_record s ≡ false → Found s t lengths ring scan) (e : way ≡ submit_way s t lengths ring) where
  passed : T (is_gate way) → Admitted s t lengths ring
  passed = gate_admitted s t lengths ring way e

  found : T (is_gate way) → Found s t lengths ring scan
  found g = asked (passed g).entry.record_good

  pub ring_parted : ring_by way s.cfg t scan.insert lengths ring ≡ submitted_ring s t lengths ring
  ring_parted =
      ring_by_lem s t lengths ring e
      (ring_left_lem s t lengths ring scan.insert way (λ g. (found g).insert) (λ a. (told_of s t lengths ring Accept (sym e ∙ a)).1))

  pub parted :
      (r : SubmitParts) (slot : ℕ) → r.insert ≡ scan.insert → r.to ≡ scan.all → (r.slots ≡ slots s.cfg) × (0 < r.slots) × (r.slots ≤ 256)
      → r.step ≡ step_of s.cfg
      → r.added ≡ added way (length lengths)
      → slot ≡ slot_at r.slots r.insert r.step r.added
      → r.answer ≡ answer_of way (only s.cfg s.head)
      → r.start ≡ cond (ltb 0 r.added && not s.head.live) (Some (start_words (only s.cfg s.head) t)) None
      → r.head ≡ head_after way s.cfg s.head t slot
      → Parted s t lengths ring r
  parted r slot ei et eR ek en last a b h =
      let taken : way ≡ Accept → (r.to ≡ all_packets s) × (0 < length lengths) = λ w. (et ∙ (found (gate way w)).all, (passed (gate way w)).entry.some) in
      record {
        joins = answer_by s t lengths ring e (parts_by s t lengths ring r way slot eR.0 ek en (λ g. ei ∙ (found g).insert) taken last a b h);
        some_slots = eR.1;
        fitting = λ some.
            let q = some_added way (length lengths) r.added en some in
            let ok = acceptable s t lengths ring (passed (gate way q.0)) in
            record {
              every = q.1;
              counted = ap (λ (x : IsoHead). x.count) h ∙ one_counted s t slot way q.0;
              behind = (taken q.0).0;
              few = omega (arith, ok.few, q.1);
              requests = omega (arith, ok.requests);
              plans = omega (arith, ok.packets, q.1, (taken q.0).0);
              short = ok.short;
            };
        as_many = λ none. ap (λ (x : IsoHead). x.count) h ∙ none_counted s t slot way (length lengths) (sym none ∙ en) (λ w. (taken w).1);
      }

-- the parts joined, from the session as the code leaves it before its numbers
module _ (s : IsoChannelState) (lengths : List ℕ) (r : SubmitParts) (self : IsoChannelState) (plans : List IsoPacketPlan) where
  abbrev pub Pushed : Type 0
  Pushed =
      ((0 < r.added)
      × (self ≡ whole s.cfg s.head s.fatal (set s.requests s.head.count (new_request s.head.next_request_id r.added)) plans))
      ⊎ ((r.added ≤ 0) × (self ≡ whole s.cfg s.head s.fatal s.requests plans))

  pub joined_by :
      Pushed → plans ≡ plans_with s r lengths
      → of r.answer r.start (whole self.cfg r.head self.fatal self.requests self.plans) ≡ joined s r lengths
  joined_by push put =
      ⊎_elim
      (λ w. left (set s.requests s.head.count (new_request s.head.next_request_id r.added)) w.1 (sym (pushed s r.added w.0)))
      (λ w. let none : r.added ≡ 0 = omega (arith, w.0) in left s.requests w.1 (sym (ap (requests_with s) none)))
      push
    where
      left :
          (requests : List IsoRequest) → self ≡ whole s.cfg s.head s.fatal requests plans → requests ≡ requests_with s r.added
          → of r.answer r.start (whole self.cfg r.head self.fatal self.requests self.plans) ≡ joined s r lengths
      left requests q e =
          ap (λ (x : IsoChannelState). of r.answer r.start (whole x.cfg r.head x.fatal x.requests x.plans)) q
          ∙ ap₂ (λ (x : List IsoRequest) (y : List IsoPacketPlan). of r.answer r.start (whole s.cfg r.head s.fatal x y)) e put
