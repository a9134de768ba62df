-- Submitting by bytes, at each way out.
use Rattle.std.proofs.Common.{◌≡◌, ℕ, ◌<◌, ◌≤◌, Bool, true, cond, eqb, ltb, List, sym, refl, ap, ◌∙◌, le-ltb, lt-ltb, eq-eqb}
use Rattle.session.specs.Submit.{submitted, submitted_ring}
use Rattle.session.specs.declared.transfer.IsoTransfer.{IsoTransfer}
use Rattle.session.specs.declared.transfer.Submitted.{Submitted}
use Rattle.session.specs.declared.types.IsoChannelState.{IsoChannelState}
use Rattle.port.specs.declared.answers.PortSubmitted.{PortSubmitted}
use Rattle.port.specs.declared.answers.PortTransfer.{PortTransfer}
use Rattle.port.specs.Layout.{layout_number, session_of}
use Rattle.port.specs.Calls.{by_bytes, by_kind, submit_refused, submitted_port, transfer_of, submit_by, grown_bytes, submit_bytes, submit_ring}
use Rattle.port.proofs.Laws.Calls.{refused, done}

-- ---- a call whose kind may name nothing

module _ {A : Type 0} (xs : List ℕ) (kind : ℕ) (refuse : ℕ → A) where
  kind_refused : (call : IsoChannelState → A) {n : ℕ} → n ≡ layout_number xs → (n ≡ 0 → ⊥) → refuse n ≡ by_kind kind xs refuse call
  kind_refused call e z = refused xs refuse (λ (s : IsoChannelState). cond (ltb 3 kind) (refuse 18) (call s)) e z

  kind_bad : (call : IsoChannelState → A) {n : ℕ} → n ≡ layout_number xs → n ≡ 0 → 3 < kind → refuse 18 ≡ by_kind kind xs refuse call
  kind_bad call {n} e z h =
      let test : eqb (layout_number xs) 0 ≡ true = ap (λ (k : ℕ). eqb k 0) (sym e) ∙ eq-eqb n 0 z in
      sym
      (ap (λ (b : Bool). cond b (cond (ltb 3 kind) (refuse 18) (call (session_of xs))) (refuse (layout_number xs))) test
      ∙ ap (λ (b : Bool). cond b (refuse 18) (call (session_of xs))) (lt-ltb 3 kind h))

  kind_done :
      {R : Type 0} (call : IsoChannelState → R) (out : R → A) {n : ℕ} {s : IsoChannelState} {r : R} → n ≡ layout_number xs → n ≡ 0 → kind ≤ 3
      → s ≡ session_of xs
      → r ≡ call s
      → out r ≡ by_kind kind xs refuse (λ (t : IsoChannelState). out (call t))
  kind_done call out e z h l g =
      done xs refuse call out e z l g
      ∙ ap (λ (b : Bool). by_bytes xs refuse (λ (t : IsoChannelState). cond b (refuse 18) (out (call t)))) (sym (le-ltb 3 kind h))

module _ (xs : List ℕ) (t : PortTransfer) (lengths ring : List ℕ) where
  abbrev answer_for : IsoChannelState → PortSubmitted
  answer_for s = submitted_port (submitted s (transfer_of t) lengths ring)

  abbrev bytes_for : IsoChannelState → List ℕ
  bytes_for s = grown_bytes xs (submitted s (transfer_of t) lengths ring).session

  abbrev ring_for : IsoChannelState → List ℕ
  ring_for s = submitted_ring s (transfer_of t) lengths ring

  pub submit_refused_lem :
      {n : ℕ} {r : PortSubmitted} → n ≡ layout_number xs → (n ≡ 0 → ⊥) → r ≡ submit_refused n
      → (r ≡ submit_by xs t lengths ring) × (xs ≡ submit_bytes xs t lengths ring) × (ring ≡ submit_ring xs t lengths ring)
  submit_refused_lem e z g = (
    g ∙ kind_refused xs t.kind submit_refused answer_for e z,
    kind_refused xs t.kind (λ (n : ℕ). xs) bytes_for e z,
    kind_refused xs t.kind (λ (n : ℕ). ring) ring_for e z,
  )

  pub submit_kind :
      {n : ℕ} {r : PortSubmitted} → n ≡ layout_number xs → n ≡ 0 → 3 < t.kind → r ≡ submit_refused 18
      → (r ≡ submit_by xs t lengths ring) × (xs ≡ submit_bytes xs t lengths ring) × (ring ≡ submit_ring xs t lengths ring)
  submit_kind e z h g = (
    g ∙ kind_bad xs t.kind submit_refused answer_for e z h,
    kind_bad xs t.kind (λ (n : ℕ). xs) bytes_for e z h,
    kind_bad xs t.kind (λ (n : ℕ). ring) ring_for e z h,
  )

  pub submit_done :
      {n : ℕ} {u : IsoTransfer} {p : PortSubmitted} {after words : List ℕ} → n ≡ layout_number xs → n ≡ 0 → t.kind ≤ 3 → u ≡ transfer_of t
      → p ≡ submitted_port (submitted (session_of xs) u lengths ring)
      → after ≡ grown_bytes xs (submitted (session_of xs) u lengths ring).session
      → words ≡ submitted_ring (session_of xs) u lengths ring
      → (p ≡ submit_by xs t lengths ring) × (after ≡ submit_bytes xs t lengths ring) × (words ≡ submit_ring xs t lengths ring)
  submit_done e z h w p b k =
      let call : IsoChannelState → Submitted = λ (x : IsoChannelState). submitted x (transfer_of t) lengths ring in
      let s : IsoChannelState = session_of xs in (
        p
            ∙ ap (λ (x : IsoTransfer). submitted_port (submitted s x lengths ring)) w
            ∙ kind_done xs t.kind submit_refused call submitted_port {s = s} {r = call s} e z h refl refl,
        b
            ∙ ap (λ (x : IsoTransfer). grown_bytes xs (submitted s x lengths ring).session) w
            ∙ kind_done xs t.kind (λ (n : ℕ). xs) call (λ (x : Submitted). grown_bytes xs x.session) {s = s} {r = call s} e z h refl refl,
        k
            ∙ ap (λ (x : IsoTransfer). submitted_ring s x lengths ring) w
            ∙ kind_done xs t.kind (λ (n : ℕ). ring) ring_for (λ (x : List ℕ). x) {s = s} {r = ring_for s} e z h refl refl,
      )
