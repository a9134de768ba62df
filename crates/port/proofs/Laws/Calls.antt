-- A call by bytes, as the code runs: refused at its bytes, or loaded, called and saved.
use Rattle.std.proofs.Common.{◌≡◌, ℕ, ◌≤◌, Bool, true, false, cond, eqb, ltb, List, length, sym, refl, ap, ◌∙◌, arith, ltb-false, eq-eqb, ne_eqb}
use Rattle.session.specs.declared.types.IsoChannelState.{IsoChannelState}
use Rattle.port.specs.Layout.{is_bad_layout, layout_number, session_of}
use Rattle.port.specs.Calls.{by_bytes}

-- bytes that are not refused are long enough
pub long_enough : (xs : List ℕ) {n : ℕ} → n ≡ layout_number xs → n ≡ 0 → 8488 ≤ length xs
long_enough xs e z = go (ltb (length xs) 8488) refl (sym e ∙ z)
  where
    go : (b : Bool) → ltb (length xs) 8488 ≡ b → ◌≡◌ {A = ℕ} (cond b 17 (cond (is_bad_layout xs) 18 0)) 0 → 8488 ≤ length xs
    go true p q = absurd (omega arith)
    go false p q = ltb-false (length xs) 8488 p

module _ {A : Type 0} (xs : List ℕ) (refuse : ℕ → A) where
  pub refused : (call : IsoChannelState → A) {n : ℕ} → n ≡ layout_number xs → (n ≡ 0 → ⊥) → refuse n ≡ by_bytes xs refuse call
  refused call {n} e z =
      let test : eqb (layout_number xs) 0 ≡ false = ap (λ (k : ℕ). eqb k 0) (sym e) ∙ ne_eqb n 0 z in
      ap refuse e ∙ sym (ap (λ (b : Bool). cond b (call (session_of xs)) (refuse (layout_number xs))) test)

  -- `r` is what the call gave for the session that was loaded, and `out` what is made of it
  pub done :
      {R : Type 0} (call : IsoChannelState → R) (out : R → A) {n : ℕ} {s : IsoChannelState} {r : R} → n ≡ layout_number xs → n ≡ 0 → s ≡ session_of xs
      → r ≡ call s
      → out r ≡ by_bytes xs refuse (λ (t : IsoChannelState). out (call t))
  done call out {n} e z l g =
      let test : eqb (layout_number xs) 0 ≡ true = ap (λ (k : ℕ). eqb k 0) (sym e) ∙ eq-eqb n 0 z in
      ap out (g ∙ ap call l) ∙ sym (ap (λ (b : Bool). cond b (out (call (session_of xs))) (refuse (layout_number xs))) test)
