-- The record check on a session's bytes: what the parts that were read say of the session.
use Rattle.std.proofs.Common.{Option, ◌≡◌, ℕ, ◌≤◌, Bool, true, false, not, ◌&&◌, ◌||◌, ltb, leb, sym, refl, ap, ◌∙◌, arith, ltb-false}
use Rattle.words.proofs.Laws.Tests.{neither}
use Rattle.session.specs.declared.types.IsoConfig.{IsoConfig}
use Rattle.session.specs.declared.types.IsoHaltReason.{IsoHaltReason}
use Rattle.session.specs.declared.types.IsoHead.{IsoHead}
use Rattle.session.specs.declared.types.IsoChannelState.{IsoChannelState}
use Rattle.session.specs.Session.{slots, has_reason}
use Rattle.session.specs.Record.{is_bad_config, is_bad_counts, is_bad_state}

pub never : true ≡ false → ⊥
never e = let z : ◌≡◌ {A = ℕ} 0 1 = cc in omega arith

-- tests that fail together are the same test
pub same_tests : {a b : Bool} → (a ≡ false → b ≡ false) → (b ≡ false → a ≡ false) → a ≡ b
same_tests {a = true} {b = true} p q = refl
same_tests {a = true} {b = false} p q = q refl
same_tests {a = false} {b = b} p q = sym (p refl)

module _ (s : IsoChannelState) where
  -- the first test, as the code makes it
  pub front_test :
      {cfg : IsoConfig} {h : IsoHead} {bad b : Bool} → cfg ≡ s.cfg → h ≡ s.head → bad ≡ is_bad_config cfg
      → (bad || (ltb h.count h.done || ltb 64 h.count)) ≡ b
      → (is_bad_config s.cfg || is_bad_counts s) ≡ b
  front_test {h = h} ec eh eb e =
      sym
      (ap (λ (x : Bool). x || (ltb h.count h.done || ltb 64 h.count)) (eb ∙ ap is_bad_config ec)
      ∙ ap (λ (k : IsoHead). is_bad_config s.cfg || (ltb k.count k.done || ltb 64 k.count)) eh)
      ∙ e

  -- the state, as the code tests it
  pub state_test :
      {h : IsoHead} {fatal : Option IsoHaltReason} {size : ℕ} {bad : Bool} → h ≡ s.head → fatal ≡ s.fatal → size ≡ slots s.cfg
      → bad ≡ (leb size h.td_last || not h.live && (ltb h.done h.count || has_reason fatal))
      → bad ≡ is_bad_state s
  state_test {h} {fatal} eh ef es e =
      e
      ∙ ap (λ (n : ℕ). leb n h.td_last || not h.live && (ltb h.done h.count || has_reason fatal)) es
      ∙ ap (λ (f : Option IsoHaltReason). leb (slots s.cfg) h.td_last || not h.live && (ltb h.done h.count || has_reason f)) ef
      ∙ ap (λ (k : IsoHead). leb (slots s.cfg) k.td_last || not k.live && (ltb k.done k.count || has_reason s.fatal)) eh

  pub counts_in : (is_bad_config s.cfg || is_bad_counts s) ≡ false → (s.head.done ≤ s.head.count) × (s.head.count ≤ 64)
  counts_in front =
      let n = neither (ltb s.head.count s.head.done) (ltb 64 s.head.count) (neither (is_bad_config s.cfg) (is_bad_counts s) front).1 in
      (ltb-false s.head.count s.head.done n.0, ltb-false 64 s.head.count n.1)
