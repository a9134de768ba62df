-- The invariant is kept by the controller: a slot that is active is one of those put, since every other status word is zero.
use mathlib.Core.Path.{◌≡◌, refl, ◌∙◌, sym, ap, subst, subst⁻¹}
use mathlib.Core.Bool.{Bool, true, false, ◌&&◌, cond}
use mathlib.Core.List.{List, [], ◌∷◌, map}
use mathlib.Core.Logic.{⊎_elim}
use Prim.Native.Nat.{ℕ, zero, suc, ◌+◌, ◌*◌, ◌<◌}
use Rattle.std.proofs.lemmas.Bool.{and_parts}
use native.Mathlib.Omega.{arith}
use lib.Dec.{eqb, ltb}
use lib.ListN.{length, get_or, set, drop, length-set}
use lib.Seq.{set-set, drop-set-lt}
use borrow.Author.Tests.{ltb-true, eq-eqb, ne_eqb, eqb-true, eqb-false}
use Rattle.words.specs.Words.{is_set, active}
use Rattle.session.specs.declared.types.IsoConfig.{IsoConfig}
use Rattle.session.specs.declared.types.IsoChannelState.{IsoChannelState}
use Rattle.session.specs.Session.{slots, ring_words}
use Rattle.laws.specs.Drawing.{Laid, drawn, slot_of, Among, Absent, Distinct}
use Rattle.laws.specs.Run.{State, Controller, Touch, may_touch, touched, touched_by, restated, step}
use Rattle.laws.specs.Invariant.{Fits, Invariant}
use Rattle.laws.proofs.Lists.{absent_head, absent_tail, distinct_head, distinct_tail, among_or_absent}
use Rattle.laws.proofs.Drawn.{one, drawn_set}
use Rattle.laws.proofs.Fitting.{blank, other_zero}

-- ---- what is put, with the word

-- no slot changes
pub slots_restated : (x : Touch) (put : List Laid) → map slot_of (map (restated x) put) ≡ map slot_of put
slots_restated x [] = refl
slots_restated x (p ∷ put) = ap (λ (l : List ℕ). p.slot ∷ l) (slots_restated x put)

-- the slot's own, and another's
restated_here : (x : Touch) (p : Laid) → p.slot ≡ x.slot → restated x p ≡ record { slot = p.slot; address = p.address; status = x.word }
restated_here x p e = ap (λ (b : Bool). record { slot = p.slot; address = p.address; status = cond b x.word p.status }) (eq-eqb p.slot x.slot e)

restated_other : (x : Touch) (p : Laid) → (p.slot ≡ x.slot → ⊥) → restated x p ≡ p
restated_other x p h = ap (λ (b : Bool). record { slot = p.slot; address = p.address; status = cond b x.word p.status }) (ne_eqb p.slot x.slot h)

restated_absent : (x : Touch) (put : List Laid) → Absent x.slot (map slot_of put) → map (restated x) put ≡ put
restated_absent x [] h = refl
restated_absent x (p ∷ put) h =
    ap (λ (q : Laid). q ∷ map (restated x) put) (restated_other x p (absent_head x.slot p.slot (map slot_of put) h))
    ∙ ap (λ (l : List Laid). p ∷ l) (restated_absent x put (absent_tail x.slot p.slot (map slot_of put) h))

-- the first of put stands at the slot or does not
among_tail : (n x : ℕ) (l : List ℕ) → (x ≡ n → ⊥) → Among n (x ∷ l) → Among n l
among_tail n x l off (zero, k, e) = absurd (off e)
among_tail n x l off (suc i, k, e) = (i, omega arith, e)

-- the word stored is the word restated
pub drawn_restated :
    (x : Touch) (put : List Laid) (ring : List ℕ) → Distinct (map slot_of put) → Among x.slot (map slot_of put)
    → set (drawn put ring) (2 * x.slot) x.word ≡ drawn (map (restated x) put) ring
drawn_restated x [] ring d h = let k : h.0 < 0 = h.1 in absurd (omega arith)
drawn_restated x (p ∷ put) ring d h = go (eqb p.slot x.slot) refl (drawn_restated x put)
  where
    go : (b : Bool) → eqb p.slot x.slot ≡ b
        → ((r : List ℕ) → Distinct (map slot_of put) → Among x.slot (map slot_of put)
        → set (drawn put r) (2 * x.slot) x.word ≡ drawn (map (restated x) put) r)
        → set (drawn (p ∷ put) ring) (2 * x.slot) x.word ≡ drawn (map (restated x) (p ∷ put)) ring
    go true e more =
        let same : p.slot ≡ x.slot = eqb-true p.slot x.slot e in
        let off : Absent x.slot (map slot_of put) = subst (λ (n : ℕ). Absent n (map slot_of put)) same (distinct_head p.slot (map slot_of put) d) in
        let first = set ring (2 * p.slot + 1) p.address in
        drawn_set x.slot (2 * x.slot) put (one p ring) (omega arith) (omega arith) off x.word
        ∙ ap (λ (n : ℕ). drawn put (set (one p ring) (2 * n) x.word)) (sym same)
        ∙ ap (drawn put) (set-set first (2 * p.slot) p.status x.word)
        ∙ ap (λ (l : List Laid). drawn l (set first (2 * p.slot) x.word)) (sym (restated_absent x put off))
        ∙ ap (λ (q : Laid). drawn (map (restated x) put) (one q ring)) (sym (restated_here x p same))
    go false e more =
        let off = eqb-false p.slot x.slot e in
        more (one p ring) (distinct_tail p.slot (map slot_of put) d) (among_tail x.slot p.slot (map slot_of put) off h)
        ∙ ap (λ (q : Laid). drawn (map (restated x) put) (one q ring)) (sym (restated_other x p off))

-- ---- the step

-- a word of zero is not active
pub inactive : (w : ℕ) → w ≡ 0 → is_set active w ≡ true → ⊥
inactive w z e = let f : is_set active 0 ≡ true = subst (λ (n : ℕ). is_set active n ≡ true) z e in cc

module _ {s : IsoChannelState} {ring : List ℕ} {put : List Laid} (f : Fits s ring put) (x : Touch) where
  -- an active slot is one of those put
  pub touch_among : may_touch s.cfg x ring ≡ true → Among x.slot (map slot_of put)
  touch_among e =
      let t = and_parts (ltb x.slot (slots s.cfg)) (is_set active (get_or ring (2 * x.slot) 0)) e in
      let below : x.slot < slots s.cfg = ltb-true x.slot (slots s.cfg) t.0 in
      ⊎_elim (λ h. h) (λ h. absurd (inactive (get_or ring (2 * x.slot) 0) (other_zero f x.slot (2 * x.slot) below (omega arith) (omega arith) h) t.1))
      (among_or_absent x.slot (map slot_of put))

  touch_fits : (b : Bool) → may_touch s.cfg x ring ≡ b → Fits s (cond b (set ring (2 * x.slot) x.word) ring) (cond b (map (restated x) put) put)
  touch_fits true e =
      record {
        sound = f.sound;
        behind = f.behind;
        drawing =
            ap (λ (r : List ℕ). set r (2 * x.slot) x.word) f.drawing
            ∙ drawn_restated x put (blank (ring_words s.cfg) f.behind) f.apart (touch_among e);
        in_order = slots_restated x put ∙ f.in_order;
        apart = subst⁻¹ Distinct (slots_restated x put) f.apart;
      }
  touch_fits false e = f

pub controller : (st : State) (x : Touch) → Invariant st → Invariant (step st (Controller x))
controller st x v = record { guarded = v.guarded; fits = touch_fits v.fits x (may_touch st.session.cfg x st.ring) refl; numbered = v.numbered }

-- ---- the ring that the controller leaves is as long as it was

pub length_touched : (cfg : IsoConfig) (x : Touch) (ring : List ℕ) → length (touched cfg x ring) ≡ length ring
length_touched cfg x ring = by (may_touch cfg x ring)
  where
    by : (b : Bool) → length (cond b (set ring (2 * x.slot) x.word) ring) ≡ length ring
    by true = length-set ring (2 * x.slot) x.word
    by false = refl

pub length-touched_by : (cfg : IsoConfig) (xs : List Touch) (ring : List ℕ) → length (touched_by cfg xs ring) ≡ length ring
length-touched_by cfg [] ring = refl
length-touched_by cfg (x ∷ xs) ring = length-touched_by cfg xs (touched cfg x ring) ∙ length_touched cfg x ring

-- and words behind it are as they were
pub behind_touched : (cfg : IsoConfig) (x : Touch) (ring : List ℕ) → drop (ring_words cfg) (touched cfg x ring) ≡ drop (ring_words cfg) ring
behind_touched cfg x ring = by (ltb x.slot (slots cfg)) refl (is_set active (get_or ring (2 * x.slot) 0))
  where
    by : (a : Bool) → ltb x.slot (slots cfg) ≡ a → (b : Bool)
        → drop (ring_words cfg) (cond (a && b) (set ring (2 * x.slot) x.word) ring) ≡ drop (ring_words cfg) ring
    by false e b = refl
    by true e false = refl
    by true e true =
        let below : x.slot < slots cfg = ltb-true x.slot (slots cfg) e in
        drop-set-lt (ring_words cfg) ring (2 * x.slot) x.word (omega arith)

pub behind-touched_by : (cfg : IsoConfig) (xs : List Touch) (ring : List ℕ) → drop (ring_words cfg) (touched_by cfg xs ring) ≡ drop (ring_words cfg) ring
behind-touched_by cfg [] ring = refl
behind-touched_by cfg (x ∷ xs) ring = behind-touched_by cfg xs (touched cfg x ring) ∙ behind_touched cfg x ring
