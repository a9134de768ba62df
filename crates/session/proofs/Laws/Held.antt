-- The slots that pending plans hold: looked up packet by packet, and marked plan by plan in a table of 256 marks. Each loop's invariant
-- says that what is still to be looked up or marked gives the goal; a law for each way out of a turn keeps it.
use mathlib.Core.Path.{◌≡◌, refl, sym, ap, ap₂, ◌∙◌}
use mathlib.Core.Bool.{Bool, true, false, ◌||◌, ◌&&◌, or-true, or-false, or_assoc}
use mathlib.Core.List.{List}
use Prim.Native.Nat.{ℕ, zero, suc, ◌+◌, ◌-◌, ◌*◌, ◌≤◌, ◌<◌}
use native.Mathlib.Nat.{mod-lt}
use native.Mathlib.Numerals.{add-one}
use native.Mathlib.Omega.{arith}
use lib.Dec.{eqb}
use lib.ListN.{length, get_or, set, replicate, get_or-replicate}
use lib.Seq.{slice, slice_empty, slice-cons, get_or-set_same, get_or-set_other}
use borrow.Author.Tests.{eqb-true, eqb-false}
use Rattle.ring.specs.RingSums.{slot_at, slots_from}
use Rattle.ring.proofs.RingFacts.{ring_size_pos}
use Rattle.session.specs.declared.types.IsoConfig.{IsoConfig}
use Rattle.session.specs.declared.types.IsoPacketPlan.{IsoPacketPlan}
use Rattle.session.specs.Session.{blank_plan, slots}
use Rattle.session.specs.Place.{step_of}
use Rattle.session.specs.Way.{is_guarded, is_held, any_held, any_marked}
use Rattle.session.proofs.Laws.Sums.{ring_few}

-- ---- looked up in the table

module _ (held : List Bool) (R insert step i n : ℕ) where
  -- packet i's slot, and those of the packets after it
  marked_more :
      i < n
      → any_marked held (slots_from R insert step i (n - i))
      ≡ (get_or held (slot_at R insert step i) false || any_marked held (slots_from R insert step (i + 1) (n - (i + 1))))
  marked_more h =
      let e : n - i ≡ suc (n - (i + 1)) = omega arith in
      rw (e, add-one i)

  -- packet i's slot is marked, so one is; it is not, so the others decide
  module _ (slot : ℕ) (h : i < n) (at : slot ≡ slot_at R insert step i) where
    pub marked_later :
        get_or held slot false ≡ false
        → any_marked held (slots_from R insert step (i + 1) (n - (i + 1))) ≡ any_marked held (slots_from R insert step i (n - i))
    marked_later e = rw (marked_more h, ← at, e)

-- where the marks are those of plans, a slot is marked just where one of them has it
pub marked_held :
    (held : List Bool) (ps : List IsoPacketPlan) → ((k : ℕ) → k < 256 → get_or held k false ≡ is_held ps k)
    → (R insert step i n : ℕ) → 0 < R → R ≤ 256
    → any_marked held (slots_from R insert step i n) ≡ any_held ps (slots_from R insert step i n)
marked_held held ps same R insert step i zero some few = refl
marked_held held ps same R insert step i (suc n) some few =
    let below : slot_at R insert step i < 256 = omega (arith, mod-lt (insert + i * step) some) in
    ap₂ (λ (a b : Bool). a || b) (same (slot_at R insert step i) below) (marked_held held ps same R insert step (suc i) n some few)

-- so a submission whose slots are looked up in them clashes with those plans just where it meets a mark
pub clash_marked :
    (cfg : IsoConfig) (held : List Bool) (ps : List IsoPacketPlan) → ((k : ℕ) → k < 256 → get_or held k false ≡ is_held ps k) → (insert n : ℕ)
    → (is_guarded cfg.mode && any_marked held (slots_from (slots cfg) insert (step_of cfg) 0 n))
    ≡ (is_guarded cfg.mode && any_held ps (slots_from (slots cfg) insert (step_of cfg) 0 n))
clash_marked cfg held ps same insert n =
    ap (λ (b : Bool). is_guarded cfg.mode && b)
    (marked_held held ps same (slots cfg) insert (step_of cfg) 0 n (ring_size_pos cfg.speed) (ring_few cfg.speed))

-- ---- marked, plan by plan

-- the marks after one slot more
module _ (held marked : List Bool) (slot k : ℕ) (below : k < 256) where
  mark_by : (b : Bool) → eqb slot k ≡ b → length held ≡ 256 → get_or (set held slot true) k false ≡ (get_or held k false || b)
  mark_by true q n =
      let e : slot ≡ k = eqb-true slot k q in
      let h : k < length held = omega arith in
      rw (e, or-true, get_or-set_same held k true false h)
  mark_by false q n = rw (or-false, get_or-set_other held slot k true false (λ e. eqb-false slot k q (sym e)))

  pub mark_set : length held ≡ 256 → marked ≡ set held slot true → get_or marked k false ≡ (get_or held k false || eqb slot k)
  mark_set n e = rw e (mark_by (eqb slot k) refl n)

-- before the first mark, and after the last
pub marks_first : (from to : ℕ) (plans : List IsoPacketPlan) (k : ℕ) → k < 256
    → (get_or (replicate 256 false) k false || is_held (slice (from + (0 - from)) to plans) k) ≡ is_held (slice from to plans) k
marks_first from to plans k h =
    let e : from + (0 - from) ≡ from = omega arith in
    rw (get_or-replicate 256 k false false h, e)

pub marks_all : (held : List Bool) (plans : List IsoPacketPlan) (i to k : ℕ) → i ≡ to → get_or held k false ≡ (get_or held k false || is_held (slice i to plans) k)
marks_all held plans i to k e = rw (e, slice_empty to plans, or-false)

-- the marks with those still to be set: one plan more
mark_more : (held marked : List Bool) (plans : List IsoPacketPlan) (i to slot k : ℕ) → i < to → to ≤ length plans → slot ≡ (get_or plans i blank_plan).desc_index
    → get_or marked k false ≡ (get_or held k false || eqb slot k)
    → (get_or marked k false || is_held (slice (i + 1) to plans) k) ≡ (get_or held k false || is_held (slice i to plans) k)
mark_more held marked plans i to slot k h fits at e =
    rw (e, slice-cons i to plans blank_plan h fits, add-one i, at)
    (or_assoc (get_or held k false) (eqb (get_or plans i blank_plan).desc_index k) (is_held (slice (suc i) to plans) k))

-- the same on a walk from the first plan on, which marks those from `from` on: a pending plan, and one before them
pub mark_pending : (held marked : List Bool) (plans : List IsoPacketPlan) (from j to slot k : ℕ) → from ≤ j → j < to → to ≤ length plans
    → slot ≡ (get_or plans j blank_plan).desc_index → get_or marked k false ≡ (get_or held k false || eqb slot k)
    → (get_or marked k false || is_held (slice (from + ((j + 1) - from)) to plans) k) ≡ (get_or held k false || is_held (slice (from + (j - from)) to plans) k)
mark_pending held marked plans from j to slot k l h fits at e =
    let here : from + (j - from) ≡ j = omega arith in
    let next : from + ((j + 1) - from) ≡ j + 1 = omega arith in
    ap (λ (i : ℕ). get_or marked k false || is_held (slice i to plans) k) next
    ∙ mark_more held marked plans j to slot k h fits at e
    ∙ ap (λ (i : ℕ). get_or held k false || is_held (slice i to plans) k) (sym here)
