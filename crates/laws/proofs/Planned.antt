-- The slots that an admitted submission plans: an interval apart, pairwise distinct, none at the new cursor, none of a pending packet.
use mathlib.Core.Path.{◌≡◌, refl, ◌∙◌, sym, ap, subst⁻¹}
use mathlib.Core.Bool.{false, ◌&&◌}
use mathlib.Core.List.{List, [], ◌∷◌, map}
use Prim.Native.Nat.{ℕ, suc, ◌+◌, ◌*◌, ◌<◌}
use native.Mathlib.Nat.{zero-add, mod-lt}
use native.Mathlib.Omega.{arith}
use lib.ListN.{length, get_or, length-map, get_or-map}
use Rattle.ring.specs.RingSums.{slot_at, slots_from}
use Rattle.ring.proofs.RingFacts.{ring_size_pos, capacity_more, slots_apart, cursor_apart}
use Rattle.ring.proofs.Steps.{length-slots_from, get_or-slots_from}
use Rattle.session.specs.declared.types.IsoMode.{IsoMode}
use Rattle.session.specs.declared.types.IsoMode.TheVariants.{Guarded}
use Rattle.session.specs.declared.types.IsoChannelState.{IsoChannelState}
use Rattle.session.specs.declared.transfer.IsoTransfer.{IsoTransfer}
use Rattle.session.specs.Session.{blank_plan, slots}
use Rattle.session.specs.Place.{insert_of, step_of, plans_from}
use Rattle.session.specs.Way.{is_guarded, any_held, pending_plans}
use Rattle.laws.proofs.Calls.Guarded.{held_where, any_held_where}
use Rattle.session.proofs.Laws.Admitted.{Admitted}
use Rattle.laws.specs.Drawing.{Laid, blank_laid, slot_of, planned_from, Absent, Distinct}
use Rattle.laws.specs.Run.{planned}
use Rattle.laws.specs.Demand3.{slot_of_plan}
use Rattle.laws.specs.Invariant.{Fits}
use Rattle.laws.proofs.Fitting.{put_length, pending_plans_lem}

-- what is planned and the plans have the slots of the packets
pub planned_slots : (R insert step i addr : ℕ) (lengths : List ℕ)
    → map slot_of (planned_from R insert step i addr lengths) ≡ slots_from R insert step i (length lengths)
planned_slots R insert step i addr [] = refl
planned_slots R insert step i addr (l ∷ ls) = ap (λ (r : List ℕ). slot_at R insert step i ∷ r) (planned_slots R insert step (suc i) (addr + l) ls)

pub plans_slots : (R insert step i : ℕ) (lengths : List ℕ) → map slot_of_plan (plans_from R insert step i lengths) ≡ slots_from R insert step i (length lengths)
plans_slots R insert step i [] = refl
plans_slots R insert step i (l ∷ ls) = ap (λ (r : List ℕ). slot_at R insert step i ∷ r) (plans_slots R insert step (suc i) ls)

module _ (s : IsoChannelState) (t : IsoTransfer) (lengths ring : List ℕ) where
  abbrev slot : ℕ → ℕ
  slot i = slot_at (slots s.cfg) (insert_of s t ring) (step_of s.cfg) i

  abbrev list : List ℕ
  list = slots_from (slots s.cfg) (insert_of s t ring) (step_of s.cfg) 0 (length lengths)

  slots_are : map slot_of (planned s t lengths ring) ≡ list
  slots_are = planned_slots (slots s.cfg) (insert_of s t ring) (step_of s.cfg) 0 t.base lengths

  list_length : length list ≡ length lengths
  list_length = length-slots_from (slots s.cfg) (insert_of s t ring) (step_of s.cfg) 0 (length lengths)

  list_at : (i : ℕ) → i < length lengths → get_or list i 0 ≡ slot i
  list_at i h =
      get_or-slots_from (slots s.cfg) (insert_of s t ring) (step_of s.cfg) 0 (length lengths) i h
      ∙ ap (slot_at (slots s.cfg) (insert_of s t ring) (step_of s.cfg)) (zero-add i)

  pub planned_length : length (planned s t lengths ring) ≡ length lengths
  planned_length = sym (length-map (planned s t lengths ring) slot_of) ∙ ap length slots_are ∙ list_length

  pub planned_at : (i : ℕ) → i < length lengths → (get_or (planned s t lengths ring) i blank_laid).slot ≡ slot i
  planned_at i h = sym (get_or-map slot_of (planned s t lengths ring) i blank_laid) ∙ ap (λ (l : List ℕ). get_or l i 0) slots_are ∙ list_at i h

  pub planned_below : (i : ℕ) → slot i < slots s.cfg
  planned_below i = mod-lt (insert_of s t ring + i * step_of s.cfg) (ring_size_pos s.cfg.speed)

  module _ (h : Admitted s t lengths ring) where
    pub planned_apart : (i j : ℕ) → i < j → j < length lengths → slot i ≡ slot j → ⊥
    planned_apart i j l k =
        slots_apart s.cfg.interval (slots s.cfg) (ring_size_pos s.cfg.speed) (insert_of s t ring) i j l
        (omega (arith, h.entry.capacity, capacity_more s.cfg.interval (slots s.cfg) (ring_size_pos s.cfg.speed)))

    pub planned_off_cursor : (i : ℕ) → i < length lengths → slot i ≡ slot (length lengths) → ⊥
    planned_off_cursor i l =
        cursor_apart s.cfg.interval (slots s.cfg) (ring_size_pos s.cfg.speed) (insert_of s t ring) (length lengths) i
        (omega (arith, h.entry.capacity)) l

    pub planned_distinct : Distinct (map slot_of (planned s t lengths ring))
    planned_distinct =
        subst⁻¹ Distinct slots_are
        (λ i j l k e.
        planned_apart i j l (omega (arith, list_length)) (sym (list_at i (omega (arith, list_length))) ∙ e ∙ list_at j (omega (arith, list_length))))

    -- "refusal 13 exactly if a planned slot belongs to a pending request"
    module _ {put : List Laid} (f : Fits s ring put) (g : s.cfg.mode ≡ Guarded) where
      none_held : any_held (pending_plans s) list ≡ false
      none_held = sym (ap (λ (m : IsoMode). is_guarded m && any_held (pending_plans s) list) g) ∙ h.apart

      put_is : (i : ℕ) → get_or (map slot_of put) i 0 ≡ (get_or (pending_plans s) i blank_plan).desc_index
      put_is i = ap (λ (l : List ℕ). get_or l i 0) f.in_order ∙ get_or-map slot_of_plan (pending_plans s) i blank_plan

      pub put_apart : (i : ℕ) → i < length (map slot_of put) → Absent (get_or (map slot_of put) i 0) (map slot_of (planned s t lengths ring))
      put_apart i k =
          subst⁻¹ (Absent (get_or (map slot_of put) i 0)) slots_are
          (λ j m e.
          let pending : i < length (pending_plans s) = omega (arith, length-map put slot_of, put_length f, pending_plans_lem s f.sound) in
          let held = held_where (pending_plans s) (get_or list j 0) i pending (sym (put_is i) ∙ sym e) in
          let some = any_held_where (pending_plans s) list j m held in
          let none = none_held in
          cc)
