-- What the invariant gives: how many packets are put, that their slots are the ring's, and the words of the ring.
use mathlib.Core.Path.{◌≡◌, ◌∙◌, sym, ap, subst⁻¹}
use mathlib.Core.List.{List, ◌++◌, map}
use Prim.Native.Nat.{ℕ, ◌+◌, ◌-◌, ◌*◌, ◌≤◌, ◌<◌}
use native.Mathlib.Omega.{arith}
use lib.ListN.{length, get_or, replicate, length-map, length-append, length-replicate, get_or-replicate, get_or-map, get_or-append}
use lib.Seq.{length-slice}
use Rattle.session.specs.declared.types.IsoPacketPlan.{IsoPacketPlan}
use Rattle.session.specs.declared.types.IsoChannelState.{IsoChannelState}
use Rattle.session.specs.Session.{blank_plan, slots, ring_words, all_packets, pending_packets}
use Rattle.session.specs.Way.{pending_plans}
use Rattle.session.proofs.Laws.Sums.{packets_split}
use Rattle.session.proofs.Laws.Record.{Sound}
use Rattle.session.proofs.Laws.Lists.{get_or-slice}
use Rattle.laws.specs.Drawing.{Laid, blank_laid, slot_of, Holds, Absent}
use Rattle.laws.specs.Demand3.{slot_of_plan}
use Rattle.laws.specs.Invariant.{Fits}
use Rattle.laws.proofs.Drawn.{Within, length_drawn, drawn_other, drawn_hold}

-- the ring of zeros with words behind it
abbrev pub blank : ℕ → List ℕ → List ℕ
blank words behind = replicate words 0 ++ behind

pub blank_zero : (words : ℕ) (behind : List ℕ) (w : ℕ) → w < words → get_or (blank words behind) w 0 ≡ 0
blank_zero words behind w h =
    get_or-append (replicate words 0) behind 0 w (omega (arith, h, length-replicate {A = ℕ} words 0)) ∙ get_or-replicate words w 0 0 h

pub blank_length : (words : ℕ) (behind : List ℕ) → words ≤ length (blank words behind)
blank_length words behind = omega (arith, length-append (replicate words 0) behind, length-replicate {A = ℕ} words 0)

-- ---- pending plans

module _ (s : IsoChannelState) (g : Sound s) where
  pub pending_within : pending_packets s ≤ all_packets s
  pending_within =
      omega (arith, packets_split s.head.done s.head.count s.requests g.done_in (omega (arith, g.count_in, g.requests_long)))

  pub pending_plans_lem : length (pending_plans s) ≡ pending_packets s
  pending_plans_lem =
      omega (arith, length-slice (all_packets s - pending_packets s) (all_packets s) s.plans (omega (arith, g.all_few, g.plans_long)), pending_within)

  pub pending_below : (i : ℕ) → i < pending_packets s → (get_or (pending_plans s) i blank_plan).desc_index < slots s.cfg
  pending_below i h =
      let from = all_packets s - pending_packets s in
      let at : from + i < all_packets s = omega (arith, pending_within) in
      subst⁻¹ (λ (p : IsoPacketPlan). p.desc_index < slots s.cfg) (get_or-slice from (all_packets s) i s.plans blank_plan at) (g.plan (from + i) at).slot

-- ---- what fits

module _ {s : IsoChannelState} {ring : List ℕ} {put : List Laid} (f : Fits s ring put) where
  pub put_length : length put ≡ pending_packets s
  put_length =
      sym (length-map put slot_of) ∙ ap length f.in_order ∙ length-map (pending_plans s) slot_of_plan ∙ pending_plans_lem s f.sound

  pub put_below : (i : ℕ) → i < length put → (get_or put i blank_laid).slot < slots s.cfg
  put_below i h =
      let e : (get_or put i blank_laid).slot ≡ (get_or (pending_plans s) i blank_plan).desc_index =
      sym (get_or-map slot_of put i blank_laid) ∙ ap (λ (l : List ℕ). get_or l i 0) f.in_order ∙ get_or-map slot_of_plan (pending_plans s) i blank_plan in
      subst⁻¹ (λ (n : ℕ). n < slots s.cfg) e (pending_below s f.sound i (omega (arith, put_length)))

  pub ring_long : ring_words s.cfg ≤ length ring
  ring_long =
      let zeros = blank (ring_words s.cfg) f.behind in
      omega (arith, ap length f.drawing, length_drawn put zeros, blank_length (ring_words s.cfg) f.behind)

  -- each of put stands in the ring
  pub put_held : (i : ℕ) → i < length put → Holds ring (get_or put i blank_laid)
  put_held i h =
      let zeros = blank (ring_words s.cfg) f.behind in
      let inside : Within (length zeros) put = λ j k. omega (arith, put_below j k, blank_length (ring_words s.cfg) f.behind) in
      subst⁻¹ (λ (r : List ℕ). Holds r (get_or put i blank_laid)) f.drawing (drawn_hold put zeros f.apart inside i h)

  -- and the other words are zero
  pub other_zero : (slot u : ℕ) → slot < slots s.cfg → 2 * slot ≤ u → u ≤ 2 * slot + 1 → Absent slot (map slot_of put) → get_or ring u 0 ≡ 0
  other_zero slot u b l m h =
      let zeros = blank (ring_words s.cfg) f.behind in
      ap (λ (r : List ℕ). get_or r u 0) f.drawing ∙ drawn_other slot u put zeros l m h ∙ blank_zero (ring_words s.cfg) f.behind u (omega arith)
