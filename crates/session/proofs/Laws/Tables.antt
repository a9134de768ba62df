-- Laws of the tables: what std's methods on a part of one do, in the words of the definitions.
use Rattle.std.proofs.Common.{◌≡◌, refl, sym, ap, subst, ◌∙◌, Bool, true, false, cond, List, [], ◌∷◌, ◌++◌, map, length, take, drop, ℕ, suc, ◌+◌, ◌-◌, ◌≤◌, ◌<◌, nat_eq, arith, append_assoc, length-take-le, Option, Some, None, MatchOption}
use mathlib.Core.Path.{subst⁻¹}
use Rattle.std.specs.List.{sum_by, position_from, copy_within}
use Rattle.std.proofs.Math.ListN.{length-map}
use Rattle.std.proofs.Math.Seq.{slice, length-slice}
use Rattle.std.proofs.lemmas.List.Edits.{sets, sets-eq, paste_all}
use Rattle.std.proofs.lemmas.List.{drop-take}
use Rattle.std.proofs.lemmas.List.Sums.{sum_by-cons}
use Rattle.std.proofs.lemmas.Slice.{put_mid-paste}
use borrow.Rule.Slice.PartMut.{put_mid}
use Rattle.session.specs.declared.types.IsoPacketPlan.{IsoPacketPlan}
use Rattle.session.specs.declared.types.IsoRequest.{IsoRequest}
use Rattle.session.specs.declared.types.IsoChannelState.{IsoChannelState}
use Rattle.session.specs.Session.{packets_of}
use Rattle.session.specs.Settle.{moved_total}
use Rattle.session.specs.Reclaim.{closed_up}
use Rattle.session.specs.Cancel.{place_of, request_at}

-- sums
pub packets_sum : (rs : List IsoRequest) → sum_by (λ (r : IsoRequest). r.packets) rs ≡ packets_of rs
packets_sum [] = refl
packets_sum (r ∷ rs) = sum_by-cons (λ (r : IsoRequest). r.packets) r rs ∙ ap (λ (n : ℕ). r.packets + n) (packets_sum rs)

pub moved_sum : (ps : List IsoPacketPlan) → sum_by (λ (p : IsoPacketPlan). p.actual) ps ≡ moved_total ps
moved_sum [] = refl
moved_sum (p ∷ ps) = sum_by-cons (λ (p : IsoPacketPlan). p.actual) p ps ∙ ap (λ (n : ℕ). p.actual + n) (moved_sum ps)

-- the part of a table from `f` to `t`, as a range gives it
pub part : {A : Type 0} (f t : ℕ) (l : List A) → f ≤ t → take (t - f) (drop f l) ≡ slice f t l
part f t l h =
    let on : t ≡ f + (t - f) = omega arith in
    sym (ap (λ (n : ℕ). drop f (take n l)) on ∙ drop-take f (t - f) l)

module _ {A : Type 0} (f t : ℕ) (l : List A) (h : f ≤ t) (k : t ≤ length l) where
  -- copied to `at`
  pub closed_lem : (at : ℕ) → at ≤ f → copy_within l f t at ≡ closed_up at f t l
  closed_lem at n =
      let many : length (slice f t l) ≡ t - f = length-slice f t l k in
      ap (λ (vs : List A). take at l ++ vs ++ drop (at + (t - f)) l) (part f t l h)
      ∙ ap (λ (m : ℕ). take at l ++ slice f t l ++ drop (at + m) l) (sym many)
      ∙ sym (sets-eq (slice f t l) l at (omega (arith, many)))

  -- lent, and come back with each entry changed
  pub amended : (g : A → A) (ys : List A) → ys ≡ map g (take (t - f) (drop f l)) → put_mid f (t - f) l ys ≡ sets l f (map g (slice f t l))
  amended g ys e =
      let zs : List A = map g (slice f t l) in
      let many : length zs ≡ t - f = length-map (slice f t l) g ∙ length-slice f t l k in
      put_mid-paste f (t - f) l ys zs (length zs) (e ∙ ap (map g) (part f t l h)) many refl
      ∙ paste_all l f zs (length zs) refl
      ∙ sym (append_assoc (take f l) zs (drop (f + length zs) l))
      ∙ sym (sets-eq zs l f (omega (arith, many)))

-- the place of a number, as `position` gives it
module _ (id : ℕ) where
  abbrev pub is_it : IsoRequest → Bool
  is_it r = nat_eq r.id id

  -- where the first of the requests is at i
  placed_from : (rs : List IsoRequest) (i : ℕ)
      → MatchOption (position_from is_it i rs) (place_of id rs ≡ length rs) (λ at. (at ≡ i + place_of id rs) × (place_of id rs < length rs))
  placed_from [] i = refl
  placed_from (r ∷ rs) i = go (is_it r) (position_from is_it (i + 1) rs) (placed_from rs (i + 1))
    where
      go : (b : Bool) (o : Option ℕ)
          → MatchOption o (place_of id rs ≡ length rs) (λ at. (at ≡ (i + 1) + place_of id rs) × (place_of id rs < length rs))
          → MatchOption (cond b (Some i) o) (cond b 0 (suc (place_of id rs)) ≡ suc (length rs))
          (λ at. (at ≡ i + cond b 0 (suc (place_of id rs))) × (cond b 0 (suc (place_of id rs)) < suc (length rs)))
      go true o e = (omega arith, omega arith)
      go false None e = omega (arith, e)
      go false (Some at) e = (omega (arith, e.0), omega (arith, e.1))

  pub placed : (rs : List IsoRequest) (r : Option ℕ) → r ≡ position_from is_it 0 rs
      → MatchOption r (place_of id rs ≡ length rs) (λ at. (place_of id rs ≡ at) × (at < length rs))
  placed rs r e =
      subst⁻¹ (λ (o : Option ℕ). MatchOption o (place_of id rs ≡ length rs) (λ at. (place_of id rs ≡ at) × (at < length rs))) e
      (go (position_from is_it 0 rs) (placed_from rs 0))
    where
      go : (o : Option ℕ) → MatchOption o (place_of id rs ≡ length rs) (λ at. (at ≡ 0 + place_of id rs) × (place_of id rs < length rs))
          → MatchOption o (place_of id rs ≡ length rs) (λ at. (place_of id rs ≡ at) × (at < length rs))
      go None e = e
      go (Some at) e = (omega (arith, e.0), omega (arith, e.0, e.1))

  pub found_lem : (s : IsoChannelState) (r : Option ℕ) → s.head.count ≤ length s.requests → r ≡ position_from is_it 0 (take s.head.count s.requests)
      → MatchOption r (request_at id s ≡ s.head.count) (λ at. (request_at id s ≡ at) × (at < s.head.count))
  found_lem s r fits e =
      let used : List IsoRequest = take s.head.count s.requests in
      subst (λ (n : ℕ). MatchOption r (place_of id used ≡ n) (λ at. (place_of id used ≡ at) × (at < n)))
      (length-take-le s.head.count s.requests fits) (placed used r e)
