-- Where a number stands among the requests in use: at a place that has it, or, where none has it, behind all of them. Its place depends on the
-- numbers alone; and once its request is removed it has none, if the numbers differ.
use mathlib.Core.Path.{◌≡◌, refl, ◌∙◌, sym, ap}
use mathlib.Core.Bool.{Bool, true, false, cond}
use mathlib.Core.List.{List, [], ◌∷◌, map}
use mathlib.Core.Logic.{◌≢◌}
use Prim.Native.Nat.{ℕ, suc, ◌+◌, ◌-◌, ◌≤◌, ◌<◌}
use native.Mathlib.Omega.{arith}
use lib.Dec.{eqb}
use lib.ListN.{length, get_or, get_or-map}
use lib.Seq.{slice, length-take-le, length-sets}
use borrow.Author.Tests.{eqb-true, ne_eqb}
use Rattle.session.specs.declared.types.IsoRequest.{IsoRequest}
use Rattle.session.specs.declared.types.IsoChannelState.{IsoChannelState}
use Rattle.session.specs.Session.{blank_request}
use Rattle.session.specs.Cancel.{place_of, request_at}
use Rattle.session.specs.Reclaim.{request_of, removed}
use Rattle.session.proofs.Laws.Lists.{front_kept, get_d_front, closed_parts}
use Rattle.session.proofs.Laws.Record.{Sound}
use Rattle.session.proofs.Laws.Lists.{map_slice}
use Rattle.laws.proofs.Calls.Settled.{number}

-- ---- in a list of requests

place_has : (id : ℕ) (l : List IsoRequest) → place_of id l < length l → number (get_or l (place_of id l) blank_request) ≡ id
place_has id [] h = absurd (omega arith)
place_has id (r ∷ l) h = go (eqb r.id id) refl (place_has id l) h
  where
    go :
        (b : Bool) → eqb r.id id ≡ b → (place_of id l < length l → number (get_or l (place_of id l) blank_request) ≡ id)
        → cond b 0 (suc (place_of id l)) < suc (length l) → number (get_or (r ∷ l) (cond b 0 (suc (place_of id l))) blank_request) ≡ id
    go true e rest u = eqb-true r.id id e
    go false e rest u = rest (omega arith)

place_none : (id : ℕ) (l : List IsoRequest) → ((i : ℕ) → i < length l → number (get_or l i blank_request) ≢ id) → place_of id l ≡ length l
place_none id [] h = refl
place_none id (r ∷ l) h =
    ap (λ (b : Bool). cond b 0 (suc (place_of id l))) (ne_eqb r.id id (h 0 (omega arith)))
    ∙ ap suc (place_none id l (λ i u. h (suc i) (omega arith)))

-- the place of a number in a list of numbers
abbrev place_in : ℕ → List ℕ → ℕ
place_in id [] = 0
place_in id (n ∷ ns) = cond (eqb n id) 0 (suc (place_in id ns))

place_in_lem : (id : ℕ) (l : List IsoRequest) → place_of id l ≡ place_in id (map number l)
place_in_lem id [] = refl
place_in_lem id (r ∷ l) = ap (λ (n : ℕ). cond (eqb r.id id) 0 (suc n)) (place_in_lem id l)

-- ---- in a session

-- the numbers of the requests in use differ from one another
abbrev pub NumbersDiffer : IsoChannelState → Type 0
NumbersDiffer s = (i j : ℕ) → i < j → j < s.head.count → number (get_or s.requests i blank_request) ≢ number (get_or s.requests j blank_request)

-- a session with the same numbers
module _ (s r : IsoChannelState) (count : r.head.count ≡ s.head.count) (numbers : map number r.requests ≡ map number s.requests) where
  pub number_kept : (i : ℕ) → number (get_or r.requests i blank_request) ≡ number (get_or s.requests i blank_request)
  number_kept i =
      sym (get_or-map number r.requests i blank_request) ∙ ap (λ (ns : List ℕ). get_or ns i 0) numbers ∙ get_or-map number s.requests i blank_request

  pub place_kept : (id : ℕ) → request_at id r ≡ request_at id s
  place_kept id =
      let front : map number (slice 0 r.head.count r.requests) ≡ map number (slice 0 s.head.count s.requests) =
      map_slice number 0 r.head.count r.requests
      ∙ ap (slice 0 r.head.count) numbers
      ∙ ap (λ (n : ℕ). slice 0 n (map number s.requests)) count
      ∙ sym (map_slice number 0 s.head.count s.requests) in
      place_in_lem id (slice 0 r.head.count r.requests) ∙ ap (place_in id) front ∙ sym (place_in_lem id (slice 0 s.head.count s.requests))

  pub differ_kept : NumbersDiffer s → NumbersDiffer r
  differ_kept h i j u v e = h i j u (omega (arith, count)) (sym (number_kept i) ∙ e ∙ number_kept j)

module _ (s : IsoChannelState) (g : Sound s) where
  in_use : length (slice 0 s.head.count s.requests) ≡ s.head.count
  in_use = length-take-le s.head.count s.requests (omega (arith, g.requests_long, g.count_in))

  -- the request at the place of a number has it
  pub number_at : (id : ℕ) → request_at id s < s.head.count → (request_of (request_at id s) s).id ≡ id
  number_at id h =
      ap number (sym (get_d_front s.head.count (request_at id s) s.requests blank_request h))
      ∙ place_has id (slice 0 s.head.count s.requests) (omega (arith, in_use))

  -- a removed request's number has no place any more
  pub place_gone : (at : ℕ) → at < s.head.done → NumbersDiffer s → request_at (request_of at s).id (removed at s) ≡ s.head.count - 1
  place_gone at h differ =
      let count : ℕ = s.head.count in
      let id : ℕ = (request_of at s).id in
      let long = length-sets s.requests at (slice (at + 1) count s.requests) in
      let fits : count ≤ length s.requests = omega (arith, g.requests_long, g.count_in) in
      let fewer : at + (count - (at + 1)) ≡ count - 1 = omega (arith, g.done_in) in
      place_none id (slice 0 (count - 1) (removed at s).requests)
      (front_kept (λ (r : IsoRequest). number r ≢ id) (count - 1) (removed at s).requests blank_request (omega (arith, long, fits))
      (λ i u. closed_parts (λ (r : IsoRequest). number r ≢ id) at (at + 1) count s.requests blank_request (omega arith) (omega (arith, g.done_in)) fits
      (λ k v. differ k at v (omega (arith, g.done_in))) (λ k v w e. differ at k (omega arith) w (sym e)) i (omega (arith, fewer))))
      ∙ length-take-le (count - 1) (removed at s).requests (omega (arith, long, fits))
