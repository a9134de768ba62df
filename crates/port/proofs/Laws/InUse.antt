-- A poll has no more and no fewer entries in use than before it, so the bytes stay in the layout; and each request keeps its number and its place.
use Rattle.std.proofs.Common.{Option, Ok, ◌≡◌, ℕ, zero, suc, ◌+◌, ◌-◌, ◌<◌, ◌≤◌, Bool, true, false, cond, ◌||◌, eqb, List, [], ◌∷◌, map, length, get_or, sym, refl, ap, ◌∙◌, ap₂, le_of_eq, arith, eq-eqb}
use lib.Seq.{slice, map-set_same}
use Rattle.session.specs.declared.reply.IsoEvent.{IsoEvent}
use Rattle.session.specs.declared.reply.PollWay.{PollWay}
use Rattle.session.specs.declared.reply.PollWay.TheVariants as way
use Rattle.session.specs.declared.types.IsoChannelState.{IsoChannelState}
use Rattle.session.specs.declared.types.IsoRequest.{IsoRequest}
use Rattle.session.specs.Session.{blank_request, all_packets}
use Rattle.session.specs.Cancel.{place_of, request_at}
use Rattle.session.specs.End.{with_outcome, ended_requests}
use Rattle.session.specs.Settle.{settled_request, settled_session, settled_ring, is_served, drain}
use Rattle.session.specs.Poll.{reply, poll_way, polled_by}
use Rattle.session.specs.Reclaim.{is_found, looked}
use Rattle.session.proofs.Laws.Ended.{packets_kept, ended_packets}
use Rattle.session.proofs.Laws.Lists.{map_slice, map_amend}
use Rattle.session.proofs.Laws.Record.{Sound}
use Rattle.session.proofs.Laws.Replies.{place_here, place_next}
use Rattle.session.proofs.Laws.Settled.{all_settled, settled_sound}
use Rattle.port.specs.Layout.{layout_number, session_of, requests_in, plans_in}
use Rattle.port.specs.Places.{Left}
use Rattle.port.proofs.Canonical.{left_layout}
use Rattle.port.proofs.Laws.Walks.{requests_in_lem, plans_in_lem}

abbrev number : IsoRequest → ℕ
number r = r.id

pub record InUse (s t : IsoChannelState) : Type 0 where
  pub count : t.head.count ≡ s.head.count
  pub packets : all_packets t ≡ all_packets s
  pub numbers : map number t.requests ≡ map number s.requests

in_use_over : (s t u : IsoChannelState) → InUse s t → InUse t u → InUse s u
in_use_over s t u a b = record { count = b.count ∙ a.count; packets = b.packets ∙ a.packets; numbers = b.numbers ∙ a.numbers }

in_use_same : (s : IsoChannelState) → InUse s s
in_use_same s = record { count = refl; packets = refl; numbers = refl }

-- the place of a number, by the numbers alone
place_by : (id : ℕ) (l m : List IsoRequest) → map number l ≡ map number m → place_of id l ≡ place_of id m
place_by id [] [] e = refl
place_by id [] (r ∷ m) e = let z : ◌≡◌ {A = ℕ} 0 1 = cc in absurd (omega arith)
place_by id (q ∷ l) [] e = let z : ◌≡◌ {A = ℕ} 0 1 = cc in absurd (omega arith)
place_by id (q ∷ l) (r ∷ m) e =
    let head : q.id ≡ r.id = cc in
    let rest : map number l ≡ map number m = cc in
    ap₂ (λ (n k : ℕ). cond (eqb n id) 0 (suc k)) head (place_by id l m rest)

-- a request with the number stands at its place or behind it
pub place_reached : (id i t : ℕ) (l : List IsoRequest) → i < t → t ≤ length l → (get_or l i blank_request).id ≡ id → place_of id (slice 0 t l) ≤ i
place_reached id i t l h k e = omega (arith, from i 0 (omega arith))
  where
    turn :
        (j : ℕ) (b : Bool) → j < t → j ≤ i → eqb (get_or l j blank_request).id id ≡ b → (b ≡ false → j + 1 + place_of id (slice (j + 1) t l) ≤ i)
        → j + place_of id (slice j t l) ≤ i
    turn j true m n this rest = omega (arith, place_here id j t l m k this)
    turn j false m n other rest = omega (arith, place_next id j t l m k other, rest refl)

    from : (left j : ℕ) → j + left ≡ i → j + place_of id (slice j t l) ≤ i
    from zero j m =
        let here : j ≡ i = omega arith in
        let this = eq-eqb (get_or l j blank_request).id id (ap (λ (n : ℕ). (get_or l n blank_request).id) here ∙ e) in
        omega (arith, place_here id j t l (omega arith) k this)
    from (suc left) j m =
        turn j (eqb (get_or l j blank_request).id id) (omega arith) (omega arith) refl (λ other. from left (j + 1) (omega arith))

pub same_place : (id : ℕ) (s t : IsoChannelState) → InUse s t → request_at id t ≡ request_at id s
same_place id s t u =
    ap (λ (n : ℕ). place_of id (slice 0 n t.requests)) u.count
    ∙ place_by id (slice 0 s.head.count t.requests) (slice 0 s.head.count s.requests)
    (map_slice number 0 s.head.count t.requests ∙ ap (slice 0 s.head.count) u.numbers ∙ sym (map_slice number 0 s.head.count s.requests))

pub kept_layout :
    (xs : List ℕ) {ys : List ℕ} {t : IsoChannelState} → layout_number xs ≡ 0 → Sound (session_of xs) → InUse (session_of xs) t → Left xs ys t
    → layout_number ys ≡ 0
kept_layout xs {ys} {t} z g u k =
    let s : IsoChannelState = session_of xs in
    let few : t.head.count ≤ 64 = omega (arith, u.count, g.count_in) in
    let requests : requests_in t ≡ requests_in s = requests_in_lem t few ∙ u.count ∙ sym (requests_in_lem s g.count_in) in
    let plans : plans_in t ≡ plans_in s =
    plans_in_lem t few (omega (arith, u.packets, g.all_few)) ∙ u.packets ∙ sym (plans_in_lem s g.count_in g.all_few) in
    left_layout xs z k (le_of_eq requests) (le_of_eq plans)

pub settled_in_use : (s : IsoChannelState) (ring : List ℕ) → Sound s → s.head.done < s.head.count → InUse s (settled_session s ring)
settled_in_use s ring g h =
    record {
      count = refl;
      packets = all_settled s ring g h;
      numbers = map-set_same number s.requests s.head.done (settled_request s ring) blank_request refl;
    }

drain_in_use :
    (k : ℕ) (bit : Bool) (s : IsoChannelState) (ring : List ℕ) → Sound s → s.head.done + k ≤ s.head.count → InUse s (drain k bit s ring).session
drain_in_use zero bit s ring g h = in_use_same s
drain_in_use (suc k) bit s ring g h =
    picked (bit || is_served s ring) (in_use_over s (settled_session s ring) (drain k false (settled_session s ring) (settled_ring s ring)).session
    (settled_in_use s ring g (omega arith))
    (drain_in_use k false (settled_session s ring) (settled_ring s ring) (settled_sound s ring g (omega arith)) (omega arith)))
  where
    picked :
        (b : Bool) → InUse s (drain k false (settled_session s ring) (settled_ring s ring)).session
        → InUse s (cond b (drain k false (settled_session s ring) (settled_ring s ring)) (record { session = s; ring = ring })).session
    picked true n = n
    picked false n = in_use_same s

polled_in_use : (w : PollWay) (s : IsoChannelState) (ring : List ℕ) → Sound s → InUse s (polled_by w s ring).session
polled_in_use way.Nothing s ring g = in_use_same s
polled_in_use (way.End o) s ring g =
    record {
      count = refl;
      packets = packets_kept s.requests (ended_requests o s) (ended_packets o s g) 0 s.head.count;
      numbers =
          map_amend number (with_outcome o) blank_request (λ r. refl) (s.head.count - s.head.done) s.head.done s.head.count s.requests
          (omega (arith, g.done_in)) (omega (arith, g.count_in, g.requests_long));
    }
polled_in_use (way.Halt r) s ring g = record { count = refl; packets = refl; numbers = refl }
polled_in_use way.Wait s ring g = in_use_same s
polled_in_use (way.Settle bit) s ring g = drain_in_use (s.head.count - s.head.done) bit s ring g (omega (arith, g.done_in))

pub looked_in_use : (id : ℕ) (e : Option IsoEvent) (s : IsoChannelState) (ring : List ℕ) → Sound s → InUse s (looked id e s ring).session
looked_in_use id e s ring g = go (is_found id s)
  where
    go : (b : Bool) → InUse s (cond b (reply (Ok tt) false false s) (polled_by (poll_way s e) s ring)).session
    go true = in_use_same s
    go false = polled_in_use (poll_way s e) s ring g
