-- A sound record stays sound when its session ends, is recovered, reset or cancelled: what the record check asks of a request is its number of packets,
-- and none of these calls changes one.
use mathlib.Core.Path.{◌≡◌, refl, ◌∙◌, sym, ap}
use mathlib.Core.Bool.{Bool, true, false, cond}
use mathlib.Core.List.{List, [], ◌∷◌, map}
use Prim.Native.Nat.{ℕ, ◌+◌, ◌-◌, ◌<◌}
use Rattle.std.specs.Prelude.{Some, Ok}
use native.Mathlib.Omega.{arith}
use lib.Dec.{ltb}
use lib.ListN.{get_or, set, length-set, get_or-map}
use lib.Seq.{slice, length-sets, map-set_same}
use borrow.Author.Tests.{ltb-true, ltb-false}
use Rattle.ring.proofs.RingFacts.{ring_size_pos}
use Rattle.session.specs.declared.types.IsoChannelState.{IsoChannelState}
use Rattle.session.specs.declared.types.IsoHaltReason.{IsoHaltReason}
use Rattle.session.specs.declared.types.IsoHaltReason.TheVariants as reason
use Rattle.session.specs.declared.types.IsoOutcome.{IsoOutcome}
use Rattle.session.specs.declared.types.IsoOutcome.TheVariants as outcome
use Rattle.session.specs.declared.types.IsoRequest.{IsoRequest}
use Rattle.session.specs.declared.refusal.IsoRefusal.TheVariants as refusal
use Rattle.session.specs.declared.reply.IsoReply.{IsoReply}
use Rattle.session.specs.Session.{blank_request, ring_words, packets_of, all_packets, pending_packets, has_reason}
use Rattle.session.specs.Record.{is_bad_record}
use Rattle.session.specs.Way.{sum}
use Rattle.session.specs.End.{with_outcome, ended_requests, ended}
use Rattle.session.specs.Poll.{reply, refused_reply, with_reason, recovered, is_empty, at_start, reset_reply}
use Rattle.session.specs.Cancel.{request_at, with_cancelled, cancelled}
use Rattle.session.proofs.Laws.Sums.{packets_past}
use Rattle.session.proofs.Laws.Record.{Sound, GoodRequest, renewed_sound}
use Rattle.session.proofs.Laws.Lists.{map_slice, map_amend}
use Rattle.session.proofs.Laws.Tests.{chosen}

-- ---- tables of requests with the same numbers of packets

abbrev pub packets : IsoRequest → ℕ
packets r = r.packets

packets_sum : (l : List IsoRequest) → packets_of l ≡ sum (map packets l)
packets_sum [] = refl
packets_sum (r ∷ l) = ap (λ (n : ℕ). r.packets + n) (packets_sum l)

module _ (l m : List IsoRequest) (same : map packets m ≡ map packets l) where
  pub packets_kept : (f t : ℕ) → packets_of (slice f t m) ≡ packets_of (slice f t l)
  packets_kept f t =
      packets_sum (slice f t m)
      ∙ ap sum (map_slice packets f t m ∙ ap (slice f t) same ∙ sym (map_slice packets f t l))
      ∙ sym (packets_sum (slice f t l))

  pub request_kept : (i : ℕ) → GoodRequest (get_or l i blank_request) → GoodRequest (get_or m i blank_request)
  request_kept i g =
      let e : (get_or m i blank_request).packets ≡ (get_or l i blank_request).packets =
      sym (get_or-map packets m i blank_request) ∙ ap (λ (ns : List ℕ). get_or ns i 0) same ∙ get_or-map packets l i blank_request in
      record { some = omega (arith, g.some, e); few = omega (arith, g.few, e) }

-- ---- the end of a session

module _ (o : IsoOutcome) (s : IsoChannelState) (g : Sound s) where
  pub ended_packets : map packets (ended_requests o s) ≡ map packets s.requests
  ended_packets =
      map_amend packets (with_outcome o) blank_request (λ r. refl) (s.head.count - s.head.done) s.head.done s.head.count s.requests
      (omega (arith, g.done_in)) (omega (arith, g.count_in, g.requests_long))

  ended_all : all_packets (ended o s) ≡ all_packets s
  ended_all = packets_kept s.requests (ended_requests o s) ended_packets 0 s.head.count

  pub ended_sound : Sound (ended o s)
  ended_sound =
      let none : pending_packets (ended o s) ≡ 0 = packets_past s.head.count s.head.count (ended_requests o s) (omega arith) in
      record {
        requests_long =
            length-sets s.requests s.head.done (map (with_outcome o) (slice s.head.done s.head.count s.requests)) ∙ g.requests_long;
        plans_long = g.plans_long;
        config = g.config;
        done_in = omega arith;
        count_in = g.count_in;
        request = λ i h. request_kept s.requests (ended_requests o s) ended_packets i (g.request i h);
        all_few = omega (arith, ended_all, g.all_few);
        pending_few = omega (arith, none);
        plan = λ i h. g.plan i (omega (arith, ended_all));
        cursor = ring_size_pos s.cfg.speed;
        idle_done = λ off. refl;
        idle_nothing = λ off. refl;
      }

-- ---- the cursor at 0, a result cancelled, a reason

pub reset_sound : (s : IsoChannelState) → Sound s → Sound (at_start s)
reset_sound s g =
    renewed_sound s s.head.next_request_id 0 s.head.start_full_frame s.fatal g (ring_size_pos s.cfg.speed) g.idle_nothing

module _ (at : ℕ) (s : IsoChannelState) (g : Sound s) where
  abbrev amended : IsoRequest
  amended = with_outcome outcome.Cancelled (get_or s.requests at blank_request)

  amended_packets : map packets (set s.requests at amended) ≡ map packets s.requests
  amended_packets = map-set_same packets s.requests at amended blank_request refl

  amended_sums : (f : ℕ) → packets_of (slice f s.head.count (set s.requests at amended)) ≡ packets_of (slice f s.head.count s.requests)
  amended_sums f = packets_kept s.requests (set s.requests at amended) amended_packets f s.head.count

  pub amended_sound : Sound (with_cancelled at s)
  amended_sound =
      record {
        requests_long = length-set s.requests at amended ∙ g.requests_long;
        plans_long = g.plans_long;
        config = g.config;
        done_in = g.done_in;
        count_in = g.count_in;
        request = λ i h. request_kept s.requests (set s.requests at amended) amended_packets i (g.request i h);
        all_few = omega (arith, amended_sums 0, g.all_few);
        pending_few = omega (arith, amended_sums s.head.done, g.pending_few);
        plan = λ i h. g.plan i (omega (arith, amended_sums 0));
        cursor = g.cursor;
        idle_done = g.idle_done;
        idle_nothing = g.idle_nothing;
      }

-- requests are pending, so the channel is live and a reason may stand
pub reason_sound : (r : IsoHaltReason) (s : IsoChannelState) → Sound s → s.head.done < s.head.count → Sound (with_reason r s)
reason_sound r s g h =
    renewed_sound s s.head.next_request_id s.head.td_last s.head.start_full_frame (Some r) g g.cursor
    (λ off. absurd (omega (arith, g.idle_done off, h)))

-- ---- the calls, whatever they answer

-- what holds of the session, and of each that a call may leave, holds of the one that it leaves
module _ (P : IsoChannelState → Type 0) where
  pub picked : (b : Bool) (x y : IsoReply) → (b ≡ true → P x.session) → (b ≡ false → P y.session) → P (cond b x y).session
  picked = chosen (λ (x : IsoReply). P x.session)

  pub reset_picked : (s : IsoChannelState) → P s → P (at_start s) → P (reset_reply s).session
  reset_picked s g h =
      let empty = reply (Ok tt) false false (at_start s) in
      picked (is_bad_record s) (refused_reply refusal.BadRecord s) (cond (is_empty s) empty (refused_reply refusal.NotEmpty s)) (λ b. g)
      (λ b. picked (is_empty s) empty (refused_reply refusal.NotEmpty s) (λ e. h) (λ e. g))

  pub cancel_picked :
      (s : IsoChannelState) (id : ℕ) → P s → P (with_cancelled (request_at id s) s) → (s.head.done < s.head.count → P (with_reason reason.Cancelled s))
      → P (cancelled s id).session
  cancel_picked s id g h r =
      let at : ℕ = request_at id s in
      let amended-reply = reply (Ok tt) false false (with_cancelled at s) in
      let stands = reply (Ok tt) false false s in
      let halting = reply (Ok tt) false true (with_reason reason.Cancelled s) in
      let pending = cond (has_reason s.fatal) stands halting in
      let known = cond (ltb at s.head.count) pending (refused_reply refusal.UnknownRequest s) in
      picked (is_bad_record s) (refused_reply refusal.BadRecord s) (cond (ltb at s.head.done) amended-reply known) (λ b. g)
      (λ b. picked (ltb at s.head.done) amended-reply known (λ e. h)
      (λ e. picked (ltb at s.head.count) pending (refused_reply refusal.UnknownRequest s)
      (λ u. picked (has_reason s.fatal) stands halting (λ f. g)
      (λ f. r (omega (arith, ltb-false at s.head.done e, ltb-true at s.head.count u))))
      (λ u. g)))

pub recovered_sound : (s : IsoChannelState) (words : ℕ) → Sound s → Sound (recovered s words).session
recovered_sound s words g =
    let over = reply (Ok tt) false false (ended outcome.Disconnected s) in
    picked Sound (ltb words (ring_words s.cfg)) (refused_reply refusal.ShortBuffer s) (cond (is_bad_record s) (refused_reply refusal.BadRecord s) over) (λ e. g)
    (λ e. picked Sound (is_bad_record s) (refused_reply refusal.BadRecord s) over (λ b. g) (λ b. ended_sound outcome.Disconnected s g))

pub reset_reply_sound : (s : IsoChannelState) → Sound s → Sound (reset_reply s).session
reset_reply_sound s g = reset_picked Sound s g (reset_sound s g)

pub cancelled_sound : (s : IsoChannelState) (id : ℕ) → Sound s → Sound (cancelled s id).session
cancelled_sound s id g = cancel_picked Sound s id g (amended_sound (request_at id s) s g) (reason_sound reason.Cancelled s g)
