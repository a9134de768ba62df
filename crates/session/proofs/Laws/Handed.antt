-- Laws of reclaiming: where the plans of a request lie, the results that it hands out, and the session that is left without it.
use mathlib.Core.Path.{◌≡◌, sym, ap, ◌∙◌}
use mathlib.Core.Bool.{Bool, true, cond}
use mathlib.Core.List.{List, map}
use Prim.Native.Nat.{ℕ, ◌+◌, ◌≤◌, ◌<◌}
use native.Mathlib.Omega.{arith}
use lib.ListN.{length}
use lib.Seq.{slice, sets}
use Rattle.session.specs.declared.types.IsoPacketPlan.{IsoPacketPlan}
use Rattle.session.specs.declared.types.IsoRequest.{IsoRequest}
use Rattle.session.specs.declared.types.IsoChannelState.{IsoChannelState}
use Rattle.session.specs.Session.{all_packets}
use Rattle.session.specs.Reclaim.{is_done, result_word, request_of, plans_begin, plans_end, closed_up, one_less, removed, handed_results}
use Rattle.session.proofs.Laws.Sums.{packets_next, packets_split}
use Rattle.session.proofs.Laws.Record.{Sound}

-- the plans of a request lie among those in use
pub plans_in_lem : (s : IsoChannelState) → Sound s → (at : ℕ) → at < s.head.count → plans_end at s ≤ all_packets s
plans_in_lem s g at h =
    let within : s.head.count ≤ length s.requests = omega (arith, g.requests_long, g.count_in) in
    omega (arith, packets_split at s.head.count s.requests (omega arith) within, packets_next at s.head.count s.requests h within)

-- the session with one request less and these tables
abbrev left_by : IsoChannelState → List IsoRequest → List IsoPacketPlan → IsoChannelState
left_by s requests plans = record { cfg = s.cfg; head = one_less s.head; fatal = s.fatal; requests = requests; plans = plans }

module _ (at : ℕ) (s : IsoChannelState) (from to : ℕ) (ef : from ≡ plans_begin at s) (et : to ≡ plans_end at s) where
  pub removed_by :
      (all : ℕ) (requests : List IsoRequest) (plans : List IsoPacketPlan) → all ≡ all_packets s
      → requests ≡ closed_up at (at + 1) s.head.count s.requests → plans ≡ closed_up from to all s.plans
      → left_by s requests plans ≡ removed at s
  removed_by all requests plans ea er ep =
      ap (λ (l : List IsoRequest). left_by s l plans) er
      ∙ ap (left_by s (closed_up at (at + 1) s.head.count s.requests))
      (ep
      ∙ ap (λ (f : ℕ). closed_up f to all s.plans) ef
      ∙ ap (λ (t : ℕ). closed_up (plans_begin at s) t all s.plans) et
      ∙ ap (λ (n : ℕ). closed_up (plans_begin at s) (plans_end at s) n s.plans) ea)

  -- a completed request hands its results out, one that ended in an error none
  pub handed_by :
      (results now : List ℕ) → is_done (request_of at s).outcome ≡ true → now ≡ sets results 0 (map result_word (slice from to s.plans))
      → now ≡ handed_results at s results
  handed_by results now e en =
      en
      ∙ ap (λ (f : ℕ). sets results 0 (map result_word (slice f to s.plans))) ef
      ∙ ap (λ (t : ℕ). sets results 0 (map result_word (slice (plans_begin at s) t s.plans))) et
      ∙ sym (ap (λ (b : Bool). cond b (sets results 0 (map result_word (slice (plans_begin at s) (plans_end at s) s.plans))) results) e)

-- there are some, and at most 255, and no more than the table holds
pub plans_fit :
    (s : IsoChannelState) → Sound s → (at : ℕ) → at < s.head.count
    → (plans_begin at s < plans_end at s) × (plans_end at s ≤ plans_begin at s + 255) × (plans_end at s ≤ 1024)
plans_fit s g at h =
    let r = g.request at h in
    (omega (arith, r.some), omega (arith, r.few), omega (arith, g.all_few, plans_in_lem s g at h))
