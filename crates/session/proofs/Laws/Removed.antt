-- What a session without one of its completed requests holds: the other requests and plans in their order, those pending as they were. It is sound
-- where the session was.
use mathlib.Core.Path.{◌≡◌, ◌∙◌, sym, ap}
use mathlib.Core.List.{◌++◌}
use Prim.Native.Nat.{ℕ, ◌+◌, ◌-◌, ◌≤◌, ◌<◌}
use native.Mathlib.Omega.{arith}
use Rattle.ring.specs.RingSums.{packet_limit}
use lib.ListN.{length}
use lib.Seq.{slice, length-sets}
use Rattle.session.specs.declared.types.IsoChannelState.{IsoChannelState}
use Rattle.session.specs.Session.{blank_request, blank_plan, slots, packets_of, pending_requests, all_packets, pending_packets}
use Rattle.session.specs.Settle.{oldest_from}
use Rattle.session.specs.Way.{pending_plans}
use Rattle.session.specs.Reclaim.{request_of, plans_begin, plans_end, removed}
use Rattle.session.proofs.Laws.Lists.{closed_front, closed_end, closed_part, closed_each}
use Rattle.session.proofs.Laws.Sums.{packets_next, packets_append, packets_split}
use Rattle.session.proofs.Laws.Record.{Sound, GoodRequest, GoodPlan}

module _ (at : ℕ) (s : IsoChannelState) (g : Sound s) (h : at < s.head.done) where
  abbrev count : ℕ
  count = s.head.count

  abbrev behind : ℕ
  behind = packets_of (slice (at + 1) count s.requests)

  in_use : at < count
  in_use = omega (arith, g.done_in)

  fits : count ≤ length s.requests
  fits = omega (arith, g.requests_long, g.count_in)

  plans_fit : all_packets s ≤ length s.plans
  plans_fit = omega (arith, g.plans_long, g.all_few)

  -- one request less
  fewer : at + (count - (at + 1)) ≡ count - 1
  fewer = omega (arith, in_use)

  -- the requests in use are those before it and those behind it
  pub removed_requests : slice 0 (count - 1) (removed at s).requests ≡ slice 0 at s.requests ++ slice (at + 1) count s.requests
  removed_requests =
      ap (λ (n : ℕ). slice 0 n (removed at s).requests) (sym fewer)
      ∙ closed_front at (at + 1) count s.requests (omega arith) (omega (arith, in_use)) fits

  parts : all_packets s ≡ plans_end at s + behind
  parts = omega (arith, packets_split at count s.requests (omega (arith, in_use)) fits, packets_next at count s.requests in_use fits)

  removed_all : all_packets (removed at s) ≡ plans_begin at s + behind
  removed_all = ap packets_of removed_requests ∙ packets_append (slice 0 at s.requests) (slice (at + 1) count s.requests)

  -- their packets are its packets fewer
  pub removed_packets : all_packets (removed at s) + (request_of at s).packets ≡ all_packets s
  removed_packets = omega (arith, parts, removed_all)

  fewer_plans : plans_begin at s + (all_packets s - plans_end at s) ≡ all_packets (removed at s)
  fewer_plans = omega (arith, parts, removed_all)

  pending_requests_lem : pending_requests (removed at s) ≡ pending_requests s
  pending_requests_lem =
      let fewer_done : s.head.done - 1 ≡ at + (s.head.done - (at + 1)) = omega arith in
      ap (λ (n : ℕ). slice n (count - 1) (removed at s).requests) fewer_done
      ∙ ap (λ (n : ℕ). slice (at + (s.head.done - (at + 1))) n (removed at s).requests) (sym fewer)
      ∙ closed_end at (at + 1) s.head.done count s.requests (omega arith) (omega arith) g.done_in fits

  -- its plans end before those pending begin
  pending_behind : plans_end at s ≤ all_packets s - pending_packets s
  pending_behind =
      let within : s.head.done ≤ length s.requests = omega (arith, g.done_in, fits) in
      let completed = packets_split at s.head.done s.requests (omega arith) within in
      let its = packets_next at s.head.done s.requests h within in
      omega (arith, packets_split s.head.done count s.requests g.done_in fits, completed, its)

  pending_plans_lem : pending_plans (removed at s) ≡ pending_plans s
  pending_plans_lem =
      let few : pending_packets (removed at s) ≡ pending_packets s = ap packets_of pending_requests_lem in
      let from : all_packets (removed at s) - pending_packets (removed at s) ≡ plans_begin at s + ((all_packets s - pending_packets s) - plans_end at s) =
      omega (arith, few, fewer_plans, parts, pending_behind) in
      ap (λ (n : ℕ). slice n (all_packets (removed at s)) (removed at s).plans) from
      ∙ ap (λ (n : ℕ). slice (plans_begin at s + ((all_packets s - pending_packets s) - plans_end at s)) n (removed at s).plans) (sym fewer_plans)
      ∙ closed_end (plans_begin at s) (plans_end at s) (all_packets s - pending_packets s) (all_packets s) s.plans (omega arith) pending_behind (omega arith)
      plans_fit

  -- the pending requests and their plans are as they were
  pub removed_pending : (pending_requests (removed at s) ≡ pending_requests s) × (pending_plans (removed at s) ≡ pending_plans s)
  removed_pending = (pending_requests_lem, pending_plans_lem)

  -- and so are the completed ones and theirs, but for it
  pub removed_completed : slice 0 (s.head.done - 1) (removed at s).requests ≡ slice 0 at s.requests ++ slice (at + 1) s.head.done s.requests
  removed_completed =
      let fewer_done : s.head.done - 1 ≡ at + (s.head.done - (at + 1)) = omega arith in
      ap (λ (n : ℕ). slice 0 n (removed at s).requests) fewer_done
      ∙ closed_part at (at + 1) s.head.done count s.requests (omega arith) (omega arith) g.done_in fits

  -- the packets of the completed ones
  completed_parts : oldest_from s ≡ plans_end at s + packets_of (slice (at + 1) s.head.done s.requests)
  completed_parts =
      let within : s.head.done ≤ length s.requests = omega (arith, g.done_in, fits) in
      omega (arith, packets_split at s.head.done s.requests (omega arith) within, packets_next at s.head.done s.requests h within)

  removed_from : oldest_from (removed at s) ≡ plans_begin at s + (oldest_from s - plans_end at s)
  removed_from =
      let sum = ap packets_of removed_completed ∙ packets_append (slice 0 at s.requests) (slice (at + 1) s.head.done s.requests) in
      omega (arith, sum, completed_parts)

  pub removed_completed_plans :
      slice 0 (oldest_from (removed at s)) (removed at s).plans ≡ slice 0 (plans_begin at s) s.plans ++ slice (plans_end at s) (oldest_from s) s.plans
  removed_completed_plans =
      let some : oldest_from s ≤ all_packets s = omega (arith, packets_split s.head.done count s.requests g.done_in fits) in
      ap (λ (n : ℕ). slice 0 n (removed at s).plans) removed_from
      ∙ closed_part (plans_begin at s) (plans_end at s) (oldest_from s) (all_packets s) s.plans (omega arith) (omega (arith, completed_parts)) some plans_fit

  pub removed_sound : Sound (removed at s)
  removed_sound =
      let few : pending_packets (removed at s) ≡ pending_packets s = ap packets_of pending_requests_lem in
      record {
        requests_long = length-sets s.requests at (slice (at + 1) count s.requests) ∙ g.requests_long;
        plans_long = length-sets s.plans (plans_begin at s) (slice (plans_end at s) (all_packets s) s.plans) ∙ g.plans_long;
        config = g.config;
        done_in = omega (arith, g.done_in);
        count_in = omega (arith, g.count_in);
        request =
            λ i u. closed_each GoodRequest at (at + 1) count s.requests blank_request (omega arith) (omega (arith, in_use)) fits g.request i
            (omega (arith, fewer));
        all_few = omega (arith, removed_packets, g.all_few);
        pending_few = omega (arith, few, g.pending_few);
        plan =
            λ i u. closed_each (GoodPlan (packet_limit s.cfg.speed) (slots s.cfg)) (plans_begin at s) (plans_end at s) (all_packets s) s.plans blank_plan
            (omega arith) (omega (arith, parts)) plans_fit g.plan i (omega (arith, fewer_plans));
        cursor = g.cursor;
        idle_done = λ off. omega (arith, g.idle_done off);
        idle_nothing = g.idle_nothing;
      }
