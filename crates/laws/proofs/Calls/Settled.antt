-- What settling the oldest request leaves of the session, as Drained.antt has it. Facts of the definition.
use mathlib.Core.Path.{◌≡◌, refl}
use mathlib.Core.List.{List, map}
use mathlib.Core.Logic.{◌≢◌}
use Prim.Native.Nat.{ℕ, ◌<◌}
use native.Mathlib.Omega.{arith}
use lib.ListN.{get_or}
use lib.Seq.{get_or-set_other, map-set_same}
use Rattle.session.specs.declared.types.IsoPacketPlan.{IsoPacketPlan}
use Rattle.session.specs.declared.types.IsoRequest.{IsoRequest}
use Rattle.session.specs.declared.types.IsoChannelState.{IsoChannelState}
use Rattle.session.specs.Session.{blank_request, blank_plan}
use Rattle.session.specs.Settle.{settled_plan, oldest, oldest_from, oldest_to, settled_request}
use Rattle.session.specs.Settle.{settled_session}
use Rattle.session.proofs.Laws.Lists.{map_amend}
use Rattle.session.proofs.Laws.Record.{Sound}
use Rattle.session.proofs.Laws.Ended.{packets}
use Rattle.session.proofs.Laws.Settled.{oldest_in}

abbrev pub number : IsoRequest → ℕ
number r = r.id

abbrev pub slot : IsoPacketPlan → ℕ
slot p = p.desc_index

-- ---- one request settled

module _ (s : IsoChannelState) (ring : List ℕ) where
  -- only the oldest request changes
  pub settled_others : (i : ℕ) → i ≢ s.head.done → get_or (settled_session s ring).requests i blank_request ≡ get_or s.requests i blank_request
  settled_others i other = get_or-set_other s.requests s.head.done i (settled_request s ring) blank_request other

  pub settled_numbers : map number (settled_session s ring).requests ≡ map number s.requests
  settled_numbers = map-set_same number s.requests s.head.done (settled_request s ring) blank_request refl

  pub settled_packets : map packets (settled_session s ring).requests ≡ map packets s.requests
  settled_packets = map-set_same packets s.requests s.head.done (settled_request s ring) blank_request refl

  module _ (g : Sound s) (h : s.head.done < s.head.count) where
    pub settled_slots : map slot (settled_session s ring).plans ≡ map slot s.plans
    settled_slots =
        map_amend slot (settled_plan s.cfg.direction ring) blank_plan (λ p. refl) (oldest s).packets (oldest_from s) (oldest_to s) s.plans refl
        (omega (arith, oldest_in s g h, g.all_few, g.plans_long))
