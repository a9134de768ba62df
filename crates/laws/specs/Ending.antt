-- What the theorems of a session's end speak of: an idle session, and a request that failed because the port was disconnected.
use Rattle.std.specs.Prelude.{◌≡◌, false, None}
use Rattle.session.specs.declared.types.IsoChannelState.{IsoChannelState}
use Rattle.session.specs.declared.types.IsoOutcome.TheVariants as outcome
use Rattle.session.specs.declared.types.IsoRequest.{IsoRequest}

-- r is idle: no channel, nothing pending, no reason, cursor and start zero; what it keeps of s is its configuration, number, count and plans
pub record IdleAfter (s r : IsoChannelState) : Type 0 where
  pub live : r.head.live ≡ false
  pub done : r.head.done ≡ r.head.count
  pub fatal : r.fatal ≡ None
  pub cursor : r.head.td_last ≡ 0
  pub start : r.head.start_full_frame ≡ 0
  pub number : r.head.next_request_id ≡ s.head.next_request_id
  pub count : r.head.count ≡ s.head.count
  pub cfg : r.cfg ≡ s.cfg
  pub plans : r.plans ≡ s.plans

-- q is the request r, disconnected
pub record Disconnected (r q : IsoRequest) : Type 0 where
  pub outcome : q.outcome ≡ outcome.Disconnected
  pub id : q.id ≡ r.id
  pub packets : q.packets ≡ r.packets
  pub length_moved : q.actual_length ≡ r.actual_length
