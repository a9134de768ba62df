-- When the first request is settled and handed out in one.
use Rattle.std.specs.Prelude.{◌≡◌, ℕ, ◌*◌, ◌<◌, ◌≤◌, true, false, Option, Ok, List, slice_index_or}
use Rattle.session.specs.declared.reply.IsoEvent.{IsoEvent}
use Rattle.session.specs.declared.types.IsoChannelState.{IsoChannelState}
use Rattle.session.specs.Session.{blank_request, all_packets}
use Rattle.session.specs.Settle.{settled_session, settled_ring}
use Rattle.session.specs.Poll.{reply, poll_way, polled_by, polled_ring_by}

-- nothing is completed, a poll settles the first request and no other, and closing up behind it covers all of its entries
pub record FirstOnly (s : IsoChannelState) (e : Option IsoEvent) (ring : List ℕ) : Type 0 where
  pub none_done : s.head.done ≡ 0
  pub others : 1 < s.head.count
  pub covered : 2 * (slice_index_or s.requests 0 blank_request).packets ≤ all_packets s
  pub polled : polled_by (poll_way s e) s ring ≡ reply (Ok tt) true false (settled_session s ring)
  pub cleared : polled_ring_by (poll_way s e) s ring ≡ settled_ring s ring
