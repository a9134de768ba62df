-- The end of a session: document 01, "Poll" and "Recovery". "A session that ends reports every pending request in order and leaves the ring, cursor
-- and start zero, no reason and no live channel."
use Rattle.std.specs.Prelude.{false, None, List, map, ℕ}
use Rattle.std.proofs.lemmas.List.Edits.{sets}
use Rattle.session.specs.declared.types.IsoOutcome.{IsoOutcome}
use Rattle.session.specs.declared.types.IsoRequest.{IsoRequest}
use Rattle.session.specs.declared.types.IsoChannelState.{IsoChannelState}
use Rattle.session.specs.Session.{ring_words, cleared, pending_requests}

-- a request with its outcome
abbrev pub with_outcome : IsoOutcome → IsoRequest → IsoRequest
with_outcome outcome r = record { id = r.id; packets = r.packets; actual_length = r.actual_length; outcome = outcome }

abbrev pub ended_requests : IsoOutcome → IsoChannelState → List IsoRequest
ended_requests outcome s = sets s.requests s.head.done (map (with_outcome outcome) (pending_requests s))

abbrev pub ended : IsoOutcome → IsoChannelState → IsoChannelState
ended outcome s =
    record {
      cfg = s.cfg;
      head =
          record {
            next_request_id = s.head.next_request_id;
            live = false;
            td_last = 0;
            start_full_frame = 0;
            done = s.head.count;
            count = s.head.count;
          };
      fatal = None;
      requests = ended_requests outcome s;
      plans = s.plans;
    }

abbrev pub ended_ring : IsoChannelState → List ℕ → List ℕ
ended_ring s ring = cleared (ring_words s.cfg) ring
