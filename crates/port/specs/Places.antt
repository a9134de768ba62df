-- The tables of a session where they stand in its bytes, the session with another table, and what an action leaves: what the functions say that
-- work in place.
use Rattle.std.specs.Prelude.{◌≡◌, ℕ, false, List}
use Rattle.session.specs.declared.reply.IsoReply.{IsoReply}
use Rattle.session.specs.declared.types.IsoRequest.{IsoRequest}
use Rattle.session.specs.declared.types.IsoPacketPlan.{IsoPacketPlan}
use Rattle.session.specs.declared.types.IsoChannelState.{IsoChannelState}
use Rattle.port.specs.declared.poll.PollSaid.{PollSaid}
use Rattle.session.specs.Record.{is_bad_record}
use Rattle.port.specs.Layout.{layout_number, session_of, kept}

abbrev pub requests_of : List ℕ → List IsoRequest
requests_of xs = (session_of xs).requests

abbrev pub plans_of : List ℕ → List IsoPacketPlan
plans_of xs = (session_of xs).plans

abbrev pub with_requests : IsoChannelState → List IsoRequest → IsoChannelState
with_requests s requests = record { cfg = s.cfg; head = s.head; fatal = s.fatal; requests = requests; plans = s.plans }

abbrev pub with_plans : IsoChannelState → List IsoPacketPlan → IsoChannelState
with_plans s plans = record { cfg = s.cfg; head = s.head; fatal = s.fatal; requests = s.requests; plans = plans }

-- bytes of the layout whose record is good: what every call works on
abbrev pub Good : List ℕ → Type 0
Good xs = (layout_number xs ≡ 0) × (is_bad_record (session_of xs) ≡ false)

-- the bytes `ys` hold the session `s` in the place of the one that `xs` hold; the first `n` requests and `m` plans were written
pub record Kept (n m : ℕ) (xs ys : List ℕ) (s : IsoChannelState) : Type 0 where
  pub bytes : ys ≡ kept n m xs s
  pub holds : session_of ys ≡ s

abbrev pub Left : List ℕ → List ℕ → IsoChannelState → Type 0
Left = Kept 0 0

-- the bytes `ys` hold what the action `x` leaves of the session in `xs`, and `r` is what it says
pub record Acted (xs ys : List ℕ) (r : PollSaid) (x : IsoReply) : Type 0 where
  pub taken : r.taken ≡ x.taken
  pub halt : r.halt ≡ x.halt
  pub bytes : Left xs ys x.session
