-- Work on a session's bytes where they stand, step by step: bytes that hold a session hold the next one after each store, and what stands behind
-- the session stays.
use Rattle.std.specs.Prelude.{⊤}
use Rattle.std.proofs.Common.{Option, None, Result, Ok, ◌≡◌, ℕ, ◌+◌, ◌*◌, ◌<◌, ◌≤◌, Bool, List, map, length, get_or, drop, set, sym, refl, ap, ◌∙◌, ap₂, le_trans, lt_of_lt_of_le, arith}
use native.Mathlib.Nat.{min-le_right}
use lib.Seq.{slice, sets}
use Rattle.session.specs.declared.reply.IsoReply.{IsoReply}
use Rattle.session.specs.declared.types.IsoHaltReason.{IsoHaltReason}
use Rattle.session.specs.declared.types.IsoHead.{IsoHead}
use Rattle.session.specs.declared.types.IsoOutcome.{IsoOutcome}
use Rattle.session.specs.declared.types.IsoRequest.{IsoRequest}
use Rattle.session.specs.declared.types.IsoChannelState.{IsoChannelState}
use Rattle.session.specs.Session.{blank_request}
use Rattle.session.specs.declared.refusal.IsoRefusal.{IsoRefusal}
use Rattle.session.specs.declared.reply.PollWay.{PollWay}
use Rattle.session.specs.declared.reply.PollWay.TheVariants as way
use Rattle.session.specs.Numbers.{answer_number}
use Rattle.session.specs.Poll.{polled_by, polled_ring_by}
use Rattle.session.specs.End.{with_outcome, ended}
use Rattle.session.proofs.Laws.Lists.{amend_next}
use Rattle.session.specs.Scan.{whole}
use Rattle.port.specs.declared.answers.PortReply.{PortReply}
use Rattle.port.specs.declared.tags.Tagged.{Tagged}
use Rattle.port.specs.Bytes.{u16_bytes}
use Rattle.port.specs.Tags.{flag_tag, tagged_bytes, fatal_tagged}
use Rattle.port.specs.Layout.{head_bytes, request_bytes, request_of, layout_number, session_of, requests_in}
use Rattle.port.specs.Calls.{port_reply, reply_port}
use Rattle.port.specs.Parts.{ended_head}
use Rattle.port.specs.Places.{requests_of, with_requests, Left}
use Rattle.port.proofs.Canonical.{loaded_left, request_clear}
use Rattle.port.proofs.Laws.Calls.{long_enough}
use Rattle.port.proofs.Laws.Kept.{Octets}
use Rattle.port.proofs.Laws.Left.{left_is, left_request, with_cursor, kept_head, kept_cursor, kept_reason}
use Rattle.port.proofs.Laws.Placed.{request_there, requests_many}
use Rattle.port.proofs.Laws.Walks.{request_turn}

-- ---- bytes of the layout, and one store

module _ (xs : List ℕ) (octets : Octets xs) (z : layout_number xs ≡ 0) where
  pub long : 8488 ≤ length xs
  long = long_enough xs refl z

  pub same_bytes : Left xs xs (session_of xs)
  same_bytes = loaded_left xs z octets

  pub cursor_here :
      (k : ℕ) {next : List ℕ} → next ≡ sets xs 28 (u16_bytes k)
      → Left xs next (whole (session_of xs).cfg (with_cursor k (session_of xs).head) (session_of xs).fatal (session_of xs).requests (session_of xs).plans)
  cursor_here k = kept_cursor long same_bytes k

  pub reason_here :
      (f : Option IsoHaltReason) {next : List ℕ} → next ≡ sets xs 34 (tagged_bytes (fatal_tagged f))
      → Left xs next (whole (session_of xs).cfg (session_of xs).head f (session_of xs).requests (session_of xs).plans)
  reason_here f = kept_reason long same_bytes f

  pub outcome_here :
      (i : ℕ) (o : IsoOutcome) {next : List ℕ} → i < requests_in (session_of xs) → i < 64
      → next ≡ sets xs (40 + 20 * i) (request_bytes (with_outcome o (request_of (drop (40 + 20 * i) xs))))
      → Left xs next (with_requests (session_of xs) (set (requests_of xs) i (with_outcome o (get_or (requests_of xs) i blank_request))))
  outcome_here i o h small e =
      left_request long same_bytes i (with_outcome o (get_or (requests_of xs) i blank_request)) small (request_clear xs z i h)
      (e ∙ ap (λ (q : IsoRequest). sets xs (40 + 20 * i) (request_bytes (with_outcome o q))) (request_there xs i blank_request small))

  -- a call that leaves the session as it was
  pub stays :
      (call : IsoReply) {r : IsoReply} {p : PortReply} → call ≡ r → r.session ≡ session_of xs → p ≡ reply_port r
      → (p ≡ reply_port call) × Left xs xs call.session
  stays call e s p = (p ∙ sym (ap reply_port e), left_is same_bytes (sym s ∙ sym (ap (λ (r : IsoReply). r.session) e)))

-- a call that leaves another session
pub becomes :
    (xs : List ℕ) (call : IsoReply) {r : IsoReply} {p : PortReply} {after : List ℕ} → call ≡ r → p ≡ reply_port r → Left xs after r.session
    → (p ≡ reply_port call) × Left xs after call.session
becomes xs call e p b = (p ∙ sym (ap reply_port e), left_is b (sym (ap (λ (r : IsoReply). r.session) e)))

-- ---- the outcome of one request after the other: one turn

module _ (xs now next : List ℕ) (o : IsoOutcome) (i to : ℕ) (z : layout_number xs ≡ 0) (held : Left xs now (with_requests (session_of xs) (requests_of now)))
    (less : i < to) (few : to ≤ requests_in (session_of xs))
    (put : next ≡ sets now (40 + 20 * i) (request_bytes (with_outcome o (request_of (drop (40 + 20 * i) now))))) where
  within : to ≤ 64
  within = le_trans few (min-le_right (session_of xs).head.count 64)

  turn :
      (requests_of next ≡ set (requests_of now) i (with_outcome o (get_or (requests_of now) i blank_request)))
      × Left xs next (with_requests (session_of xs) (requests_of next))
  turn =
      request_turn xs z (session_of xs) i (with_outcome o (get_or (requests_of now) i blank_request)) (lt_of_lt_of_le less few) held
      (put ∙ ap (λ (q : IsoRequest). sets now (40 + 20 * i) (request_bytes (with_outcome o q))) (request_there now i blank_request (omega (arith, within))))

  pub turn_held : Left xs next (with_requests (session_of xs) (requests_of next))
  turn_held = turn.1

  pub turn_left :
      sets (requests_of next) (i + 1) (map (with_outcome o) (slice (i + 1) to (requests_of next)))
      ≡ sets (requests_of now) i (map (with_outcome o) (slice i to (requests_of now)))
  turn_left =
      ap (λ (l : List IsoRequest). sets l (i + 1) (map (with_outcome o) (slice (i + 1) to l))) turn.0
      ∙ amend_next (map (with_outcome o)) i i to (requests_of now) blank_request (with_outcome o (get_or (requests_of now) i blank_request)) (omega arith) less
      (omega (arith, within, requests_many now)) (λ rest. refl)

-- ---- the end of a session: requests, head and reason, one after the other

pub end_put :
    (xs : List ℕ) (o : IsoOutcome) → 8488 ≤ length xs → {h e : IsoHead} {t : Tagged} {a b c : List ℕ}
    → h ≡ (session_of xs).head
    → Left xs a (with_requests (session_of xs) (sets (requests_of xs) h.done (map (with_outcome o) (slice h.done h.count (requests_of xs)))))
    → e ≡ ended_head h
    → b ≡ sets a 15 (head_bytes e)
    → t ≡ fatal_tagged None
    → c ≡ sets b 34 (tagged_bytes t)
    → Left xs c (ended o (session_of xs))
end_put xs o enough {a = a} {b} eh ea ee eb et ec =
    let s : IsoChannelState = session_of xs in
    let first =
    left_is ea
    (ap (λ (k : IsoHead). with_requests s (sets s.requests k.done (map (with_outcome o) (slice k.done k.count s.requests)))) eh) in
    let second = kept_head enough first (ended_head s.head) (eb ∙ ap (λ (k : IsoHead). sets a 15 (head_bytes k)) (ee ∙ ap ended_head eh)) in
    kept_reason enough second None (ec ∙ ap (λ (k : Tagged). sets b 34 (tagged_bytes k)) et)

-- ---- a poll by its way

module _ (xs ring : List ℕ) {w v : PollWay} (way_is : v ≡ w) where
  -- what an arm of the code leaves is what the way leaves
  pub acted :
      {taken halt : Bool} {after words : List ℕ} → taken ≡ (polled_by v (session_of xs) ring).taken → halt ≡ (polled_by v (session_of xs) ring).halt
      → Left xs after (polled_by v (session_of xs) ring).session
      → words ≡ polled_ring_by v (session_of xs) ring
      → (taken ≡ (polled_by w (session_of xs) ring).taken) × (halt ≡ (polled_by w (session_of xs) ring).halt)
      × Left xs after (polled_by w (session_of xs) ring).session × (words ≡ polled_ring_by w (session_of xs) ring)
  acted t h a r = (
    t ∙ ap (λ (k : PollWay). (polled_by k (session_of xs) ring).taken) way_is,
    h ∙ ap (λ (k : PollWay). (polled_by k (session_of xs) ring).halt) way_is,
    left_is a (ap (λ (k : PollWay). (polled_by k (session_of xs) ring).session) way_is),
    r ∙ ap (λ (k : PollWay). polled_ring_by k (session_of xs) ring) way_is,
  )

-- a poll that was not refused answers 0
module _ (s : IsoChannelState) (ring : List ℕ) where
  done_always : (w : PollWay) → (polled_by w s ring).answer ≡ Ok tt
  done_always way.Nothing = refl
  done_always (way.End o) = refl
  done_always (way.Halt r) = refl
  done_always way.Wait = refl
  done_always (way.Settle bit) = refl

  pub reply_said :
      (w : PollWay) {taken halt : Bool} {p : PortReply} → p ≡ port_reply 0 (flag_tag taken) (flag_tag halt) → taken ≡ (polled_by w s ring).taken
      → halt ≡ (polled_by w s ring).halt
      → p ≡ reply_port (polled_by w s ring)
  reply_said w e t h =
      e
      ∙ ap₂ (λ (a b : Bool). port_reply 0 (flag_tag a) (flag_tag b)) t h
      ∙ ap (λ (a : Result ⊤ IsoRefusal). port_reply (answer_number a) (flag_tag (polled_by w s ring).taken) (flag_tag (polled_by w s ring).halt)) (sym (done_always w))
