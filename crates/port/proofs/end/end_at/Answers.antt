-- Requests, head and reason are written one after the other, and the ring is cleared as far as the session's.
use Rattle.std.proofs.Common.{◌≡◌, ℕ, ◌≤◌, Bool, cond, ltb, length, sym, refl, ap, ◌∙◌, le_of_eq, arith, le-ltb}
use mathlib.Core.Path.{subst⁻¹}
use Rattle.session.specs.declared.types.IsoHead.{IsoHead}
use Rattle.session.specs.Session.{ring_words, cleared}
use Rattle.session.proofs.Laws.Record.{Sound, sound}
use Rattle.port.specs.Layout.{session_of}
use Rattle.port.proofs.Laws.Calls.{long_enough}
use Rattle.port.proofs.Laws.Kept.{Octets}
use Rattle.port.proofs.Laws.Steps.{same_bytes, end_put}
use Rattle.port.proofs.Laws.Walks.{requests_in_lem}
use Rattle.port.proofs.Laws.Placed.{config_there, head_there, requests_many, plans_many}
use Rattle.port.proofs.end.end_at.Goals as goal

pub fail_at-requires : goal.fail_at-requires
fail_at-requires c =
    let octets : Octets c.args.bytes.now = (λ i. omega (arith, c.slice_known-1.given i)) in
    let good : Sound (session_of c.args.bytes.now) = sound (session_of c.args.bytes.now) (requests_many c.args.bytes.now) (plans_many c.args.bytes.now) c.requires.1 in
    let head_is : c.head_at-head.result ≡ (session_of c.args.bytes.now).head = c.head_at-head.ensures ∙ head_there c.args.bytes.now in
    let start = c in
    let xs = start.args.bytes.now in
    let g = good in (
      start.requires.0,
      same_bytes xs octets
          start.requires.0,
      subst⁻¹ (λ (h : IsoHead). h.done ≤ h.count) head_is g.done_in,
      le_of_eq (ap (λ (h : IsoHead). h.count) head_is ∙ sym (requests_in_lem (session_of xs) g.count_in)),
    )

pub returns : goal.returns
returns c =
    let head_is : c.head_at-head.result ≡ (session_of c.args.bytes.now).head = c.head_at-head.ensures ∙ head_there c.args.bytes.now in
    let start = c in
    let a =
    start.args in
    let s = session_of a.bytes.now in
    let ring = a.ring.now in
    let words =
    c.ring_words-words.ensures.0
    ∙ ap ring_words
    (c.config_at.ensures
    ∙ config_there a.bytes.now) in (
      end_put a.bytes.now a.outcome (long_enough a.bytes.now refl
          start.requires.0)
          head_is
          c.fail_at.ensures
          c.ended_head.ensures
          c.put_head.ensures
          c.from.ensures
          c.put_tagged.ensures,
      c.clear_first.ensures
          ∙ ap (λ (n : ℕ). cond (ltb (length ring) n) ring (cleared n ring)) words
          ∙ ap (λ (b : Bool). cond b ring (cleared (ring_words s.cfg) ring)) (le-ltb (length ring) (ring_words s.cfg)
          start.requires.2),
    )
