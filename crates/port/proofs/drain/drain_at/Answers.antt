-- The invariant: the bytes are of the layout and hold, in the place of those at the beginning, a good record whose plans pending begin at `from` and
-- whose words the ring has, and draining it from here gives the goal. The measure is how many requests are pending.
use Rattle.std.proofs.Common.{◌≡◌, ℕ, ◌+◌, ◌-◌, ◌*◌, ◌<◌, ◌≤◌, Bool, true, false, not, ◌||◌, length, get_or, sym, refl, ap, ◌∙◌, arith}
use mathlib.Core.Path.{subst⁻¹}
use lib.Seq.{slice}
use Rattle.words.specs.Words.{is_set, active}
use Rattle.session.specs.declared.types.IsoHead.{IsoHead}
use Rattle.session.specs.declared.types.IsoChannelState.{IsoChannelState}
use Rattle.session.specs.Session.{blank_plan, packets_of, ring_words}
use Rattle.session.specs.Settle.{oldest_from, oldest_to, is_served, settled_session, Drained, drained}
use Rattle.session.proofs.Laws.Record.{Sound, not_bad}
use Rattle.session.proofs.Laws.Settled.{oldest_in, oldest_some, settled_sound, drained_stop, drained_next}
use Rattle.port.specs.Layout.{session_of}
use Rattle.port.specs.Places.{requests_of, plans_of}
use Rattle.port.proofs.Canonical.{loaded_left}
use Rattle.port.proofs.Laws.Calls.{long_enough}
use Rattle.port.proofs.Laws.InUse.{kept_layout, settled_in_use}
use Rattle.port.proofs.Laws.Left.{left_is, left_over}
use Rattle.port.proofs.Laws.Settling.{oldest_ends, settled_from}
use Rattle.port.proofs.Laws.Placed.{head_there}
use Rattle.port.proofs.Laws.Walks.{sound_there}
use Rattle.port.proofs.drain.drain_at.Goals as goal

pub packets_before-from-requires : goal.packets_before-from-requires
packets_before-from-requires c =
    let long : 8488 ≤ length c.args.bytes.now = long_enough c.args.bytes.now refl c.requires.0.0 in
    let good = sound_there c.args.bytes.now c.requires.0.1 in
    let head_is : c.head_at-head.result ≡ (session_of c.args.bytes.now).head = c.head_at-head.ensures ∙ head_there c.args.bytes.now in
    let g = good in
    (long, omega (arith, ap (λ (h : IsoHead). h.done) head_is, g.done_in, g.count_in))

pub loop-done-init : goal.loop-done-init
loop-done-init c =
    let good = sound_there c.args.bytes.now c.requires.0.1 in
    let head_is : c.head_at-head.result ≡ (session_of c.args.bytes.now).head = c.head_at-head.ensures ∙ head_there c.args.bytes.now in
    let start = c in
    let xs = start.args.bytes.now in
    let eh = head_is in (
      good,
      start.requires.0.0,
      refl,
      refl,
      ap (λ (h : IsoHead). h.done) eh,
      ap (λ (h : IsoHead). h.count) eh,
      c.packets_before-from.ensures ∙ ap (λ (h : IsoHead). packets_of (slice 0 h.done (requests_of xs))) eh,
      loaded_left xs start.requires.0.0
          (λ i. omega (arith, c.slice_known-1.given i)),
      refl,
      start.requires.1,
    )

pub overflow_add-to : goal.overflow_add-to
overflow_add-to c =
    let to_is : c.loop-done.from + c.packets_at.result ≡ oldest_to (session_of c.loop-done.bytes) = let now = c.loop-done in
    oldest_ends (session_of now.bytes) now.from now.done c.packets_at.result now.invariant.6 now.invariant.4 c.packets_at.ensures.0 in
    let pending : (session_of c.loop-done.bytes).head.done < (session_of c.loop-done.bytes).head.count = omega (arith, c.loop-done.invariant.4, c.loop-done.invariant.5) in
    let to_in : (0 < oldest_to (session_of c.loop-done.bytes)) × (oldest_to (session_of c.loop-done.bytes) ≤ 1024) = let s = session_of c.loop-done.bytes in
    let g = c.loop-done.invariant.0 in
    (oldest_some s g pending, omega (arith, oldest_in s g pending, g.all_few)) in
    omega (arith, to_is, to_in.1)

pub is_served_at-requires : goal.is_served_at-requires
is_served_at-requires c =
    let long : 8488 ≤ length c.args.bytes.now = long_enough c.args.bytes.now refl c.requires.0.0 in
    let to_is : c.loop-done.from + c.packets_at.result ≡ oldest_to (session_of c.loop-done.bytes) = let now = c.loop-done in
    oldest_ends (session_of now.bytes) now.from now.done c.packets_at.result now.invariant.6 now.invariant.4 c.packets_at.ensures.0 in
    let pending : (session_of c.loop-done.bytes).head.done < (session_of c.loop-done.bytes).head.count = omega (arith, c.loop-done.invariant.4, c.loop-done.invariant.5) in
    let to_in : (0 < oldest_to (session_of c.loop-done.bytes)) × (oldest_to (session_of c.loop-done.bytes) ≤ 1024) = let s = session_of c.loop-done.bytes in
    let g = c.loop-done.invariant.0 in
    (oldest_some s g pending, omega (arith, oldest_in s g pending, g.all_few)) in
    let ends = to_is in
    let within = to_in in (
      omega (
        arith,
        long,
        c.loop-done.invariant.2,
      ),
      omega (arith, ends, within.0),
      omega (arith, ends, within.1),
    )

pub returns-then-not-at_once-is_served_at : goal.returns-then-not-at_once-is_served_at
returns-then-not-at_once-is_served_at c =
    let to_is : c.loop-done.from + c.packets_at.result ≡ oldest_to (session_of c.loop-done.bytes) = let now = c.loop-done in
    oldest_ends (session_of now.bytes) now.from now.done c.packets_at.result now.invariant.6 now.invariant.4 c.packets_at.ensures.0 in
    let pending : (session_of c.loop-done.bytes).head.done < (session_of c.loop-done.bytes).head.count = omega (arith, c.loop-done.invariant.4, c.loop-done.invariant.5) in
    let served_is : c.is_served_at.result
    ≡ is_served (session_of c.loop-done.bytes)
    c.loop-done.ring = c.is_served_at.ensures
    ∙ ap (λ (n : ℕ).
    not (is_set active (get_or c.loop-done.ring
    (2 * (get_or (plans_of c.loop-done.bytes) (n - 1) blank_plan).desc_index) 0)))
    to_is in
    let now = c.loop-done in
    let s = session_of now.bytes in
    let stop : (now.at_once || is_served s now.ring) ≡ false =
    ap (λ (b : Bool). now.at_once || b) (sym served_is) ∙ c.if-not-at_once-is_served_at.true in
    let e = sym (drained_stop now.at_once s now.ring pending stop) ∙ now.invariant.8 in (
      left_is now.invariant.7 (ap (λ (d : Drained). d.session) e),
      ap (λ (d : Drained). d.ring) e,
    )

pub settle_at-requires : goal.settle_at-requires
settle_at-requires c =
    let to_is : c.loop-done.from + c.packets_at.result ≡ oldest_to (session_of c.loop-done.bytes) = let now = c.loop-done in
    oldest_ends (session_of now.bytes) now.from now.done c.packets_at.result now.invariant.6 now.invariant.4 c.packets_at.ensures.0 in
    let pending : (session_of c.loop-done.bytes).head.done < (session_of c.loop-done.bytes).head.count = omega (arith, c.loop-done.invariant.4, c.loop-done.invariant.5) in
    let now = c.loop-done in (
      (now.invariant.1, not_bad (session_of now.bytes) now.invariant.0),
      pending,
      now.invariant.6,
      to_is,
      now.invariant.9,
    )

pub loop-done-preserved : goal.loop-done-preserved
loop-done-preserved c =
    let long : 8488 ≤ length c.args.bytes.now = long_enough c.args.bytes.now refl c.requires.0.0 in
    let to_is : c.loop-done.from + c.packets_at.result ≡ oldest_to (session_of c.loop-done.bytes) = let now = c.loop-done in
    oldest_ends (session_of now.bytes) now.from now.done c.packets_at.result now.invariant.6 now.invariant.4 c.packets_at.ensures.0 in
    let pending : (session_of c.loop-done.bytes).head.done < (session_of c.loop-done.bytes).head.count = omega (arith, c.loop-done.invariant.4, c.loop-done.invariant.5) in
    let served_is : c.is_served_at.result
    ≡ is_served (session_of c.loop-done.bytes)
    c.loop-done.ring = c.is_served_at.ensures
    ∙ ap (λ (n : ℕ).
    not (is_set active (get_or c.loop-done.ring
    (2 * (get_or (plans_of c.loop-done.bytes) (n - 1) blank_plan).desc_index) 0)))
    to_is in
    let now = c.loop-done in
    let after = c.settle_at in
    let s = session_of now.bytes in
    let t = settled_session s now.ring in
    let more : s.head.done < s.head.count =
    pending in
    let g : Sound t = settled_sound s now.ring now.invariant.0 more in
    let left = after.ensures.0 in
    let holds = left.holds in
    let go : (now.at_once || is_served s now.ring) ≡ true =
    ap (λ (b : Bool). now.at_once || b) (sym served_is)
    ∙ c.if-not-at_once-is_served_at.false in (
      subst⁻¹ Sound holds g,
      kept_layout now.bytes now.invariant.1 now.invariant.0 (settled_in_use s now.ring now.invariant.0 more) left,
      after.auto.bytes ∙ now.invariant.2,
      after.auto.ring ∙ now.invariant.3,
      omega (arith, now.invariant.4, ap (λ (u : IsoChannelState). u.head.done) holds),
      now.invariant.5 ∙ sym (ap (λ (u : IsoChannelState). u.head.count) holds),
      to_is
          ∙ sym (settled_from s now.ring now.invariant.0 more)
          ∙ sym (ap oldest_from holds),
      left_is
          (left_over long
          now.invariant.7 left)
          (sym holds),
      ap (λ (u : IsoChannelState). drained false u after.new.ring) holds
          ∙ ap (drained false t) after.ensures.1
          ∙ sym (drained_next now.at_once s now.ring more go)
          ∙ now.invariant.8,
      omega (arith, now.invariant.9, ap (λ (u : IsoChannelState). ring_words u.cfg) holds, after.auto.ring),
    )
