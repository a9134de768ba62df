-- The end of a session keeps the invariant, whatever ring it finds: nothing is pending, nothing is put, the ring is zero. So does recovery.
use mathlib.Core.Path.{◌≡◌, refl, sym, ap, subst⁻¹}
use mathlib.Core.List.{List, [], map}
use Prim.Native.Nat.{ℕ, ◌-◌, ◌≤◌}
use native.Mathlib.Omega.{arith}
use lib.ListN.{length, drop, drop_of_length-le}
use Rattle.session.specs.declared.types.IsoOutcome.{IsoOutcome}
use Rattle.session.specs.declared.types.IsoOutcome.TheVariants as outcome
use Rattle.session.specs.declared.types.IsoChannelState.{IsoChannelState}
use Rattle.session.specs.declared.reply.IsoReply.{IsoReply}
use Rattle.session.specs.Session.{ring_words, all_packets, pending_packets}
use Rattle.session.specs.Way.{pending_plans}
use Rattle.session.specs.End.{ended_requests, ended, ended_ring}
use Rattle.session.specs.Poll.{recovered, recovered_ring}
use Rattle.session.proofs.Laws.Sums.{packets_past}
use Rattle.session.proofs.Laws.Record.{Sound, not_bad}
use Rattle.session.proofs.Laws.Lists.{slice_past}
use Rattle.session.proofs.Laws.Ended.{ended_sound}
use Rattle.laws.specs.Drawing.{Laid}
use Rattle.laws.specs.Run.{State, Recover, still_put, recover, step}
use Rattle.laws.specs.Demand3.{slot_of_plan}
use Rattle.laws.specs.Invariant.{Fits, Numbered, Invariant}
use Rattle.laws.proofs.Lists.{distinct_none}
use Rattle.laws.proofs.Calls.Recovery.{recovery}
use Rattle.laws.proofs.Calls.Course.{ended_order}
use Rattle.laws.proofs.Fitting.{ring_long}
use Rattle.laws.proofs.Keeping.{Keeps, left_invariant, numbered_same}

module _ (o : IsoOutcome) (s : IsoChannelState) (g : Sound s) where
  none_pending : pending_packets (ended o s) ≡ 0
  none_pending = packets_past s.head.count s.head.count (ended_requests o s) (omega arith)

  none_planned : pending_plans (ended o s) ≡ []
  none_planned = slice_past (all_packets (ended o s) - pending_packets (ended o s)) (all_packets (ended o s)) s.plans (omega (arith, none_pending))

  pub none_put : (put : List Laid) → still_put (ended o s) put ≡ []
  none_put put =
      let all : length put ≤ length put - pending_packets (ended o s) = omega (arith, none_pending) in
      drop_of_length-le put all

  pub ended_fits : (ring : List ℕ) (put : List Laid) → Fits (ended o s) (ended_ring s ring) (still_put (ended o s) put)
  ended_fits ring put =
      subst⁻¹ (Fits (ended o s) (ended_ring s ring)) (none_put put)
      (record {
        sound = ended_sound o s g;
        behind = drop (ring_words s.cfg) ring;
        drawing = refl;
        in_order = sym (ap (map slot_of_plan) none_planned);
        apart = distinct_none;
      })

  pub ended_numbered : (numbers : List ℕ) → Numbered s numbers → Numbered (ended o s) numbers
  ended_numbered numbers h =
      numbered_same s (ended o s) numbers h refl (ended_order o s g).numbers

pub ended_keeps : (o : IsoOutcome) (st : State) → Invariant st → (ring : List ℕ) → Keeps st (ended o st.session) (ended_ring st.session ring)
ended_keeps o st v ring =
    record {
      guarded = v.guarded;
      fits = ended_fits o st.session v.fits.sound ring st.put;
      numbered = ended_numbered o st.session v.fits.sound st.numbers v.numbered;
    }

-- recovery on a ring as long as the session's
pub recovery_step : (st : State) → Invariant st → (ring : List ℕ) → ring_words st.session.cfg ≤ length ring → Invariant (recover st ring)
recovery_step st v ring long =
    let e = recovery st.session ring long (not_bad st.session v.fits.sound) in
    left_invariant st (recovered st.session (length ring)).session (recovered_ring st.session ring)
    (subst⁻¹ (λ (r : IsoReply). Keeps st r.session (recovered_ring st.session ring)) e.0
    (subst⁻¹ (Keeps st (ended outcome.Disconnected st.session)) e.1 (ended_keeps outcome.Disconnected st v ring)))

pub recovering : (st : State) → Invariant st → Invariant (step st Recover)
recovering st v = recovery_step st v st.ring (ring_long v.fits)
