-- Of a bad record nothing is read. In a good one the sums are its own, and the newest packet's plan is read where it stands: the first packet's
-- slot goes by it.
use Rattle.std.proofs.Common.{◌≡◌, ℕ, ◌-◌, ◌<◌, ◌&&◌, length, get_or, sym, refl, ap, ◌∙◌, ap₂, arith}
use Rattle.ring.specs.RingSums.{slots_from}
use Rattle.session.specs.declared.types.IsoConfig.{IsoConfig}
use Rattle.session.specs.declared.types.IsoHead.{IsoHead}
use Rattle.session.specs.declared.types.IsoPacketPlan.{IsoPacketPlan}
use Rattle.session.specs.Session.{blank_plan, slots}
use Rattle.session.specs.Place.{step_of, tail_slot, insert_at}
use Rattle.session.specs.Way.{is_guarded, any_held, pending_plans}
use Rattle.session.proofs.Laws.Record.{good_sums}
use Rattle.session.proofs.Laws.Scans.{found_at}
use Rattle.port.specs.Layout.{session_of}
use Rattle.port.proofs.Laws.Calls.{long_enough}
use Rattle.port.proofs.Laws.Placed.{plan_there}
use Rattle.port.proofs.Laws.Verdict.{record_some}
use Rattle.port.proofs.marks.scan_of.Goals as goal

pub clash_at-requires : goal.clash_at-requires
clash_at-requires c =
    let xs = c.args.bytes.now in
    let told = record_some (session_of xs) (sym c.in_ok-all.was ∙ c.requires.1) in
    (long_enough xs refl c.requires.0, told.0, told.1, told.2)

pub returns : goal.returns
returns c =
    let a = c.args in
    let xs = a.bytes.now in
    let s = session_of xs in
    let L = a.lengths.now in
    let told = record_some s (sym c.in_ok-all.was ∙ c.requires.1) in
    let newest : c.saturating_sub.result < 1024 = omega (arith, c.saturating_sub.ensures, told.1, (good_sums s told.0).0) in
    let plan = c.plan_at-last in
    let insert = c.insert_of-insert in
    let last = plan.ensures ∙ plan_there xs c.saturating_sub.result blank_plan newest in
    let tail : plan.result.desc_index ≡ tail_slot s =
    ap (λ (p : IsoPacketPlan). p.desc_index) last
    ∙ ap (λ (k : ℕ). (get_or s.plans k blank_plan).desc_index) (c.saturating_sub.ensures ∙ ap (λ (n : ℕ). n - 1) told.1) in (
      told.0,
      found_at s a.transfer L a.ring.now _ told.1 told.2 tail
          (insert.ensures
          ∙ ap₂ (λ (cfg : IsoConfig) (h : IsoHead). insert_at cfg h a.transfer plan.result.desc_index a.ring.now) c.requires.2 c.requires.3)
          (λ few.
          c.clash_at.ensures few
          ∙ ap (λ (cfg : IsoConfig).
          is_guarded cfg.mode && any_held (pending_plans s) (slots_from (slots cfg) insert.result (step_of cfg) 0 (length L))) c.requires.2),
    )
