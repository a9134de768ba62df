-- The walk finds nothing where a test of the definition holds, and in a good record what the definition says.
use Rattle.std.proofs.Common.{◌≡◌, ◌∙◌, refl, sym, ap, ap₂, ℕ, ◌+◌, ◌-◌, Bool, ◌||◌, List, take, drop, get_or, arith}
use Rattle.std.proofs.Math.Seq.{slice}
use Rattle.session.specs.declared.types.IsoPacketPlan.{IsoPacketPlan}
use Rattle.session.specs.Session.{blank_plan}
use Rattle.session.specs.Record.{any_bad_plan}
use Rattle.session.specs.Way.{is_held}
use Rattle.session.proofs.Laws.Scans.{scanned_none, bad_done, bad_pending, none_bad, its_pending, its_all, bad_sums, plan_parts, bad_left, not_bad_left}
use Rattle.session.proofs.Laws.Tables.{part}
use Rattle.session.proofs.types.IsoChannelState.scan.Goals as goal

pub returns-in_err-before : goal.returns-in_err-before
returns-in_err-before c =
    let s = c.args.self.now in
    scanned_none s c.from_residual.ensures (bad_done s (omega arith) c.is_bad_config.ensures c.if-is_bad_config-head.false c.in_err-before.ensures.counted)

pub returns-in_err-pending : goal.returns-in_err-pending
returns-in_err-pending c =
    let s = c.args.self.now in
    scanned_none s c.from_residual-in_err-pending.ensures
    (bad_pending s (omega arith) c.is_bad_config.ensures c.if-is_bad_config-head.false c.in_ok-before.ensures.counted c.in_err-pending.ensures.counted)

pub overflow_add-all : goal.overflow_add-all
overflow_add-all c = omega (arith, c.in_ok-before.ensures.few, c.in_ok-pending.ensures.few)

pub returns-then-all-pending : goal.returns-then-all-pending
returns-then-all-pending c =
    let s = c.args.self.now in
    let tests = c.is_bad_config.ensures in
    let past = c.if-is_bad_config-head.false in
    let first = c.in_ok-before.ensures.counted in
    let second = c.in_ok-pending.ensures.counted in
    bad_sums s (omega arith) tests past (none_bad s (omega arith) tests past first second) refl (its_all s (omega arith) tests past first second)
    (its_pending s (omega arith) tests past first second) c.room.ensures c.if-all-pending.true

pub returns-then-any_bad_plan : goal.returns-then-any_bad_plan
returns-then-any_bad_plan c =
    let s = c.args.self.now in
    let tests = c.is_bad_config.ensures in
    let past = c.if-is_bad_config-head.false in
    let first = c.in_ok-before.ensures.counted in
    let second = c.in_ok-pending.ensures.counted in
    let before = c.in_ok-before.before in
    let pending = c.in_ok-pending.pending in
    let limit = c.iso_max_xfer_size-limit.result in
    let size = c.slots_of-slots.result in
    let requests = none_bad s (omega arith) tests past first second in
    let all = its_all s (omega arith) tests past first second in
    let its = its_pending s (omega arith) tests past first second in
    let behind = any_bad_plan limit size (take (before + pending - before) (drop before s.plans)) in
    let bad = ap (λ (b : Bool). b || behind) (sym c.any_bad_plan.ensures ∙ c.if-any_bad_plan.true) in
    bad_left s (omega arith) tests past requests refl all its c.room.ensures c.if-all-pending.false c.iso_max_xfer_size-limit.ensures
    c.slots_of-slots.ensures.0 (plan_parts s (omega arith) tests past requests refl all its c.room.ensures limit size before (omega arith)) bad

pub returns-in_err-held : goal.returns-in_err-held
returns-in_err-held c =
    let s = c.args.self.now in
    let tests = c.is_bad_config.ensures in
    let past = c.if-is_bad_config-head.false in
    let first = c.in_ok-before.ensures.counted in
    let second = c.in_ok-pending.ensures.counted in
    let before = c.in_ok-before.before in
    let limit = c.iso_max_xfer_size-limit.result in
    let size = c.slots_of-slots.result in
    let requests = none_bad s (omega arith) tests past first second in
    let all = its_all s (omega arith) tests past first second in
    let its = its_pending s (omega arith) tests past first second in
    let bad = ap₂ (λ (a b : Bool). a || b) (sym c.any_bad_plan.ensures ∙ c.if-any_bad_plan.false) c.in_err-held.ensures in
    scanned_none s c.from_residual-in_err-held.ensures
    (bad_left s (omega arith) tests past requests refl all its c.room.ensures c.if-all-pending.false c.iso_max_xfer_size-limit.ensures
    c.slots_of-slots.ensures.0 (plan_parts s (omega arith) tests past requests refl all its c.room.ensures limit size before (omega arith)) bad)

pub returns : goal.returns
returns c =
    let s = c.args.self.now in
    let tests = c.is_bad_config.ensures in
    let past = c.if-is_bad_config-head.false in
    let first = c.in_ok-before.ensures.counted in
    let second = c.in_ok-pending.ensures.counted in
    let before = c.in_ok-before.before in
    let pending = c.in_ok-pending.pending in
    let limit = c.iso_max_xfer_size-limit.result in
    let size = c.slots_of-slots.result in
    let requests = none_bad s (omega arith) tests past first second in
    let all = its_all s (omega arith) tests past first second in
    let its = its_pending s (omega arith) tests past first second in
    let marked = c.in_ok-held.ensures in
    let good = ap₂ (λ (a b : Bool). a || b) (sym c.any_bad_plan.ensures ∙ c.if-any_bad_plan.false) marked.0 in
    let plans = sym good ∙ plan_parts s (omega arith) tests past requests refl all its c.room.ensures limit size before (omega arith) in
    let left : before + pending - pending ≡ before = omega arith in (
      not_bad_left s (omega arith) tests past requests refl all its c.room.ensures c.if-all-pending.false c.iso_max_xfer_size-limit.ensures
          c.slots_of-slots.ensures.0 plans c.is_bad_state.ensures c.if-is_bad_state.false,
      record {
        all = all;
        pending = its;
        tail = ap (λ (k : ℕ). (get_or s.plans k blank_plan).desc_index) (c.saturating_sub.ensures ∙ ap (λ (a : ℕ). a - 1) all);
        held = λ k h.
            marked.1 k h
            ∙ ap (λ (ps : List IsoPacketPlan). is_held ps k)
            (part before (before + pending) s.plans (omega arith)
            ∙ ap (λ (f : ℕ). slice f (before + pending) s.plans) (sym left)
            ∙ ap₂ (λ (a p : ℕ). slice (a - p) a s.plans) all its);
      },
    )
