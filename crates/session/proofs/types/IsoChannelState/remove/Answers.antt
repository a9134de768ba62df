-- What is left is its definition at what the calls answer.
use Rattle.std.proofs.Common.{◌≡◌, ◌≤◌, ◌∙◌, ap, ℕ, ◌+◌, take, arith}
use Rattle.session.specs.Session.{packets_of, all_packets}
use Rattle.session.specs.Reclaim.{closed_up}
use Rattle.session.proofs.Laws.Record.{held_sound}
use Rattle.session.proofs.Laws.Handed.{plans_in_lem, removed_by}
use Rattle.session.proofs.Laws.Tables.{closed_lem}
use Rattle.session.proofs.types.IsoChannelState.remove.Goals as goal
use Rattle.session.proofs.types.IsoChannelState.remove.Goals.{After-packets_of-all}

-- the plans of the request end where those in use do, or before
all_by : (c : After-packets_of-all) → (c.packets_of-all.result ≡ all_packets c.args.self) × (c.plans_end-to.result ≤ c.packets_of-all.result)
all_by c =
    let a = c.args in
    let s = held_sound a.self c.well_formed.0 c.requires.0 in
    let all : c.packets_of-all.result ≡ all_packets a.self =
    c.packets_of-all.ensures ∙ ap (λ (n : ℕ). packets_of (take n a.self.requests)) c.from-count.ensures in
    (all, omega (arith, all, c.plans_end-to.ensures.0, plans_in_lem a.self s a.at (omega (arith, s.done_in, c.requires.1))))

pub copy_within-requires-clause-start_le_end : goal.copy_within-requires-clause-start_le_end
copy_within-requires-clause-start_le_end c = (all_by (goal.at.copy_within-requires-clause-start_le_end c).After-packets_of-all).1

pub returns : goal.returns
returns c =
    let a = c.args in
    let s = held_sound a.self c.well_formed.0 c.requires.0 in
    let from = c.plans_begin-from in
    let to = c.plans_end-to in
    let all = all_by (goal.at.returns c).After-packets_of-all in
    let count = c.from-count in
    removed_by a.at a.self from.result to.result from.ensures to.ensures.0 c.packets_of-all.result c.copy_within-2.new.self c.copy_within.new.self all.0
    (c.copy_within-2.ensures.after
    ∙ closed_lem (a.at + 1) count.result a.self.requests (omega (arith, count.ensures, s.done_in, c.requires.1))
    (omega (arith, count.ensures, s.count_in, s.requests_long)) a.at (omega arith)
    ∙ ap (λ (n : ℕ). closed_up a.at (a.at + 1) n a.self.requests) count.ensures)
    (c.copy_within.ensures.after
    ∙ closed_lem to.result c.packets_of-all.result a.self.plans all.1 (omega (arith, all.0, s.all_few, s.plans_long)) from.result
    (omega (arith, from.ensures, to.ensures.1)))
