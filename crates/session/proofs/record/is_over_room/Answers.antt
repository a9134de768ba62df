-- What fits with whole intervals between fits.
use mathlib.Core.Path.{◌∙◌, sym, subst}
use Prim.Native.Nat.{ℕ, ◌+◌, ◌*◌, ◌≤◌}
use borrow.Author.Tests.{le-ltb}
use Rattle.session.specs.Session.{slots, room}
use Rattle.session.specs.Place.{step_of}
use Rattle.session.proofs.Laws.Sums.{room_fits}
use Rattle.session.proofs.record.is_over_room.Goals as goal

pub returns-then-packets-from : goal.returns-then-packets-from
returns-then-packets-from c =
    let step = c.from.ensures ∙ c.step_of.ensures in
    let size = c.from-2.ensures ∙ c.slots_of.ensures.0 in
    let fits : (c.args.packets + 1) * step_of c.args.cfg ≤ slots c.args.cfg =
    subst (λ (n : ℕ). (c.args.packets + 1) * n ≤ slots c.args.cfg) step (subst (λ (m : ℕ). (c.args.packets + 1) * c.from.result ≤ m) size c.if-packets-from.true) in
    sym (le-ltb (room c.args.cfg) c.args.packets (room_fits c.args.cfg c.args.packets fits))
