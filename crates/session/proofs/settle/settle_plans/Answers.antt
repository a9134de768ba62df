-- The part that was lent comes back settled, in its place.
use Rattle.std.proofs.Common.{◌≡◌, length, arith}
use Rattle.session.specs.Settle.{settled_plan}
use Rattle.session.proofs.Laws.Tables.{amended}
use Rattle.session.proofs.settle.settle_plans.Goals as goal

pub returns : goal.returns
returns c =
    let a = c.args in
    let long : length a.plans ≡ 1024 = c.well_formed.0.1.0.1 in
    amended a.from a.to a.plans (omega arith) (omega arith) (settled_plan a.direction a.ring.now) c.settle_packets.new.packets c.settle_packets.ensures
