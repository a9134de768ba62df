-- Too short, refused before the tables, refused in them, or of the layout: the requests are looked at before the plans.
use Rattle.std.proofs.Common.{true, false}
use Rattle.port.proofs.Laws.Loaded.{bad_front, layout_none, layout_some}
use Rattle.port.proofs.load.layout_refusal.Goals as goal

pub returns-then-is_bad_front : goal.returns-then-is_bad_front
returns-then-is_bad_front c = bad_front c.args.bytes.now c.if-bytes-lt8488.false c.is_bad_front.ensures c.if-is_bad_front.true

pub returns-in_default : goal.returns-in_default
returns-in_default c =
    layout_none c.args.bytes.now c.if-bytes-lt8488.false c.is_bad_front.ensures c.if-is_bad_front.false c.requests_in.ensures c.requests_used.ensures c.in_default.is

pub returns-then-any_bad_plan : goal.returns-then-any_bad_plan
returns-then-any_bad_plan c =
    layout_some c.args.bytes.now c.if-bytes-lt8488.false c.is_bad_front.ensures c.if-is_bad_front.false c.requests_in.ensures c.requests_used.ensures true
    c.in-Some.is c.min.ensures c.any_bad_plan.ensures c.if-any_bad_plan.true

pub returns : goal.returns
returns c =
    layout_some c.args.bytes.now c.if-bytes-lt8488.false c.is_bad_front.ensures c.if-is_bad_front.false c.requests_in.ensures c.requests_used.ensures false
    c.in-Some.is c.min.ensures c.any_bad_plan.ensures c.if-any_bad_plan.false
