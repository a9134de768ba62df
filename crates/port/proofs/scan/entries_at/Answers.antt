-- Each test that fails is one of the two checks; past all of them the packets are those of the session.
use Rattle.std.proofs.Common.{ltb, drop, ◌∙◌, sym, refl, arith, ltb-false}
use Rattle.words.proofs.Laws.Tests.{neither}
use Rattle.session.proofs.Laws.Tests.{none}
use Rattle.port.specs.Layout.{any_of}
use Rattle.port.specs.Scan.{is_bad_request_entry}
use Rattle.port.proofs.Laws.Sounds.{counts_few, counted_some, requests_bad, walked, sums_bad, plans_tell, none_counted, some_counted}
use Rattle.port.proofs.scan.entries_at.Goals as goal

pub requests_checked-requires : goal.requests_checked-requires
requests_checked-requires c =
    let xs = c.args.bytes.now in
    (c.requires.0, (counts_few xs refl refl (none c.requires.1 c.requires.2) c.head_at-head.ensures).1)

pub returns-in_err-all : goal.returns-in_err-all
returns-in_err-all c =
    let xs = c.args.bytes.now in
    c.from_residual.ensures
    ∙ none_counted xs
    (requests_bad xs refl refl (none c.requires.1 c.requires.2) c.head_at-head.ensures
    c.in_err-all.ensures)

pub done_packets-before-requires : goal.done_packets-before-requires
done_packets-before-requires c =
    let xs = c.args.bytes.now in
    let few = counts_few xs refl refl (none c.requires.1 c.requires.2) c.head_at-head.ensures in
    let counted = counted_some xs (any_of is_bad_request_entry 20 c.head_at-head.result.count (drop 40 xs)) c.in_ok-all.ensures in
    (c.requires.0, omega (arith, few), counted.1)

pub overflow_sub-pending : goal.overflow_sub-pending
overflow_sub-pending c =
    (walked c.args.bytes.now refl refl (none c.requires.1 c.requires.2) c.head_at-head.ensures
    c.in_ok-all.ensures c.done_packets-before.ensures).below

pub returns-then-all-is_over_room : goal.returns-then-all-is_over_room
returns-then-all-is_over_room c =
    let xs = c.args.bytes.now in
    let w =
    walked xs refl refl (none c.requires.1 c.requires.2) c.head_at-head.ensures
    c.in_ok-all.ensures c.done_packets-before.ensures in
    none_counted xs (sums_bad xs w c.config_at-cfg.ensures c.is_over_room.ensures c.if-all-is_over_room.true)

pub any_bad_in_use-requires : goal.any_bad_in_use-requires
any_bad_in_use-requires c =
    let xs = c.args.bytes.now in
    let w =
    walked xs refl refl (none c.requires.1 c.requires.2) c.head_at-head.ensures
    c.in_ok-all.ensures c.done_packets-before.ensures in
    let few = neither (ltb 1024 c.in_ok-all.all) c.is_over_room.result c.if-all-is_over_room.false in
    (c.requires.0, w.below, ltb-false 1024 c.in_ok-all.all few.0)

pub returns-then-any_bad_in_use : goal.returns-then-any_bad_in_use
returns-then-any_bad_in_use c =
    let xs = c.args.bytes.now in
    let w =
    walked xs refl refl (none c.requires.1 c.requires.2) c.head_at-head.ensures
    c.in_ok-all.ensures c.done_packets-before.ensures in
    let tell = plans_tell xs w c.config_at-cfg.ensures c.is_over_room.ensures c.if-all-is_over_room.false c.any_bad_in_use.ensures in
    none_counted xs (sym tell ∙ c.if-any_bad_in_use.true)

pub returns : goal.returns
returns c =
    let xs = c.args.bytes.now in
    let w =
    walked xs refl refl (none c.requires.1 c.requires.2) c.head_at-head.ensures
    c.in_ok-all.ensures c.done_packets-before.ensures in
    let tell = plans_tell xs w c.config_at-cfg.ensures c.is_over_room.ensures c.if-all-is_over_room.false c.any_bad_in_use.ensures in
    some_counted xs (sym tell ∙ c.if-any_bad_in_use.false) w.all_is w.pending_is
