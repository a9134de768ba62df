-- Each test that fails is one of the two checks; without requests there is no entry that could be bad.
use Rattle.std.proofs.Common.{sym, ◌∙◌}
use Rattle.port.proofs.Laws.Sounds.{start_bad, start_good, empty_counted, none_counted}
use Rattle.port.proofs.Laws.Walks.{count_there}
use Rattle.port.proofs.scan.sums_at.Goals as goal

pub returns-then-is_bad_front-are_bad_numbers : goal.returns-then-is_bad_front-are_bad_numbers
returns-then-is_bad_front-are_bad_numbers c =
    let xs = c.args.bytes.now in
    none_counted xs (start_bad xs c.is_bad_front.ensures c.are_bad_numbers.ensures c.if-is_bad_front-are_bad_numbers.true)

pub returns-then-u16_at-eq0 : goal.returns-then-u16_at-eq0
returns-then-u16_at-eq0 c =
    let xs = c.args.bytes.now in
    let good = start_good xs c.is_bad_front.ensures c.are_bad_numbers.ensures c.if-is_bad_front-are_bad_numbers.false in
    empty_counted xs good.0 good.1 (sym c.if-u16_at-eq0.true ∙ c.u16_at.ensures ∙ count_there xs)

pub entries_at-requires : goal.entries_at-requires
entries_at-requires c =
    let xs = c.args.bytes.now in
    let good = start_good xs c.is_bad_front.ensures c.are_bad_numbers.ensures c.if-is_bad_front-are_bad_numbers.false in
    (c.requires, good.0, good.1)
