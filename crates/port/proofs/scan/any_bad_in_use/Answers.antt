-- The plans of completed requests and those behind them are all plans in use.
use Rattle.std.proofs.Common.{◌≡◌, ℕ, ◌+◌, ◌-◌, ◌*◌, ◌≤◌, Bool, ◌||◌, List, drop, sym, refl, ap, ◌∙◌, ap₂, arith}
use Rattle.port.specs.Layout.{any_of}
use Rattle.port.specs.Scan.{is_bad_plan_entry}
use Rattle.port.proofs.Laws.Tables.{any_split}
use Rattle.port.proofs.scan.any_bad_in_use.Goals as goal

-- a first part, and what is behind it
parts :
    (before all : ℕ) (xs : List ℕ) {limit size l z : ℕ} {first second : Bool} → before ≤ all → limit ≡ l → size ≡ z
    → first ≡ any_of (is_bad_plan_entry limit size) 7 (before - 0) (drop (1320 + 7 * 0) xs)
    → second ≡ any_of (is_bad_plan_entry limit size) 7 (all - before) (drop (1320 + 7 * before) xs)
    → (first || second) ≡ any_of (is_bad_plan_entry l z) 7 all (drop 1320 xs)
parts before all xs {limit} {size} h el ez e f =
    let bad = is_bad_plan_entry limit size in
    let front : before - 0 ≡ before = omega arith in
    let here : 1320 + 7 * 0 ≡ 1320 = omega arith in
    let whole : before + (all - before) ≡ all = omega (arith, h) in
    ap₂ (λ (a b : Bool). a || b) (e ∙ ap₂ (λ (n k : ℕ). any_of bad 7 n (drop k xs)) front here) f
    ∙ sym (any_split bad 7 before (all - before) 1320 xs)
    ∙ ap (λ (n : ℕ). any_of bad 7 n (drop 1320 xs)) whole
    ∙ ap₂ (λ (m n : ℕ). any_of (is_bad_plan_entry m n) 7 all (drop 1320 xs)) el ez

pub returns-then-any_bad_packet : goal.returns-then-any_bad_packet
returns-then-any_bad_packet c =
    let a = c.args in
    let xs = a.bytes.now in
    let limit = c.iso_max_xfer_size-limit in
    let slots = c.iso_ring_size-slots in
    let rest = any_of (is_bad_plan_entry limit.result slots.result) 7 (a.all - a.before) (drop (1320 + 7 * a.before) xs) in
    ap (λ (b : Bool). b || rest) (sym c.if-any_bad_packet.true)
    ∙ parts a.before a.all xs c.requires.1 limit.ensures slots.ensures c.any_bad_packet.ensures refl

pub returns-then-are_unsettled : goal.returns-then-are_unsettled
returns-then-are_unsettled c =
    let a = c.args in
    let xs = a.bytes.now in
    let none = c.are_unsettled.ensures c.if-are_unsettled.true in
    ap₂ (λ (x y : Bool). x || y) (sym c.if-any_bad_packet.false) (sym none)
    ∙ parts a.before a.all xs c.requires.1 c.iso_max_xfer_size-limit.ensures c.iso_ring_size-slots.ensures c.any_bad_packet.ensures refl

pub returns : goal.returns
returns c =
    let a = c.args in
    let xs = a.bytes.now in
    let limit = c.iso_max_xfer_size-limit in
    let slots = c.iso_ring_size-slots in
    ap (λ (b : Bool). b || c.any_bad_packet-2.result) (sym c.if-any_bad_packet.false)
    ∙ parts a.before a.all xs c.requires.1 limit.ensures slots.ensures c.any_bad_packet.ensures c.any_bad_packet-2.ensures
