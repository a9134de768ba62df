-- The first request is settled, by the bit or since it is served, and the second is not: its slot is none of those that are cleared.
use Rattle.std.proofs.Common.{◌≡◌, ℕ, ◌-◌, ◌*◌, not, ◌||◌, eqb, get_or, sym, refl, ap, ◌∙◌, arith}
use Rattle.std.specs.List.{list_any, range_with_len}
use borrow.Author.Tests.{not-true}
use Rattle.words.specs.Words.{is_set, active}
use Rattle.session.specs.Session.{blank_plan}
use Rattle.session.specs.Settle.{is_served}
use Rattle.port.specs.Layout.{session_of}
use Rattle.port.specs.Places.{plans_of}
use Rattle.port.proofs.Laws.Calls.{long_enough}
use Rattle.port.proofs.Laws.First.{apart, first_to, ends_in, first_alone}
use Rattle.port.proofs.Laws.Walks.{sound_there}
use Rattle.port.proofs.first.is_alone.Goals as goal

pub is_settled-requires : goal.is_settled-requires
is_settled-requires c =
    let xs = c.args.bytes.now in
    let r = c.requires in
    let ends = ends_in (session_of xs) c.args.ring.now (sound_there xs r.0.1) r.1 r.2 r.3 r.4 in
    (long_enough xs refl r.0.0, ends.0, omega (arith, ends))

pub is_served_at-requires : goal.is_served_at-requires
is_served_at-requires c =
    let xs = c.args.bytes.now in
    let r = c.requires in
    let ends = ends_in (session_of xs) c.args.ring.now (sound_there xs r.0.1) r.1 r.2 r.3 r.4 in
    (long_enough xs refl r.0.0, omega (arith, ends), ends.2)

pub overflow_sub-to : goal.overflow_sub-to
overflow_sub-to c =
    let r = c.requires in
    let ends = ends_in (session_of c.args.bytes.now) c.args.ring.now (sound_there c.args.bytes.now r.0.1) r.1 r.2 r.3 r.4 in
    omega (arith, ends)

pub slot_at-slot-requires : goal.slot_at-slot-requires
slot_at-slot-requires c =
    let xs = c.args.bytes.now in
    let r = c.requires in
    let ends = ends_in (session_of xs) c.args.ring.now (sound_there xs r.0.1) r.1 r.2 r.3 r.4 in
    (long_enough xs refl r.0.0, omega (arith, ends))

pub has_slot-requires : goal.has_slot-requires
has_slot-requires c =
    let xs = c.args.bytes.now in
    let r = c.requires in
    let ends = ends_in (session_of xs) c.args.ring.now (sound_there xs r.0.1) r.1 r.2 r.3 r.4 in
    (long_enough xs refl r.0.0, omega (arith, ends))

pub returns : goal.returns
returns c =
    let a = c.args in
    let xs = a.bytes.now in
    let s = session_of xs in
    let ring = a.ring.now in
    let r = c.requires in
    let good = sound_there xs r.0.1 in
    let settled : c.is_settled.result ≡ (a.bit || is_served s ring) =
    c.is_settled.ensures
    ∙ ap (λ (n : ℕ). a.bit || not (is_set active (get_or ring (2 * (get_or (plans_of xs) (n - 1) blank_plan).desc_index) 0)))
    (sym (first_to s ring good r.1 r.2 r.3)) in
    λ e.
    first_alone s ring good r.1 r.2 r.3 r.4 a.bit (sym settled ∙ c.if-not-is_settled.false) (sym c.is_served_at.ensures ∙ c.if-is_served_at.false)
    (apart a.n (get_or (plans_of xs) (a.to - 1) blank_plan).desc_index (plans_of xs)
    (sym
    (c.has_slot.ensures
    ∙ ap (λ (n : ℕ). list_any (λ (i : ℕ). eqb (get_or (plans_of xs) i blank_plan).desc_index n) (range_with_len 0 a.n)) c.slot_at-slot.ensures)
    ∙ not-true c.has_slot.result e))
