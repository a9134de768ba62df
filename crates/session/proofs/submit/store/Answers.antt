-- `store` is the loop at the ring and the step of the configuration; its addresses fit, so none wraps.
use mathlib.Core.Path.{◌∙◌, ap}
use mathlib.Core.List.{List, map}
use Prim.Native.Nat.{ℕ, max}
use lib.ListN.{take}
use Rattle.ring.proofs.RingFacts.{ring_size_pos}
use Rattle.ring.proofs.Stores.{some_slots}
use Rattle.session.specs.Session.{slots}
use Rattle.session.specs.Place.{step_of}
use Rattle.session.proofs.Laws.Stores.{none_wraps}
use Rattle.ring.specs.Stores.{Store, stored, stores_from, as_word}
use Rattle.session.proofs.submit.store.Goals as goal

pub returns : goal.returns
returns c =
    let a = c.args in
    let step = c.step_of in
    let slots_are = c.slots_of in
    let left : List Store → List ℕ = λ xs. stored (take a.transfer.words xs) a.ring.now in
    let words : ℕ → ℕ → List Store = λ R k. stores_from R a.insert k 0 a.transfer.base a.lengths.now in
    c.store_packets.ensures
    ∙ ap (λ (R : ℕ). left (map as_word (words (max 1 R) step.result))) slots_are.ensures.0
    ∙ ap (λ (R : ℕ). left (map as_word (words R step.result))) (some_slots (slots a.cfg) (ring_size_pos a.cfg.speed))
    ∙ ap (λ (k : ℕ). left (map as_word (words (slots a.cfg) k))) step.ensures
    ∙ ap left (none_wraps (slots a.cfg) a.insert (step_of a.cfg) 0 a.transfer.base a.lengths.now
    c.requires)
