-- Opening: document 01, "The session". "One endpoint configuration is fixed at opening, which zeroes the ring; refused, it stores nothing and gives
-- an idle session of what was offered."
use Rattle.std.specs.Prelude.{cond, List, ℕ, Result, Ok, Err, ⊤, ltb, length}
use Rattle.session.specs.declared.open.Opened.{Opened}
use Rattle.session.specs.declared.types.IsoConfig.{IsoConfig}
use Rattle.session.specs.declared.refusal.IsoRefusal.{IsoRefusal}
use Rattle.session.specs.declared.refusal.IsoRefusal.TheVariants.{ShortBuffer, BadRecord}
use Rattle.session.specs.Session.{ring_words, cleared, idle_session}
use Rattle.session.specs.Record.{is_bad_config}

-- 17, then 18
abbrev pub open_answer : IsoConfig → ℕ → Result ⊤ IsoRefusal
open_answer cfg words = cond (ltb words (ring_words cfg)) (Err ShortBuffer) (cond (is_bad_config cfg) (Err BadRecord) (Ok tt))

abbrev pub opened : IsoConfig → ℕ → Opened
opened cfg words = record { answer = open_answer cfg words; session = idle_session cfg }

abbrev pub ring_after : Result ⊤ IsoRefusal → IsoConfig → List ℕ → List ℕ
ring_after (Ok done) cfg ring = cleared (ring_words cfg) ring
ring_after (Err r) cfg ring = ring

abbrev pub opened_ring : IsoConfig → List ℕ → List ℕ
opened_ring cfg ring = ring_after (open_answer cfg (length ring)) cfg ring
