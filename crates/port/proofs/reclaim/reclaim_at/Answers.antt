-- Refused with 17 or 18 and nothing is stored, or done on a good record.
use Rattle.std.proofs.Common.{sym, ◌∙◌, refl, arith}
use Rattle.session.proofs.Laws.Reclaims.{reclaim_short, reclaim_bad}
use Rattle.port.specs.Layout.{session_of}
use Rattle.port.proofs.Canonical.{loaded_left}
use Rattle.port.proofs.Laws.Reclaiming.{short_there, refused_in_place}
use Rattle.port.proofs.Laws.Verdict.{record_none, record_some}
use Rattle.port.proofs.reclaim.reclaim_at.Goals as goal

pub returns-then-ring-words : goal.returns-then-ring-words
returns-then-ring-words c =
    let a = c.args in
    let xs = a.bytes.now in
    let short = short_there xs a.ring.now a.results.now c.config_at.ensures c.ring_words-words.ensures.0 ∙ c.if-ring-words.true in
    refused_in_place xs a.ring.now a.results.now a.id a.event (loaded_left xs c.requires.0 (λ i. omega (arith, c.slice_known-1.given i)))
    c.reclaim_refused.ensures (reclaim_short (session_of xs) a.id a.event a.ring.now a.results.now short refl)

pub reclaim_good-requires : goal.reclaim_good-requires
reclaim_good-requires c =
    let a = c.args in
    let xs = a.bytes.now in
    let short = short_there xs a.ring.now a.results.now c.config_at.ensures c.ring_words-words.ensures.0 ∙ c.if-ring-words.false in
    let told = record_some (session_of xs) (sym c.in-Some.is ∙ c.requires.1) in
    ((c.requires.0, told.0), told.1, short)

pub returns-in-None : goal.returns-in-None
returns-in-None c =
    let a = c.args in
    let xs = a.bytes.now in
    let short = short_there xs a.ring.now a.results.now c.config_at.ensures c.ring_words-words.ensures.0 ∙ c.if-ring-words.false in
    let bad = record_none (session_of xs) (sym c.in-None.is ∙ c.requires.1) in
    refused_in_place xs a.ring.now a.results.now a.id a.event (loaded_left xs c.requires.0 (λ i. omega (arith, c.slice_known-1.given i)))
    c.reclaim_refused-in-None.ensures (reclaim_bad (session_of xs) a.id a.event a.ring.now a.results.now short bad refl)
