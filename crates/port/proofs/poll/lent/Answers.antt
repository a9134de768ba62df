-- Each way out is the definition at the tests that led there.
use Rattle.std.proofs.Common.{sym, ap, ◌∙◌}
use Rattle.session.specs.Session.{ring_words}
use Rattle.port.specs.Layout.{session_of}
use Rattle.port.proofs.Laws.Placed.{config_there}
use Rattle.port.proofs.Laws.Polling.{lent_short, lent_bad, lent_good}
use Rattle.port.proofs.poll.lent.Goals as goal

pub returns-then-words-ring_words : goal.returns-then-words-ring_words
returns-then-words-ring_words c =
    let xs = c.args.bytes.now in
    lent_short (session_of xs) c.args.words (c.ring_words.ensures.0 ∙ ap ring_words (c.config_at.ensures ∙ config_there xs)) c.if-words-ring_words.true

pub returns-then-bad : goal.returns-then-bad
returns-then-bad c =
    let xs = c.args.bytes.now in
    lent_bad (session_of xs) c.args.words (c.ring_words.ensures.0 ∙ ap ring_words (c.config_at.ensures ∙ config_there xs)) c.if-words-ring_words.false
    (sym c.requires.1 ∙ c.if-bad.true)

pub returns : goal.returns
returns c =
    let xs = c.args.bytes.now in
    lent_good (session_of xs) c.args.words (c.ring_words.ensures.0 ∙ ap ring_words (c.config_at.ensures ∙ config_there xs)) c.if-words-ring_words.false
    (sym c.requires.1 ∙ c.if-bad.false)
