use Rattle.std.proofs.Common.{refl, sym, ap, ◌∙◌}
use Rattle.session.specs.Session.{slots}
use Rattle.port.specs.Layout.{session_of}
use Rattle.port.proofs.Laws.Placed.{config_there, head_there, reason_there}
use Rattle.port.proofs.Laws.Sounds.{numbers_test}
use Rattle.port.proofs.scan.are_bad_numbers.Goals as goal

pub returns : goal.returns
returns c =
    let xs = c.args.bytes.now in
    let config = c.config_at-cfg.ensures ∙ config_there xs in
    sym
    (numbers_test (session_of xs) config (c.head_at-head.ensures ∙ head_there xs) (c.reason_at.ensures ∙ reason_there xs)
    (c.iso_ring_size.ensures ∙ ap slots config) c.is_bad_config.ensures c.is_bad_state.ensures refl)
