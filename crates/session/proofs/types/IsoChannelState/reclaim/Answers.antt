-- Looking leaves a sound record.
use mathlib.Core.Path.{sym, ◌∙◌, subst⁻¹}
use Rattle.session.specs.declared.reply.IsoReply.{IsoReply}
use Rattle.session.proofs.Laws.Record.{Sound, held_sound, not_bad}
use Rattle.session.proofs.Laws.Reclaims.{looked_sound}
use Rattle.session.proofs.types.IsoChannelState.reclaim.Goals as goal

pub look_again-requires : goal.look_again-requires
look_again-requires c =
    let a = c.args in
    let s = held_sound a.self c.well_formed.0 (sym c.is_bad_record.ensures ∙ c.if-is_bad_record.false) in
    let looked = subst⁻¹ (λ (r : IsoReply). Sound r.session) c.look-reply.ensures.0 (looked_sound a.id a.event a.self a.ring.now s) in
    (not_bad c.look-reply.result.session looked, c.if-results-lt255.false)
