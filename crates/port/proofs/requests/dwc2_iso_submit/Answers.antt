-- Refused at the bytes, a kind that names nothing, or submitted where the bytes stand: a law for each way out.
use Rattle.std.proofs.Common.{refl, arith}
use Rattle.port.proofs.Laws.Requests.{submit_refused_lem, submit_kind, submit_done}
use Rattle.port.proofs.Laws.Verdict.{verdict_refused, verdict_told}
use Rattle.port.proofs.requests.dwc2_iso_submit.Goals as goal

pub returns-in-Err : goal.returns-in-Err
returns-in-Err c =
    let a = c.args in
    let told = verdict_refused a.session.now c.in-Err.ensures in
    submit_refused_lem a.session.now a.transfer a.lengths.now a.ring.now told.0 told.1 c.submit_refused.ensures

pub returns-then-unnamed : goal.returns-then-unnamed
returns-then-unnamed c =
    let a = c.args in
    submit_kind a.session.now a.transfer a.lengths.now a.ring.now refl (verdict_told a.session.now c.in-Ok.ensures) (omega (arith, c.if-unnamed.true))
    c.submit_refused-then-unnamed.ensures

pub returns-else-unnamed : goal.returns-else-unnamed
returns-else-unnamed c =
    let a = c.args in
    let done = c.submit_at.ensures in
    submit_done a.session.now a.transfer a.lengths.now a.ring.now refl (verdict_told a.session.now c.in-Ok.ensures) (omega (arith, c.if-unnamed.false))
    c.transfer_of.ensures done.0 done.1 done.2
