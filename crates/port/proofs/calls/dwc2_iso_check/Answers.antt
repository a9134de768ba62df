-- Bytes that no call works on are refused with their number.
use Rattle.std.proofs.Common.{ℕ, cond, ◌∙◌}
use Rattle.session.specs.declared.types.IsoChannelState.{IsoChannelState}
use Rattle.session.specs.Record.{is_bad_record}
use Rattle.port.proofs.Laws.Verdict.{refused_by}
use Rattle.port.proofs.calls.dwc2_iso_check.Goals as goal

pub returns-in-Err : goal.returns-in-Err
returns-in-Err c =
    c.refusal_number.ensures
    ∙ refused_by c.args.session.now (λ (n : ℕ). n) (λ (s : IsoChannelState). cond (is_bad_record s) 18 0) c.in-Err.ensures
