-- One request more has the outcome.
use Rattle.std.proofs.Common.{◌∙◌, ap, set, get_or, arith}
use Rattle.std.proofs.lemmas.List.{get_or_default}
use Rattle.std.proofs.lemmas.List.Edits.{map_over_more}
use Rattle.session.specs.declared.types.IsoRequest.{IsoRequest}
use Rattle.session.specs.Session.{blank_request}
use Rattle.session.specs.End.{with_outcome}
use Rattle.session.proofs.end.fail_requests.Goals as goal

pub loop-request-preserved : goal.loop-request-preserved
loop-request-preserved c =
    let now = c.loop-request in
    let old : IsoRequest = get_or now.requests now.request-index blank_request in
    ap (λ (r : IsoRequest). set now.requests now.request-index r) c.with_outcome.ensures
    ∙ map_over_more (with_outcome c.args.outcome) c.args.requests.now now.requests now.request-index old (omega arith) now.invariant (get_or_default now.requests now.request-index blank_request old (omega arith))
