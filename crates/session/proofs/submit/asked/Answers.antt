-- `asked` answers from the walk: the first packet's slot goes by the newest's that it found, the clash by its marks.
use mathlib.Core.Path.{◌∙◌, subst}
use lib.ListN.{length}
use Rattle.session.specs.Scan.{whole, Scanned}
use Rattle.session.specs.Way.{pending_plans}
use Rattle.session.proofs.Laws.Held.{clash_marked}
use Rattle.session.proofs.Laws.Scans.{found_at}
use Rattle.session.proofs.submit.asked.Goals as goal

pub returns-then-lengths-le255 : goal.returns-then-lengths-le255
returns-then-lengths-le255 c = λ fatal requests plans w.
    let a = c.args in
    let insert = c.insert_of-insert in
    let s = whole a.cfg a.head fatal requests plans in
    let walked = subst (Scanned s) c.in_ok-scan.was w in (
      walked.0,
      found_at s a.transfer a.lengths.now a.ring.now _ walked.1.all walked.1.pending walked.1.tail insert.ensures (λ few.
          c.clash.ensures ∙ clash_marked a.cfg c.in_ok-scan.scan.held (pending_plans s) walked.1.held insert.result (length a.lengths.now)),
    )
