-- Without a reason the six bytes are 0, which is none.
use Rattle.std.proofs.Common.{ℕ, ◌<◌, List, drop, refl, ap, ◌∙◌, subst, drop-drop}
use Rattle.std.proofs.lemmas.Bool.{lt-leb}
use Rattle.port.specs.Tags.{tagged_of, is_bad_tagged}
use Rattle.port.proofs.Laws.Entries.{no_tag}
use Rattle.port.proofs.load.is_bad_reason.Goals as goal

pub returns-else-u64_at-ge65536 : goal.returns-else-u64_at-ge65536
returns-else-u64_at-ge65536 c =
    let xs = c.args.bytes.now in
    lt-leb 65536 c.u64_at.result c.if-u64_at-ge65536.false
    ∙ no_tag (drop 32 xs) (subst (λ (n : ℕ). n < 65_536) c.u64_at.ensures c.if-u64_at-ge65536.false) 2 2 refl
    ∙ ap (λ (l : List ℕ). is_bad_tagged 2 2 (tagged_of l)) (drop-drop 2 32 xs)
