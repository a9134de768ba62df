-- A word from 1 to 255 is a good count of packets without an outcome; any other entry is asked by both checks.
use Rattle.port.proofs.Laws.Sounds.{good_entry}
use Rattle.port.proofs.scan.is_bad_entry.Goals as goal

pub returns : goal.returns
returns c = good_entry c.args.bytes.now c.args.at c.u64_at-word.ensures c.if-word.false
