-- The part that was copied over is a run of stores.
use Rattle.std.proofs.Common.{arith}
use Rattle.port.proofs.Laws.Runs.{part_written}
use Rattle.port.proofs.numbers.put.Goals as goal

pub returns : goal.returns
returns g c = part_written c.args.at g.row.N c.args.bytes.now c.copy_from_slice.new.self c.args.part c.copy_from_slice.ensures.after (omega arith) c.requires
