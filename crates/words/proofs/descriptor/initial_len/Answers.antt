-- IN is rounded up to whole packets: the library's quotient is the definition's.
use Rattle.std.proofs.Common.{◌≡◌, max, arith}
use Rattle.words.proofs.Laws.Packets.{packets_rounded}
use Rattle.words.proofs.descriptor.initial_len.Goals as goal

pub returns-then-is_in : goal.returns-then-is_in
returns-then-is_in c =
    let size : c.max-size.result ≡ max 1 c.args.mps = omega arith in
    rw (c.if-is_in.true) (cc (packets_rounded c.args.len c.args.mps, size))
