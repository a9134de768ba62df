-- The bytes of a number of four bytes are those of its halves, as the code has them.
use Rattle.std.proofs.Common.{refl}
use Rattle.port.specs.Bytes.{u16_bytes, u32_bytes}
use Rattle.port.proofs.setup.packet_of.Goals as goal

pub returns : goal.returns
unfolding u16_bytes u32_bytes
returns c = refl
