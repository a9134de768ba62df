-- The configuration's fields as they are read: one law says that together they are the configuration of the bytes.
use Rattle.port.proofs.Laws.Head.{config_at}
use Rattle.port.proofs.load.config_at.Goals as goal

pub returns : goal.returns
returns c =
    config_at c.args.bytes.now
    c.byte_at.ensures
    c.speed_of.ensures
    c.byte_at-2.ensures
    c.direction_of.ensures
    c.u16_at.ensures c.byte_at-3.ensures
    c.byte_at-4.ensures c.u16_at-2.ensures c.byte_at-5.ensures
    c.byte_at-6.ensures c.mode_of.ensures
