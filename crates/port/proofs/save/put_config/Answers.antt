-- Fields written one behind the other: one law says that together they are the configuration's bytes.
use Rattle.port.proofs.Laws.Head.{config_put}
use Rattle.port.proofs.save.put_config.Goals as goal

pub returns : goal.returns
returns c =
    let a =
    c.args in
    config_put a.bytes.now a.cfg
    c.speed_tag.ensures
    c.direction_tag.ensures
    c.mode_tag.ensures
    c.put.ensures
    c.put_u16.ensures
    c.put_u16-2.ensures c.put-2.ensures
