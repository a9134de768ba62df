-- Parts written one behind the other: one law says that together they are an idle session's bytes.
use Rattle.port.proofs.Laws.Saved.{idle_put}
use Rattle.port.proofs.save.put_idle.Goals as goal

pub returns : goal.returns
returns c =
    let a = c.args in
    idle_put a.bytes.now a.cfg
    c.put_mark.ensures
    c.put_config.ensures
    c.put_head.ensures
    c.put_zeros.ensures
