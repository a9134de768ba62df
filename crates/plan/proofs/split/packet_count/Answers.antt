-- `packet_count` has one packet more than there are whole packets before the last byte.
use Rattle.std.proofs.Common.{◌≡◌, ℕ, ◌+◌, ◌-◌, ◌/◌, ◌<◌, max, sym, ◌∙◌, ap₂, arith}
use Rattle.plan.proofs.Laws.Split.{packets_pos}
use Rattle.plan.proofs.split.packet_count.Goals as goal

pub returns-in-Ok : goal.returns-in-Ok
returns-in-Ok c =
    let some : 0 < c.args.len = omega arith in
    let last : c.in-Ok.last ≡ c.args.len - 1 = omega arith in
    let size : c.max-m.result ≡ max 1 c.args.max_packet_size = omega arith in
    ap₂ (λ (l m : ℕ). l / m + 1) last size ∙ sym (packets_pos c.args.len c.args.max_packet_size some)
