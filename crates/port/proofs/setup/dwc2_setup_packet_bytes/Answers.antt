-- Each way out by its law: a number that names nothing, a length that is refused, and the packet.
use Rattle.std.proofs.Common.{arith}
use Rattle.port.proofs.Laws.Setup.{setup_unnamed, setup_long, setup_named}
use Rattle.port.proofs.setup.dwc2_setup_packet_bytes.Goals as goal

pub returns-then-is_bad_setup : goal.returns-then-is_bad_setup
returns-then-is_bad_setup c =
    let s = c in
    setup_unnamed s.args.request_type s.args.recipient s.args.direction s.args.request s.args.value s.args.index s.args.len
    c.is_bad_setup.ensures c.if-is_bad_setup.true c.packet_of.ensures

pub returns-then-len-gt65535 : goal.returns-then-len-gt65535
returns-then-len-gt65535 c =
    let s = c in
    setup_long s.args.request_type s.args.recipient s.args.direction s.args.request s.args.value s.args.index s.args.len
    c.is_bad_setup.ensures c.if-is_bad_setup.false c.if-len-gt65535.true c.packet_of-then-len-gt65535.ensures

pub returns : goal.returns
returns c =
    let s = c in
    setup_named s.args.request_type s.args.recipient s.args.direction s.args.request s.args.value s.args.index s.args.len
    c.is_bad_setup.ensures c.if-is_bad_setup.false
    (omega arith) (omega arith) (omega arith) (omega arith)
    c.type_byte-kind.ensures c.first_word.ensures c.last_word.ensures c.packet_of-2.ensures
