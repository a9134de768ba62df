-- One turn past a good entry, whose word is its packets, and the end of the walk.
use Rattle.std.proofs.Common.{◌≡◌, ℕ, ◌+◌, ◌-◌, ◌*◌, ◌%◌, ◌^◌, ◌≤◌, drop, get_or, sym, ap, ◌∙◌, arith}
use lib.Seq.{slice}
use Rattle.session.specs.Session.{blank_request, packets_of}
use Rattle.session.proofs.Laws.Sums.{packets_past}
use Rattle.port.specs.Bytes.{u64_of}
use Rattle.port.specs.Places.{requests_of}
use Rattle.port.specs.Scan.{is_bad_request_entry}
use Rattle.port.proofs.Laws.Entries.{ends_here}
use Rattle.port.proofs.Laws.Sounds.{plain_entry}
use Rattle.port.proofs.Laws.Tables.{any_step, any_end}
use Rattle.port.proofs.Laws.Walks.{packets_there, packets_step}
use Rattle.port.proofs.scan.plain_packets.Goals as goal

pub loop-i-preserved : goal.loop-i-preserved
loop-i-preserved c =
    let a = c.args in
    let l = c.loop-i in
    let xs = a.bytes.now in
    let now = c.joined-words.ensures in
    let word = c.u64_at-word in
    let place : 52 + 20 * l.i ≡ 40 + 20 * l.i + 12 = omega arith in
    let less : ℕ = (word.result + (2 ^ 64 - 1)) % 2 ^ 64 in
    λ few.
    let before = l.invariant (omega (arith, few, now.0)) in
    let small : word.result ≤ 255 = omega (arith, few, now.1, word.type_inv) in
    let good =
    plain_entry xs (40 + 20 * l.i) {less = less} (word.ensures ∙ ap (λ (k : ℕ). u64_of (drop k xs)) place) (omega (arith, word.type_inv))
    (omega (arith, few, now.1)) in
    let here : word.result ≡ (get_or (requests_of xs) l.i blank_request).packets =
    word.ensures ∙ sym (ends_here (drop (52 + 20 * l.i) xs) (omega (arith, small, word.ensures))) ∙ packets_there xs l.i (omega arith) in
    let sum : (l.sum + word.result) % 2 ^ 64 ≡ l.sum + word.result = omega (arith, before.1, small, c.requires.1) in (
      any_step is_bad_request_entry 20 a.n l.i 40 xs (omega arith) (sym good) ∙ before.0,
      omega (arith, sum, before.1, small),
      ap (λ (n : ℕ). n + packets_of (slice (l.i + 1) a.n (requests_of xs))) sum
          ∙ packets_step xs a.n l.i l.sum (packets_of (slice 0 a.n (requests_of xs))) (omega arith) c.requires.1 here before.2,
    )

pub returns : goal.returns
returns c =
    let a = c.args in
    let l = c.loop-i in
    let xs = a.bytes.now in
    let last = l.invariant (omega arith) in (
      sym (any_end is_bad_request_entry 20 a.n l.i (drop (40 + 20 * l.i) xs) (omega arith) ∙ last.0),
      omega (arith, packets_past l.i a.n (requests_of xs) (omega arith), last.2),
    )
