-- The way settles, and of the requests the first alone.
use Rattle.std.proofs.Common.{Ok, ◌≡◌, ℕ, ◌+◌, ◌<◌, Bool, true, false, ◌&&◌, eqb, ltb, sym, ap, ◌∙◌, arith, ltb-true, eqb-true}
use Rattle.session.specs.declared.reply.PollWay.{PollWay}
use Rattle.session.specs.declared.reply.PollWay.TheVariants.{Settle}
use Rattle.session.specs.Settle.{Drained}
use Rattle.session.specs.Poll.{reply, poll_way, polled_by, polled_ring_by}
use Rattle.port.specs.Layout.{session_of}
use Rattle.port.proofs.Laws.Kept.{both}
use Rattle.port.proofs.Laws.Walks.{done_there, count_there}
use Rattle.port.proofs.first.is_first_only.Goals as goal

pub is_alone-requires : goal.is_alone-requires
is_alone-requires c =
    let Told : Bool → Type 0 = (λ way. let head = (session_of c.args.bytes.now).head in (head.done ≡ 0) × (1 < head.count) × (way ≡ true) × (c.args.at ≡ 0)) in
    let told : Told c.is_settling_way.result = let xs = c.args.bytes.now in
    let counts = eqb c.u16_at.result 0 && ltb 1 c.u16_at-2.result in
    let several = eqb c.args.at 0 && counts in
    let all = both several c.is_settling_way.result c.if-not-several-is_settling_way.false in
    let here = both (eqb c.args.at 0) counts all.0 in
    let two = both (eqb c.u16_at.result 0) (ltb 1 c.u16_at-2.result) here.1 in (
      sym (c.u16_at.ensures ∙ done_there xs) ∙ eqb-true c.u16_at.result 0 two.0,
      omega (arith, c.u16_at-2.ensures ∙ count_there xs, ltb-true 1 c.u16_at-2.result two.1),
      all.1,
      eqb-true c.args.at 0 here.0,
    ) in
    let first = told in (
      c.requires.0,
      first.0,
      first.1,
      c.packets_at-n.ensures.0,
      ap (λ (n : ℕ). c.packets_at-n.result + n) c.packets_at.ensures.0,
    )

pub returns : goal.returns
returns c =
    let Told : Bool → Type 0 = (λ way. let head = (session_of c.args.bytes.now).head in (head.done ≡ 0) × (1 < head.count) × (way ≡ true) × (c.args.at ≡ 0)) in
    let told : Told c.is_settling_way.result = let xs = c.args.bytes.now in
    let counts = eqb c.u16_at.result 0 && ltb 1 c.u16_at-2.result in
    let several = eqb c.args.at 0 && counts in
    let all = both several c.is_settling_way.result c.if-not-several-is_settling_way.false in
    let here = both (eqb c.args.at 0) counts all.0 in
    let two = both (eqb c.u16_at.result 0) (ltb 1 c.u16_at-2.result) here.1 in (
      sym (c.u16_at.ensures ∙ done_there xs) ∙ eqb-true c.u16_at.result 0 two.0,
      omega (arith, c.u16_at-2.ensures ∙ count_there xs, ltb-true 1 c.u16_at-2.result two.1),
      all.1,
      eqb-true c.args.at 0 here.0,
    ) in
    let start = c in
    let s = session_of start.args.bytes.now in
    let ring = start.args.ring.now in
    let first = told in
    let way : Settle c.hcint_xfercompl.result ≡ poll_way s start.args.event =
    ap Settle c.hcint_xfercompl.ensures ∙ c.is_settling_way.ensures first.2 ∙ ap (poll_way s) (sym c.in-Some.is) in
    λ e. (
      first.3,
      record {
        none_done = first.0;
        others = first.1;
        covered = omega (arith, c.packets_at-n.ensures.0, c.if-n-all.false, start.requires.1);
        polled =
            ap (λ (w : PollWay). polled_by w s ring) (sym way)
            ∙ ap (λ (d : Drained). reply (Ok tt) true false d.session) (c.is_alone.ensures e);
        cleared = ap (λ (w : PollWay). polled_ring_by w s ring) (sym way) ∙ ap (λ (d : Drained). d.ring) (c.is_alone.ensures e);
      },
    )
