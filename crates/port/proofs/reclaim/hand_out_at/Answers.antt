-- The request's plans lie among those in use, and what is handed out is what was read of them before the tables close up.
use Rattle.std.proofs.Common.{◌≡◌, ℕ, ◌+◌, ◌*◌, ◌<◌, ◌≤◌, false, length, get_or, drop, sym, refl, ap, ◌∙◌, arith, drop-drop}
use Rattle.session.specs.Session.{blank_request}
use Rattle.session.specs.Reclaim.{plans_end, handed_answer}
use Rattle.session.proofs.Laws.Handed.{plans_in_lem}
use Rattle.port.specs.Layout.{is_bad_plan_bytes, session_of}
use Rattle.port.specs.Places.{requests_of}
use Rattle.port.proofs.Laws.Calls.{long_enough}
use Rattle.port.proofs.Laws.Placed.{request_there}
use Rattle.port.proofs.Laws.Closing.{handed_in_place}
use Rattle.port.proofs.Laws.Walks as InWalk
use Rattle.port.proofs.Canonical.{plan_clear}
use Rattle.port.proofs.Laws.Walks.{sound_there}
use Rattle.port.proofs.reclaim.hand_out_at.Goals as goal

pub overflow_add-to : goal.overflow_add-to
overflow_add-to c =
    let good = sound_there c.args.bytes.now c.requires.0.1 in
    let in_use : c.args.at < (session_of c.args.bytes.now).head.count = omega (arith, c.requires.1, good.done_in) in
    let to_is : c.packets_before-from.result + c.packets_at.result
    ≡ plans_end c.args.at
    (session_of c.args.bytes.now) = omega (arith, c.packets_before-from.ensures, c.packets_at.ensures.0) in
    let to_in : c.packets_before-from.result + c.packets_at.result ≤ 1024 = let start = c in
    let g = good in
    omega (
      arith,
      to_is,
      plans_in_lem (session_of start.args.bytes.now) g
          start.args.at
          in_use,
      g.all_few,
    ) in
    omega (arith, to_in)

pub hand_results_at-requires : goal.hand_results_at-requires
hand_results_at-requires c =
    let long : 8488 ≤ length c.args.bytes.now = long_enough c.args.bytes.now refl c.requires.0.0 in
    let good = sound_there c.args.bytes.now c.requires.0.1 in
    let in_use : c.args.at < (session_of c.args.bytes.now).head.count = omega (arith, c.requires.1, good.done_in) in
    let to_is : c.packets_before-from.result + c.packets_at.result
    ≡ plans_end c.args.at
    (session_of c.args.bytes.now) = omega (arith, c.packets_before-from.ensures, c.packets_at.ensures.0) in
    let to_in : c.packets_before-from.result + c.packets_at.result ≤ 1024 = let start = c in
    let g = good in
    omega (
      arith,
      to_is,
      plans_in_lem (session_of start.args.bytes.now) g
          start.args.at
          in_use,
      g.all_few,
    ) in
    let clear : (k : ℕ) → k < c.packets_before-from.result + c.packets_at.result
    → is_bad_plan_bytes (drop (1320 + 7 * k) c.args.bytes.now) ≡ false = (λ k h. let start = c in
    let xs = start.args.bytes.now in
    let g = good in
    let few = plans_in_lem (session_of xs) g start.args.at in_use in
    let used = InWalk.plans_in_lem (session_of xs) g.count_in g.all_few in
    ap is_bad_plan_bytes (sym (drop-drop (7 * k) 1320 xs)) ∙ plan_clear xs start.requires.0.0 k (omega (arith, h, to_is, few, used))) in
    let start = c in
    let few =
    (good.request
    start.args.at
    in_use).few in (
      long,
      omega arith,
      to_in,
      omega (
        arith,
        few,
        c.packets_at.ensures.0,
        start.requires.2,
      ),
      clear,
    )

pub returns : goal.returns
returns c =
    let good = sound_there c.args.bytes.now c.requires.0.1 in
    let in_use : c.args.at < (session_of c.args.bytes.now).head.count = omega (arith, c.requires.1, good.done_in) in
    let in_table : c.args.at < 64 = omega (arith, in_use, good.count_in) in
    let request_is : c.request_at-request.result ≡ get_or (requests_of c.args.bytes.now)
    c.args.at blank_request = let start = c in
    c.request_at-request.ensures
    ∙ request_there start.args.bytes.now start.args.at blank_request
    in_table in
    let to_is : c.packets_before-from.result + c.packets_at.result
    ≡ plans_end c.args.at
    (session_of c.args.bytes.now) = omega (arith, c.packets_before-from.ensures, c.packets_at.ensures.0) in
    let a =
    c.args in
    let read = request_is in (
      c.handed_answer.ensures ∙ ap handed_answer read,
      c.remove_at.ensures,
      handed_in_place (session_of a.bytes.now) a.at
          c.packets_before-from.result
          (c.packets_before-from.result
          + c.packets_at.result) a.results.now
          c.packets_before-from.ensures
          to_is read
          refl
          c.hand_results_at.ensures,
    )
