-- The example's run meets the hypotheses of demand 3, which so are not empty: it comes to the states that are written out, and its third request is
-- stopped after three words. It also shows that two stronger readings are false.
use mathlib.Core.Path.{◌≡◌, refl, ◌∙◌, ap, subst⁻¹}
use mathlib.Core.Bool.{true}
use mathlib.Core.List.{List, [], ◌∷◌, map}
use Prim.Native.Nat.{◌≤◌}
use Rattle.std.specs.Prelude.{Ok}
use native.Mathlib.Omega.{arith}
use lib.ListN.{length, get_or, take, drop}
use Rattle.ring.specs.Gcd.{gcd}
use Rattle.words.specs.Words.{is_set, active}
use Rattle.session.specs.declared.transfer.IsoSubmission.TheVariants.{Accepted}
use Rattle.session.specs.Submit.{submitted, submitted_ring}
use Rattle.session.specs.Poll.{recovered, recovered_ring}
use Rattle.laws.specs.Drawing.{slot_of, Distinct}
use Rattle.laws.specs.Run.{State, Touch, step, start, run, GuardedRun, reached}
use Rattle.laws.specs.Demand3.{up_to, Submission, stopped, found, Stopped, Recovered}
use Rattle.laws.specs.Example.{camera, lent, submit_first, submit_second, serve_last, steps, third, one, two, three}
use Rattle.laws.proofs.Lists.{absent_none, absent_cons, distinct_none, distinct_cons}
use Rattle.laws.proofs.Theorem.{demand3}

first_step : step (start camera lent) submit_first ≡ one
unfolding gcd
first_step = refl

second_step : step one submit_second ≡ two
unfolding gcd
second_step = refl

third_step : step two serve_last ≡ three
third_step = refl

comes_to : run (start camera lent) steps ≡ three
comes_to =
    ap (λ (st : State). step (step st submit_second) serve_last) first_step ∙ ap (λ (st : State). step st serve_last) second_step ∙ third_step

-- numbers 1 and 2 were used up, each once
numbers_differ : Distinct (2 ∷ 1 ∷ [])
numbers_differ = distinct_cons 2 (1 ∷ []) (absent_cons 2 1 [] (λ e. omega arith) (absent_none 2)) (distinct_cons 1 [] (absent_none 1) distinct_none)

pub example : GuardedRun
example =
    record {
      cfg = camera;
      lent = lent;
      steps = steps;
      guarded = refl;
      accepted = refl;
      once = subst⁻¹ (λ (st : State). Distinct st.numbers) comes_to numbers_differ;
    }

-- the third request is accepted as request 3 where it may store all of its words
third_accepted : (submitted three.session (up_to 4 third) (192 ∷ 192 ∷ []) three.ring).answer ≡ Ok (Accepted 3)
unfolding gcd
third_accepted = refl

pub stopped_third : Submission (reached example)
unfolding example
stopped_third =
    record {
      transfer = third;
      lengths = 192 ∷ 192 ∷ [];
      id = 3;
      accepted = ap (λ (st : State). (submitted st.session (up_to 4 third) (192 ∷ 192 ∷ []) st.ring).answer) comes_to ∙ third_accepted;
    }

-- so all of demand 3 holds of it, the controller storing a word into slot 8 before the recovery
abbrev meanwhile : List Touch
meanwhile = record { slot = 8; word = 5 } ∷ []

three_of_four : 3 ≤ 4
three_of_four = omega arith

pub example_stopped : Stopped (reached example) stopped_third 3 (stopped (reached example) stopped_third 3)
unfolding stopped_third
example_stopped = (demand3 example stopped_third 3 three_of_four meanwhile).0

pub example_recovered :
    Recovered (reached example) stopped_third (recovered (reached example).session (length (found (reached example) stopped_third 3 meanwhile)))
    (recovered_ring (reached example).session (found (reached example) stopped_third 3 meanwhile))
unfolding stopped_third
example_recovered = (demand3 example stopped_third 3 three_of_four meanwhile).1

-- ---- in figures

-- stopped after three words: packet 0 is whole, of packet 1 the address stands; slots 10 and 11 are as they were
pub example_words :
    take 8 (drop 16 (submitted_ring three.session (up_to 3 third) (192 ∷ 192 ∷ []) three.ring))
    ≡ 0x800000C0 ∷ 0 ∷ 0 ∷ 192 ∷ 0x800000C0 ∷ 4096 ∷ 0x820000C0 ∷ 4288 ∷ []
unfolding gcd
example_words = refl

-- Not claimed, since false: a pending slot lies at the new cursor,
pub pending_at_cursor :
    get_or (map slot_of three.put) 0 0 ≡ (submitted three.session (up_to 4 third) (192 ∷ 192 ∷ []) three.ring).session.head.td_last
unfolding gcd
pending_at_cursor = refl

-- and an active slot's address word is zero.
pub active_at_zero :
    (is_set active (get_or (submitted_ring three.session (up_to 3 third) (192 ∷ 192 ∷ []) three.ring) 16 0) ≡ true)
    × (get_or (submitted_ring three.session (up_to 3 third) (192 ∷ 192 ∷ []) three.ring) 17 0 ≡ 0)
unfolding gcd
active_at_zero = (refl, refl)
