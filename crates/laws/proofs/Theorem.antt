-- The invariant holds in every guarded run, and with it demand 3.
use mathlib.Core.Path.{◌≡◌, ◌∙◌, ap}
use mathlib.Core.Bool.{Bool, true, false, cond}
use mathlib.Core.List.{List, [], ◌∷◌}
use Prim.Native.Nat.{ℕ, ◌<◌}
use Rattle.std.specs.Prelude.{Result, Ok}
use lib.Dec.{eqb}
use lib.ListN.{length, get_or}
use Rattle.session.specs.declared.types.IsoChannelState.{IsoChannelState}
use Rattle.session.specs.declared.transfer.IsoTransfer.{IsoTransfer}
use Rattle.session.specs.declared.transfer.IsoSubmission.{IsoSubmission}
use Rattle.session.specs.declared.transfer.IsoSubmission.TheVariants.{Cut}
use Rattle.session.specs.declared.refusal.IsoRefusal.{IsoRefusal}
use Rattle.session.specs.Session.{ring_words}
use Rattle.session.specs.Submit.{submitted, submitted_ring}
use Rattle.session.specs.Poll.{polled, recovered, reset_reply}
use Rattle.session.specs.Cancel.{cancelled}
use Rattle.session.specs.Reclaim.{reclaimed}
use Rattle.laws.specs.Drawing.{Laid, drawn, Distinct}
use Rattle.laws.specs.Run.{State, Touch, Step, Submit, Poll, Reclaim, Cancel, Reset, Recover, Controller, touched_by, used_up, submit_by, step, run, start, GuardedRun, reached}
use Rattle.laws.specs.Demand3.{Demand3}
use Rattle.laws.specs.Invariant.{Invariant}
use Rattle.laws.proofs.Lists.{distinct_tail}
use Rattle.laws.proofs.Fitting.{blank, blank_zero}
use Rattle.laws.proofs.Opening.{opening}
use Rattle.laws.proofs.Controller.{controller}
use Rattle.laws.proofs.Keeping.{cancel, reset}
use Rattle.laws.proofs.Ended.{recovering}
use Rattle.laws.proofs.Polling.{poll}
use Rattle.laws.proofs.Reclaiming.{reclaiming}
use Rattle.laws.proofs.Submitting.{idle_put, submit}
use Rattle.laws.proofs.Stopping as stopping

-- ---- every step

pub step_kept : (st : State) (x : Step) → Invariant st → Distinct (step st x).numbers → Invariant (step st x)
step_kept st (Submit t lengths between) v d = submit st t lengths between v d
step_kept st (Poll e) v d = poll st e v
step_kept st (Reclaim id e results) v d = reclaiming st id e results v
step_kept st (Cancel id) v d = cancel st v id
step_kept st Reset v d = reset st v
step_kept st Recover v d = recovering st v
step_kept st (Controller x) v d = controller st x v

-- ---- numbers used up stay used up

used_before : (b : Bool) (n : ℕ) (numbers : List ℕ) → Distinct (cond b numbers (n ∷ numbers)) → Distinct numbers
used_before true n numbers d = d
used_before false n numbers d = distinct_tail n numbers d

used_by : (st : State) (s : IsoChannelState) → Distinct (used_up st.session s st.numbers) → Distinct st.numbers
used_by st s = used_before (eqb st.session.head.next_request_id s.head.next_request_id) st.session.head.next_request_id st.numbers

submit_before : (a : Result IsoSubmission IsoRefusal) (st : State) (t : IsoTransfer) (lengths : List ℕ) (between : List Touch)
    → Distinct (submit_by a st t lengths between).numbers → Distinct st.numbers
submit_before (Ok Cut) st t lengths between d =
    let ring = touched_by st.session.cfg between (submitted_ring st.session t lengths st.ring) in
    used_by st (recovered st.session (length ring)).session d
submit_before a st t lengths between d = used_by st (submitted st.session t lengths st.ring).session d

step_before : (st : State) (x : Step) → Distinct (step st x).numbers → Distinct st.numbers
step_before st (Submit t lengths between) d = submit_before (submitted st.session t lengths st.ring).answer st t lengths between d
step_before st (Poll e) d = used_by st (polled st.session e st.ring).session d
step_before st (Reclaim id e results) d = used_by st (reclaimed st.session id e st.ring results).session d
step_before st (Cancel id) d = used_by st (cancelled st.session id).session d
step_before st Reset d = used_by st (reset_reply st.session).session d
step_before st Recover d = used_by st (recovered st.session (length st.ring)).session d
step_before st (Controller x) d = d

run_before : (st : State) (xs : List Step) → Distinct (run st xs).numbers → Distinct st.numbers
run_before st [] d = d
run_before st (x ∷ xs) d = step_before st x (run_before (step st x) xs d)

-- ---- every run

pub run_kept : (st : State) (xs : List Step) → Invariant st → Distinct (run st xs).numbers → Invariant (run st xs)
run_kept st [] v d = v
run_kept st (x ∷ xs) v d = run_kept (step st x) xs (step_kept st x v (run_before (step st x) xs d)) d

pub run_invariant : (r : GuardedRun) → Invariant (reached r)
run_invariant r = run_kept (start r.cfg r.lent) r.steps (opening r.cfg r.lent r.guarded r.accepted) r.once

-- without a live channel nothing is put and the ring is zero
pub idle_zero :
    (r : GuardedRun) → (reached r).session.head.live ≡ false
    → ((reached r).put ≡ []) × ((w : ℕ) → w < ring_words (reached r).session.cfg → get_or (reached r).ring w 0 ≡ 0)
idle_zero r off =
    let v = run_invariant r in
    let words = ring_words (reached r).session.cfg in
    let none = idle_put (reached r) v off in
    let ring : (reached r).ring ≡ blank words v.fits.behind = v.fits.drawing ∙ ap (λ (l : List Laid). drawn l (blank words v.fits.behind)) none in
    (none, λ w h. ap (λ (l : List ℕ). get_or l w 0) ring ∙ blank_zero words v.fits.behind w h)

-- Demand 3
pub demand3 : Demand3
demand3 r x k l meanwhile =
    let v = run_invariant r in
    (stopping.stopping (reached r) x v k l, stopping.recovering (reached r) x v k l meanwhile)
