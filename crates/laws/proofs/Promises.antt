-- Demand 3 of the code: of what `submit` and `recover` leave, by their own promises. A promise that said less would not give it.
use mathlib.Core.Path.{◌≡◌, ◌∙◌, ap, subst⁻¹}
use mathlib.Core.List.{List, []}
use Prim.Native.Nat.{ℕ, ◌*◌, ◌≤◌}
use contract.Lifetimes.{Lfts}
use denote.Triple.Clauses.{Lasts, at_exit}
use borrow.Fn.Kinds.{Dens, res_t, ended_of}
use lib.ListN.{length}
use Rattle.session.specs.declared.types.IsoChannelState.{IsoChannelState}
use Rattle.session.specs.declared.transfer.IsoTransfer.{IsoTransfer}
use Rattle.session.specs.declared.reply.IsoReply.{IsoReply}
use Rattle.session.specs.Submit.{submitted_ring}
use Rattle.session.specs.Poll.{recovered, recovered_ring}
use Rattle.session.proofs.types.IsoChannelState as functions
use Rattle.laws.specs.Run.{Touch, touched_by, GuardedRun, reached}
use Rattle.laws.specs.Demand3.{up_to, Submission, found, Stopped, Recovered}
use Rattle.laws.proofs.Theorem.{demand3}

-- a call of `submit` on this session and ring, with this transfer and these lengths, that keeps the promise of `submit`
pub record SubmitCall (s : IsoChannelState) (t : IsoTransfer) (lengths ring : List ℕ) : Type 1 where
  pub κs : Lfts 2
  pub args : Dens κs functions.submit.Kinds.ps
  pub result : (res_t functions.submit.Kinds.r κs).Denot
  pub last : Lasts (ended_of 2 functions.submit.Kinds.ps functions.submit.Kinds.r) κs args
  pub promise : functions.submit.Reads.Post κs args result (at_exit (ended_of 2 functions.submit.Kinds.ps functions.submit.Kinds.r) κs args last)
  pub self_is : args.0 ≡ s
  pub transfer_is : args.1.0 ≡ t
  pub lengths_are : args.1.1.0.now ≡ lengths
  pub ring_is : args.1.1.1.0.now ≡ ring

-- the ring that it leaves
abbrev pub ring_left : {s : IsoChannelState} {t : IsoTransfer} {lengths ring : List ℕ} → SubmitCall s t lengths ring → List ℕ
ring_left c = (at_exit (ended_of 2 functions.submit.Kinds.ps functions.submit.Kinds.r) c.κs c.args c.last).1.1.1.0.now

-- is the definition's
pub submit_ring_lem :
    (s : IsoChannelState) (t : IsoTransfer) (lengths ring : List ℕ) (c : SubmitCall s t lengths ring) → ring_left c ≡ submitted_ring s t lengths ring
submit_ring_lem s t lengths ring c =
    c.promise.1
    ∙ ap (λ (x : IsoChannelState). submitted_ring x c.args.1.0 c.args.1.1.0.now c.args.1.1.1.0.now) c.self_is
    ∙ ap (λ (x : IsoTransfer). submitted_ring s x c.args.1.1.0.now c.args.1.1.1.0.now) c.transfer_is
    ∙ ap (λ (x : List ℕ). submitted_ring s t x c.args.1.1.1.0.now) c.lengths_are
    ∙ ap (submitted_ring s t lengths) c.ring_is

-- a call of `recover` on this session and ring
pub record RecoverCall (s : IsoChannelState) (ring : List ℕ) : Type 1 where
  pub κs : Lfts 1
  pub args : Dens κs functions.recover.Kinds.ps
  pub result : (res_t functions.recover.Kinds.r κs).Denot
  pub last : Lasts (ended_of 1 functions.recover.Kinds.ps functions.recover.Kinds.r) κs args
  pub promise : functions.recover.Reads.Post κs args result (at_exit (ended_of 1 functions.recover.Kinds.ps functions.recover.Kinds.r) κs args last)
  pub self_is : args.0 ≡ s
  pub ring_is : args.1.0.now ≡ ring

abbrev pub ring_recovered : {s : IsoChannelState} {ring : List ℕ} → RecoverCall s ring → List ℕ
ring_recovered c = (at_exit (ended_of 1 functions.recover.Kinds.ps functions.recover.Kinds.r) c.κs c.args c.last).1.0.now

pub recover_reply : (s : IsoChannelState) (ring : List ℕ) (c : RecoverCall s ring) → c.result ≡ recovered s (length ring)
recover_reply s ring c =
    c.promise.0
    ∙ ap (λ (x : IsoChannelState). recovered x (length c.args.1.0.now)) c.self_is
    ∙ ap (λ (x : List ℕ). recovered s (length x)) c.ring_is

pub recover_ring : (s : IsoChannelState) (ring : List ℕ) (c : RecoverCall s ring) → ring_recovered c ≡ recovered_ring s ring
recover_ring s ring c =
    c.promise.1 ∙ ap (λ (x : IsoChannelState). recovered_ring x c.args.1.0.now) c.self_is ∙ ap (recovered_ring s) c.ring_is

-- ---- demand 3 of the code

module _ (r : GuardedRun) (x : Submission (reached r)) (k : ℕ) (few : k ≤ 2 * length x.lengths)
    (call : SubmitCall (reached r).session (up_to k x.transfer) x.lengths (reached r).ring) where
  -- what `submit` leaves where it may store k words
  pub code_stopped : Stopped (reached r) x k (ring_left call)
  code_stopped =
      subst⁻¹ (Stopped (reached r) x k) (submit_ring_lem (reached r).session (up_to k x.transfer) x.lengths (reached r).ring call)
      (demand3 r x k few []).0

  -- and what `recover` makes of it, called with the session from before, on that ring as the controller left it
  module _ (meanwhile : List Touch) (next : RecoverCall (reached r).session (touched_by (reached r).session.cfg meanwhile (ring_left call))) where
    same : touched_by (reached r).session.cfg meanwhile (ring_left call) ≡ found (reached r) x k meanwhile
    same = ap (touched_by (reached r).session.cfg meanwhile) (submit_ring_lem (reached r).session (up_to k x.transfer) x.lengths (reached r).ring call)

    pub code_recovered : Recovered (reached r) x next.result (ring_recovered next)
    code_recovered =
        let s = (reached r).session in
        let left = touched_by s.cfg meanwhile (ring_left call) in
        let answers : next.result ≡ recovered s (length (found (reached r) x k meanwhile)) =
        recover_reply s left next ∙ ap (λ (l : List ℕ). recovered s (length l)) same in
        let words : ring_recovered next ≡ recovered_ring s (found (reached r) x k meanwhile) = recover_ring s left next ∙ ap (recovered_ring s) same in
        subst⁻¹ (λ (a : IsoReply). Recovered (reached r) x a (ring_recovered next)) answers
        (subst⁻¹ (Recovered (reached r) x (recovered s (length (found (reached r) x k meanwhile)))) words (demand3 r x k few meanwhile).1)
