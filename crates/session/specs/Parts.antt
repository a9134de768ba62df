-- What a submission leaves, by the parts that it answers to who holds the tables.
use Rattle.std.specs.Prelude.{◌≡◌, cond, List, ℕ, ◌+◌, ◌≤◌, ◌<◌, eqb, length, get_or, set, take}
use Rattle.std.proofs.lemmas.List.Edits.{sets}
use Rattle.session.specs.declared.types.IsoRequest.{IsoRequest}
use Rattle.session.specs.declared.types.IsoPacketPlan.{IsoPacketPlan}
use Rattle.session.specs.declared.types.IsoChannelState.{IsoChannelState}
use Rattle.session.specs.declared.transfer.IsoTransfer.{IsoTransfer}
use Rattle.session.specs.declared.transfer.Submitted.{Submitted}
use Rattle.session.specs.declared.transfer.SubmitParts.{SubmitParts}
use Rattle.session.specs.Session.{all_packets}
use Rattle.session.specs.Place.{plans_from}
use Rattle.session.specs.Scan.{whole}
use Rattle.session.specs.Submit.{new_request, submitted}

-- the tables with n packets more: the request behind the others, and the packets' plans from entry `to` on
abbrev pub requests_with : IsoChannelState → ℕ → List IsoRequest
requests_with s n = cond (eqb n 0) s.requests (set s.requests s.head.count (new_request s.head.next_request_id n))

abbrev pub plans_with : IsoChannelState → SubmitParts → List ℕ → List IsoPacketPlan
plans_with s r lengths = sets s.plans r.to (plans_from r.slots r.insert r.step 0 (take r.added lengths))

abbrev pub joined : IsoChannelState → SubmitParts → List ℕ → Submitted
joined s r lengths =
    record {
      answer = r.answer;
      start = r.start;
      session = whole s.cfg r.head s.fatal (requests_with s r.added) (plans_with s r lengths);
    }

-- packets that are added fit: all of them, in both tables, behind those in use, each length in 16 bits
pub record Fitting (s : IsoChannelState) (r : SubmitParts) (lengths : List ℕ) : Type 0 where
  pub every : r.added ≡ length lengths
  pub counted : r.head.count ≡ s.head.count + 1
  pub behind : r.to ≡ all_packets s
  pub few : r.added ≤ 255
  pub requests : s.head.count < 64
  pub plans : r.to + r.added ≤ 1024
  pub short : (k : ℕ) → k < length lengths → get_or lengths k 0 ≤ 65535

-- these parts are those of the submission
pub record Parted (s : IsoChannelState) (t : IsoTransfer) (lengths ring : List ℕ) (r : SubmitParts) : Type 0 where
  pub joins : joined s r lengths ≡ submitted s t lengths ring
  pub some_slots : 0 < r.slots
  pub fitting : 0 < r.added → Fitting s r lengths
  pub as_many : r.added ≡ 0 → r.head.count ≡ s.head.count
