-- What every state of a guarded run keeps to. That what is put lies below R, that there is one for each pending packet, and that without a live channel
-- nothing is put and the ring is zero, follows from it.
use Rattle.std.specs.Prelude.{◌≡◌, List, ◌++◌, map, ℕ, ◌<◌, replicate}
use Rattle.session.specs.declared.types.IsoMode.TheVariants.{Guarded}
use Rattle.session.specs.declared.types.IsoChannelState.{IsoChannelState}
use Rattle.session.specs.Session.{ring_words}
use Rattle.session.specs.Way.{pending_plans}
use Rattle.session.proofs.Laws.Record.{Sound}
use Rattle.session.specs.Reclaim.{request_of}
use Rattle.laws.specs.Drawing.{Laid, drawn, slot_of, Among, Distinct}
use Rattle.laws.specs.Run.{State}
use Rattle.laws.specs.Demand3.{slot_of_plan}

-- the ring is zero but for what is put; behind it stand words that no call reads
pub record Fits (s : IsoChannelState) (ring : List ℕ) (put : List Laid) : Type 0 where
  pub sound : Sound s
  pub behind : List ℕ
  pub drawing : ring ≡ drawn put (replicate (ring_words s.cfg) 0 ++ behind)
  pub in_order : map slot_of put ≡ map slot_of_plan (pending_plans s)
  pub apart : Distinct (map slot_of put)

-- the requests of the session have numbers that were used up, no two the same
pub record Numbered (s : IsoChannelState) (numbers : List ℕ) : Type 0 where
  pub used : (i : ℕ) → i < s.head.count → Among (request_of i s).id numbers
  pub differ : (i j : ℕ) → i < j → j < s.head.count → (request_of i s).id ≡ (request_of j s).id → ⊥

pub record Invariant (st : State) : Type 0 where
  pub guarded : st.session.cfg.mode ≡ Guarded
  pub fits : Fits st.session st.ring st.put
  pub numbered : Numbered st.session st.numbers
