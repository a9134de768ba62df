-- The invariant holds where an opening was accepted.
use mathlib.Core.Path.{◌≡◌, refl, ap}
use mathlib.Core.List.{List}
use Prim.Native.Nat.{ℕ}
use Rattle.std.specs.Prelude.{Result, Ok, ⊤}
use native.Mathlib.Omega.{arith}
use lib.ListN.{length, drop}
use Rattle.session.specs.declared.types.IsoMode.TheVariants.{Guarded}
use Rattle.session.specs.declared.types.IsoConfig.{IsoConfig}
use Rattle.session.specs.declared.refusal.IsoRefusal.{IsoRefusal}
use Rattle.session.specs.Session.{ring_words}
use Rattle.session.specs.Open.{opened, ring_after}
use Rattle.laws.proofs.Calls.WellFormed as well
use Rattle.laws.specs.Run.{start}
use Rattle.laws.specs.Invariant.{Invariant}
use Rattle.laws.proofs.Lists.{distinct_none}

pub opening : (cfg : IsoConfig) (lent : List ℕ) → cfg.mode ≡ Guarded → (opened cfg (length lent)).answer ≡ Ok tt → Invariant (start cfg lent)
opening cfg lent g e =
    record {
      guarded = g;
      fits =
          record {
            sound = well.facts (opened cfg (length lent)).session (well.opening cfg lent e);
            behind = drop (ring_words cfg) lent;
            drawing = ap (λ (a : Result ⊤ IsoRefusal). ring_after a cfg lent) e;
            in_order = refl;
            apart = distinct_none;
          };
      numbered = record { used = λ i h. absurd (omega arith); differ = λ i j h k. absurd (omega arith) };
    }
