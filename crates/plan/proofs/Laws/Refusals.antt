-- Where a call plans, no test of its list held: the order of the tests is in the definition, and this is all that a plan needs of it.
use Rattle.std.proofs.Common.{◌≡◌, Bool, true, false, cond, List, [], ◌∷◌, refl}
use Rattle.std.specs.Prelude.{Result, Ok, Err, ⊤}
use Rattle.plan.specs.declared.refusals.PlanRefusal.{PlanRefusal}
use Rattle.plan.specs.Refusals.{Check, first_of}

-- no test of the list holds
abbrev pub NoneHolds : List Check → Type 0
NoneHolds [] = Unit {0}
NoneHolds (c ∷ cs) = (c.holds ≡ false) × NoneHolds cs

passed : (b : Bool) (e : PlanRefusal) (rest : Result ⊤ PlanRefusal) → cond b (Err e) rest ≡ Ok tt → (b ≡ false) × (rest ≡ Ok tt)
passed false e rest h = (refl, h)
passed true e rest h = let z : ⊥ = cc in absurd z

pub none_holds : (cs : List Check) → first_of cs ≡ Ok tt → NoneHolds cs
none_holds [] e = tt
none_holds (c ∷ cs) e =
    let p = passed c.holds c.refusal (first_of cs) e in
    (p.0, none_holds cs p.1)
