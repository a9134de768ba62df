-- Document 01, "Refusal numbers": "Planning checks 17, 18, 19, 20, 11". The order of a list of tests is the order of 01.
use Rattle.std.specs.Prelude.{ℕ, Bool, cond, ◌||◌, List, [], ◌∷◌, nat_lt, Result, Ok, Err, ⊤}
use Rattle.plan.specs.declared.refusals.PlanRefusal.{PlanRefusal}

pub record Check : Type 0 where
  pub holds : Bool
  pub refusal : PlanRefusal

infix 68 ◌⇒◌
abbrev pub ◌⇒◌ : Bool → PlanRefusal → Check
holds ⇒ refusal = record { holds = holds; refusal = refusal }

-- the refusal of the first test that holds, or none
abbrev pub first_of : List Check → Result ⊤ PlanRefusal
first_of [] = Ok tt
first_of (c ∷ cs) = cond c.holds (Err c.refusal) (first_of cs)

-- what a call answers by its tests: their refusal, or what it makes
abbrev pub answered : {A : Type 0} → Result ⊤ PlanRefusal → A → Result A PlanRefusal
answered (Ok x) a = Ok a
answered (Err e) a = Err e

-- 17: "planning's array under 2,048 words"
abbrev pub is_short : ℕ → Bool
is_short words = nat_lt words 2048

-- 18: "endpoint over 15, device over 127, packet over 2,047"
abbrev pub is_bad : ℕ → ℕ → ℕ → Bool
is_bad endpoint device packet = nat_lt 15 endpoint || (nat_lt 127 device || nat_lt 2047 packet)
