-- The one claim on document 01's worked numbers: the definitions give what 01 says, row by row. They compute.
use mathlib.Core.Path.{◌≡◌, refl}
use mathlib.Core.List.{map}
use Rattle.ring.specs.Gcd.{gcd}
use Rattle.plan.specs.DataStages.{stages_from}
use Rattle.worked.specs.Table.{table}

pub worked_numbers : map (λ row. row.says) table ≡ map (λ row. row.gives) table
unfolding gcd stages_from
worked_numbers = refl
