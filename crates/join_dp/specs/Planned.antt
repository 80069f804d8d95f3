-- Plans of states, by their places.
use Rattle.std.specs.Prelude.{ℕ, ◌<◌, ⊤, List, length}
use Rattle.definitions.specs.Plans.TableSet.{TableSet}
use Rattle.definitions.specs.Plans.Order.{OrderNumber}
use Rattle.definitions.specs.Plans.Plan.{Plan}
use Rattle.definitions.specs.Plans.Space.{Space}
use Rattle.join_dp.specs.StatePlans.{StatePlan, at}
use Rattle.join_dp.specs.Steps.{Step, AccessOf, JoinOn, SortOn}
use Rattle.join_dp.specs.Words.{IsPlanOf, IsStepOf}

-- each join and each sort goes on from a state before it
abbrev pub IsFromBefore : ℕ → Step → Type 0
IsFromBefore place (AccessOf path) = ⊤
IsFromBefore place (JoinOn from join) = from < place
IsFromBefore place (SortOn from into) = from < place

abbrev pub AreFromBefore : List StatePlan → Type 0
AreFromBefore states = (place : ℕ) → place < length states → IsFromBefore place (at states place).found.step

-- a plan of a state at that cost, which a sort may follow if none ends it
abbrev pub IsPlanBy : Space → Step → TableSet → OrderNumber → ℕ → Plan → Type 0
IsPlanBy space (AccessOf path) tables order cost plan = IsStepOf space tables order cost plan
IsPlanBy space (JoinOn from join) tables order cost plan = IsStepOf space tables order cost plan
IsPlanBy space (SortOn from into) tables order cost plan = IsPlanOf space tables order cost plan

-- a plan of the state at a place, at its cost
abbrev pub IsPlanAt : Space → List StatePlan → ℕ → Plan → Type 0
IsPlanAt space states place plan = IsPlanBy space (at states place).found.step (at states place).tables
    (at states place).order (at states place).found.cost plan
