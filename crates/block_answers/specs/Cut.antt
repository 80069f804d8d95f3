-- Combinations one after another, as they are cut into groups.
use Rattle.std.specs.Prelude.{◌≡◌, List, [], ◌∷◌, ◌++◌, Option, Some, None}
use Rattle.definitions.specs.Plans.Order.{BlockColumn}
use Rattle.definitions.specs.Queries.Evaluation.{Combination}
use Rattle.definitions_answers.specs.Runs.{IsCut}

-- the groups that are closed, and the one that is open. Without GROUP BY there is one, from the beginning
pub data IsCutInto (columns : List BlockColumn) : List Combination → List (List Combination) → Option (List Combination)
    → Type 0 where
  whole : (cs : List Combination) (closed : List (List Combination)) (open' : Option (List Combination)) → columns ≡ []
      → closed ≡ [] → open' ≡ Some cs → IsCutInto columns cs closed open'
  none : (cs : List Combination) (closed : List (List Combination)) (open' : Option (List Combination))
      (column : BlockColumn) (others : List BlockColumn)
      → columns ≡ column ∷ others → cs ≡ [] → closed ≡ [] → open' ≡ None → IsCutInto columns cs closed open'
  some : (cs : List Combination) (closed : List (List Combination)) (open' : Option (List Combination))
      (column : BlockColumn) (others : List BlockColumn) (first : Combination) (rest : List Combination)
      → columns ≡ column ∷ others → IsCut columns cs closed first rest → open' ≡ Some (first ∷ rest)
      → IsCutInto columns cs closed open'

abbrev pub open_groups : Option (List Combination) → List (List Combination)
open_groups None = []
open_groups (Some members) = members ∷ []

-- all groups, once no combination comes any more
abbrev pub AreAllGroups : List BlockColumn → List Combination → List (List Combination) → Type 0
AreAllGroups columns cs groups =
    (closed : List (List Combination)) × (open' : Option (List Combination)) × IsCutInto columns cs closed open'
    × (groups ≡ closed ++ open_groups open')
