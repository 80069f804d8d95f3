-- Combinations that come one after another in the order of their grouping values: the groups are cut where a value
-- changes (own; Selinger et al. 1979, section 4, has grouping ask for an order).
use Rattle.std.specs.Prelude.{◌≡◌, true, false, List, [], ◌∷◌, ◌++◌, flat_map}
use Rattle.definitions.specs.Plans.Order.{BlockColumn, Order, ascending}
use Rattle.definitions.specs.Queries.Evaluation.{Combination}
use Rattle.definitions_execution.specs.BlockLaws.{cell_of}
use Rattle.definitions_execution.specs.Lists.{Rises}
use Rattle.definitions_execution.specs.RowOrder.{NotAfter}
use Rattle.definitions_answers.specs.Groups.{in_one_group, AreGroups}

-- of the combinations so far, the groups that are done, and the first and the others of the one that goes on
pub data IsCut (columns : List BlockColumn) : List Combination → List (List Combination) → Combination
    → List Combination → Type 0 where
  begins : (c : Combination) (cs : List Combination) (closed : List (List Combination)) (others : List Combination)
      → cs ≡ c ∷ [] → closed ≡ [] → others ≡ [] → IsCut columns cs closed c others
  goes_on : (first c : Combination) (cs more : List Combination) (closed : List (List Combination))
      (others longer : List Combination) → IsCut columns cs closed first others
      → in_one_group columns first c ≡ true → more ≡ cs ++ c ∷ [] → longer ≡ others ++ c ∷ []
      → IsCut columns more closed first longer
  changes : (first c : Combination) (cs more : List Combination) (closed further : List (List Combination))
      (others none : List Combination) → IsCut columns cs closed first others
      → in_one_group columns first c ≡ false → more ≡ cs ++ c ∷ [] → further ≡ closed ++ (first ∷ others) ∷ []
      → none ≡ [] → IsCut columns more further c none

abbrev pub grouping_order : List BlockColumn → Order
grouping_order columns = flat_map ascending columns

-- where they come in the order of the grouping columns, they are all the groups
abbrev pub CutsAreGroups : Type 0
CutsAreGroups =
    (columns : List BlockColumn) (cs : List Combination) (closed : List (List Combination)) (first : Combination)
    (others : List Combination)
    → Rises (NotAfter cell_of (grouping_order columns)) cs → IsCut columns cs closed first others
    → AreGroups columns cs (closed ++ (first ∷ others) ∷ [])
