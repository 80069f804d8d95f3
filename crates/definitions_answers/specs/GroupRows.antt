-- What is told of groups, in whatever order they and their members are taken.
use Rattle.std.specs.Prelude.{◌≡◌, ⊤, true, List, [], ◌∷◌, IsPermutation, IsSorted, Contains, flat_map, get_or, map}
use Rattle.std.specs.Prelude.{if◌then◌else◌}
use Rattle.std.specs.List.{AllByRecursion}
use Rattle.definitions.specs.Value.{Value}
use Rattle.definitions.specs.Table.{Row}
use Rattle.definitions.specs.Arithmetic.{Raise, Meaning, Is, Raises}
use Rattle.definitions.specs.Truth.{is_true}
use Rattle.definitions.specs.Plans.Order.{BlockColumn}
use Rattle.definitions.specs.Queries.BoundBlock.{Aggregate, CountRows, OfValues, OrderKey, Block}
use Rattle.definitions.specs.Queries.Evaluation.{Combination, and_then, on_one, value}
use Rattle.definitions.specs.Queries.Combinations.{Context, at, at_group, raises_of, raises_of_where, kept}
use Rattle.definitions.specs.Queries.Grouping.{function_value, all_results}
use Rattle.definitions.specs.Queries.Answer.{row_at, having_of, is_grouped, distinct_rows, block_answer}
use Rattle.definitions.specs.Queries.Outcomes.{Allowed, Rows, Exception, row_order}
use Rattle.definitions_execution.specs.TypedCombinations.{IsTypedCombination}
use Rattle.definitions_answers.specs.Groups.{in_one_group, AreGroups}
use Rattle.definitions_answers.specs.Shapes.{Shape, HasShape, HasShapes, Sums}

-- ---- the row of a group, where HAVING and the result columns are not looked at once a set function raises

-- where the set functions have values, at the group's first combination
abbrev pub row_of_values : Context → Block → Combination → List Value → Meaning (List Row)
row_of_values context b first values =
    and_then (λ t. if is_true t then on_one (λ row. row ∷ []) (row_at (at_group context (map Is values) first) b.items)
    else Is [])
    (having_of (at_group context (map Is values) first) b.having)

abbrev pub functions_of : Context → Block → List Combination → Meaning (List Value)
functions_of context b group = all_results (map (function_value context group) b.functions)

abbrev pub short_row : Context → Block → List Combination → Meaning (List Row)
short_row context b group = and_then (row_of_values context b (get_or group 0 [])) (functions_of context b group)

-- ---- of groups

abbrev pub rows_in : Meaning (List Row) → List Row
rows_in (Is rows) = rows
rows_in (Raises r rs) = []

abbrev pub group_raises : Context → Block → List (List Combination) → List Raise
group_raises context b groups = flat_map (λ group. raises_of (short_row context b group)) groups

abbrev pub group_rows : Context → Block → List (List Combination) → List Row
group_rows context b groups = flat_map (λ group. rows_in (short_row context b group)) groups

-- ---- what has to be known of a block

abbrev pub MeansShape : Shape → Meaning Value → Type 0
MeansShape shape (Is v) = HasShape shape v
MeansShape shape (Raises r rs) = ⊤

abbrev pub HasArgumentShape : Context → Block → Aggregate → Type 0
HasArgumentShape context b CountRows = ⊤
HasArgumentShape context b (OfValues kind distinct argument) =
    (shape : Shape) × Sums kind shape × ((c : Combination) → IsTypedCombination context.database b c
    → MeansShape shape (value (at context c) argument))

-- arguments of set functions have shapes, HAVING and result columns look at no columns but those of GROUP BY, and under
-- DISTINCT rows have shapes
pub record IsRegular (context : Context) (b : Block) : Type 0 where
  pub functions : AllByRecursion (HasArgumentShape context b) b.functions
  pub grouped : (c d : Combination) (values : List Value) → IsTypedCombination context.database b c
      → IsTypedCombination context.database b d
      → in_one_group b.groups c d ≡ true → row_of_values context b c values ≡ row_of_values context b d values
  pub shapes : List Shape
  pub rows : b.distinct ≡ true → (group : List Combination)
      → AllByRecursion (IsTypedCombination context.database b) group
      → AllByRecursion (HasShapes shapes) (rows_in (short_row context b group))

-- the groups of combinations: without GROUP BY they are one
abbrev pub AreGroupsBy : List BlockColumn → List Combination → List (List Combination) → Type 0
AreGroupsBy [] cs groups = (all : List Combination) × IsPermutation cs all × (groups ≡ all ∷ [])
AreGroupsBy (column ∷ columns) cs groups = AreGroups (column ∷ columns) cs groups

-- what is told of a grouped block on whose WHERE nothing raises: an exception of any group, or where there is none its
-- rows, arranged by ORDER BY
abbrev pub GroupsTell : Type 0
GroupsTell = (context : Context) (b : Block) (groups : List (List Combination)) (keys : List OrderKey)
    → is_grouped b ≡ true → raises_of_where context b ≡ []
    → AllByRecursion (IsTypedCombination context.database b) (kept context b) → IsRegular context b
    → AreGroupsBy b.groups (kept context b) groups
    → ((raise : Raise) → Contains (group_raises context b groups) raise
    → Allowed (block_answer context b) keys (Exception raise))
    × ((rows : List Row) → group_raises context b groups ≡ []
    → IsPermutation (distinct_rows b.distinct (group_rows context b groups)) rows → IsSorted (row_order keys) rows
    → Allowed (block_answer context b) keys (Rows rows))
