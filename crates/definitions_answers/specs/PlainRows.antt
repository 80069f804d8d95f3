-- What is told of a block that is not grouped, in whatever order its combinations come; and where they come in the
-- order that ORDER BY asks for.
use Rattle.std.specs.Prelude.{◌≡◌, true, false, List, [], IsPermutation, IsSorted, Contains, flat_map, map, is_some}
use Rattle.std.specs.List.{AllByRecursion, list_all}
use Rattle.definitions.specs.Value.{Value}
use Rattle.definitions.specs.Table.{Row}
use Rattle.definitions.specs.Arithmetic.{Raise, Meaning}
use Rattle.definitions.specs.Estimates.Orders.{required_of, sort_key}
use Rattle.definitions.specs.Queries.BoundBlock.{Item, OrderKey, Block}
use Rattle.definitions.specs.Queries.Evaluation.{Combination, value}
use Rattle.definitions.specs.Queries.Combinations.{Context, at, raises_of, raises_of_where, kept}
use Rattle.definitions.specs.Queries.Grouping.{results}
use Rattle.definitions.specs.Queries.Answer.{is_grouped, distinct_rows, block_answer}
use Rattle.definitions.specs.Queries.Outcomes.{Allowed, Rows, Exception, row_order}
use Rattle.definitions_execution.specs.BlockLaws.{cell_of}
use Rattle.definitions_execution.specs.Lists.{Rises}
use Rattle.definitions_execution.specs.RowOrder.{NotAfter}
use Rattle.definitions_execution.specs.TypedCombinations.{IsTypedCombination}
use Rattle.definitions_answers.specs.Shapes.{Shape, HasShapes}

module _ (context : Context) (b : Block) where
  abbrev pub values_at : Combination → List (Meaning Value)
  values_at c = map (λ (i : Item). value (at context c) i.value) b.items

  abbrev pub plain_row : Combination → Row
  plain_row c = results (values_at c)

  abbrev pub plain_raises : List Combination → List Raise
  plain_raises cs = flat_map (λ c. flat_map raises_of (values_at c)) cs

  -- where no result column raises, rows have shapes
  abbrev pub HavePlainShapes : List Shape → Type 0
  HavePlainShapes shapes =
      (c : Combination) → IsTypedCombination context.database b c → flat_map raises_of (values_at c) ≡ []
      → HasShapes shapes (plain_row c)

abbrev pub CombinationsTell : Type 0
CombinationsTell = (context : Context) (b : Block) (cs : List Combination) (keys : List OrderKey) (shapes : List Shape)
    → is_grouped b ≡ false → raises_of_where context b ≡ []
    → AllByRecursion (IsTypedCombination context.database b) (kept context b) → HavePlainShapes context b shapes
    → IsPermutation (kept context b) cs
    → ((raise : Raise) → Contains (plain_raises context b cs) raise
    → Allowed (block_answer context b) keys (Exception raise))
    × ((rows : List Row) → plain_raises context b cs ≡ []
    → IsPermutation (distinct_rows b.distinct (map (plain_row context b) cs)) rows → IsSorted (row_order keys) rows
    → Allowed (block_answer context b) keys (Rows rows))

-- rows stand in the order of ORDER BY where their combinations come in the order that the block requires, if all keys
-- are columns
abbrev pub RequiredOrderIsRowOrder : Type 0
RequiredOrderIsRowOrder =
    (context : Context) (b : Block) (cs : List Combination) → is_grouped b ≡ false
    → list_all (λ key. is_some (sort_key b.items key)) b.order ≡ true
    → plain_raises context b cs ≡ [] → Rises (NotAfter cell_of (required_of b)) cs
    → IsSorted (row_order b.order) (distinct_rows b.distinct (map (plain_row context b) cs))
