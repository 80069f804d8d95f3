-- The rows of an answer, as far as they have come, and any of the stores where they are.
use Rattle.std.specs.Prelude.{ℕ, ◌≡◌, ◌&&◌, not, Bool, true, false, is_some, List, [], ◌∷◌, ◌++◌, Option, Some, None, Contains}
use Rattle.definitions.specs.Table.{Row}
use Rattle.definitions.specs.Value.{Value}
use Rattle.definitions.specs.Arithmetic as arithmetic
use Rattle.definitions.specs.Queries.BoundBlock.{Item, OrderKey}
use Rattle.definitions.specs.Queries.Evaluation.{Environment}
use Rattle.definitions.specs.Queries.Answer.{distinct_rows}
use Rattle.definitions_answers.specs.Told.{values_asked}
use Rattle.sqlvalue.specs.Raises.{raise_of}
use Rattle.sqlvalue.specs.declared.raise.Raise.{Raise}
use Rattle.result_rows.specs.ResultRows.{AreArranged, HasAnyRow, HasDistinct, HasFirstValues, HasOrdered, HasPrinted}
use Rattle.result_lines.specs.Batches.{rows_in}
use Rattle.result_lines.specs.RowAt.{row_in, row_raises_in}
use Rattle.result_rows.specs.declared.result_rows.ResultRows.{ResultRows}
use Rattle.result_rows.specs.declared.row_store.RowStore.{RowStore}
use Rattle.result_rows.specs.declared.row_store.RowStore.TheVariants as store

abbrev pub Holds : RowStore → List (List ℕ) → List Row → Type 0
Holds (store.Printed p) names rows = HasPrinted names rows p.value
Holds (store.Distinct d) names rows = HasDistinct names rows d.value
Holds (store.Ordered o) names rows = HasOrdered names rows o.value
Holds (store.FirstValues f) names rows = HasFirstValues rows f
Holds (store.Existence a) names rows = HasAnyRow rows a

-- whether rows are printed at their end, or their first values handed out; whether in the order of keys; whether
-- repeats are left out; whether no more is asked than if there are any, so that repeats don't matter
pub record StoreKind : Type 0 where
  pub prints : Bool
  pub in_order : Bool
  pub distinct : Bool
  pub existence : Bool

abbrev pub printing : (in_order distinct : Bool) → StoreKind
printing in_order distinct = record { prints = true; in_order = in_order; distinct = distinct; existence = false }

abbrev pub keeping : (existence distinct : Bool) → StoreKind
keeping existence distinct = record {
  prints = false;
  in_order = false;
  distinct = not existence && distinct;
  existence = existence;
}

abbrev pub kind_of : RowStore → StoreKind
kind_of (store.Printed p) = printing false false
kind_of (store.Distinct d) = printing false true
kind_of (store.Ordered o) = printing true (is_some o.value.seen)
kind_of (store.FirstValues f) = keeping false (is_some f.seen)
kind_of (store.Existence a) = keeping true false

-- values are what is asked of rows, under DISTINCT of each once
abbrev pub AreAsked : StoreKind → List Row → List Value → Type 0
AreAsked kind rows values = values ≡ values_asked kind.existence (distinct_rows kind.distinct rows)

-- rows are told as they came, or in the order of keys; under DISTINCT each once
abbrev pub AreToldAs : (in_order distinct : Bool) → List OrderKey → List Row → List Row → Type 0
AreToldAs true distinct keys rows printed = AreArranged distinct keys rows printed
AreToldAs false distinct keys rows printed = printed ≡ distinct_rows distinct rows

-- ---- rows until one raises

-- they tell of rows, or where result columns may raise, of one of these exceptions
abbrev pub TellsBy : Option Raise → List (List ℕ) → List Row → List arithmetic.Raise → ResultRows → Type 0
TellsBy None names rows raises told = (raises ≡ []) × Holds told.store names rows
TellsBy (Some raise) names rows raises told = Contains raises (raise_of raise)

abbrev pub Tells : List (List ℕ) → List Row → List arithmetic.Raise → ResultRows → Type 0
Tells names rows raises told = TellsBy told.raised names rows raises told

-- they tell of one row more, and of what result columns raise in it
abbrev pub TellsOneMore : Environment → List Item → ResultRows → ResultRows → Type 0
TellsOneMore env items told told' =
    (names : List (List ℕ)) (rows : List Row) (raises : List arithmetic.Raise) → Tells names rows raises told
    → Tells names (rows ++ row_in env items ∷ []) (raises ++ row_raises_in env items) told'

-- they tell of more rows, in which no result column raises
abbrev pub TellsMore : List Environment → List Item → ResultRows → ResultRows → Type 0
TellsMore envs items told told' =
    (names : List (List ℕ)) (rows : List Row) (raises : List arithmetic.Raise) → Tells names rows raises told
    → Tells names (rows ++ rows_in items envs) raises told'

-- what is told of rows where a result column raises
abbrev pub IsRaiseOf : ResultRows → arithmetic.Raise → Type 0
IsRaiseOf told raise = (names : List (List ℕ)) (rows : List Row) (raises : List arithmetic.Raise)
    → Tells names rows raises told → Contains raises raise
