-- What a block's space says of its conjuncts, indexes and paths is so of what is stored (own).
use Rattle.std.specs.Prelude.{ℕ, ◌<◌, ◌≡◌, ◌⊎◌, ◌↔◌, List, slice_get, Bool, true, Some}
use Rattle.std.specs.declared.cmp.Ordering.TheVariants.{Equal}
use Rattle.definitions.specs.Value.{compare}
use Rattle.definitions.specs.Plans.TableSet.{TableSet, Has, no_tables, with_table}
use Rattle.definitions.specs.Plans.Order.{BlockColumn, SortKey}
use Rattle.definitions.specs.Plans.Conjunct.{Conjunct}
use Rattle.definitions.specs.Plans.Path.{Path, MatchingScan, table_of}
use Rattle.definitions.specs.Plans.Space.{Space, order_at}
use Rattle.definitions.specs.Plans.PlanSpace.{IsPath}
use Rattle.definitions_execution.specs.Lists.{In, Rises, Differ}
use Rattle.definitions_execution.specs.RowOrder.{NotAfter}
use Rattle.definitions_execution.specs.Stored.{Composite, row_number, Stored, value_at, rows_along}

pub record Fits (space : Space) (stored : Stored) : Type 0 where
  -- an early conjunct depends on the rows of the tables that it names, and it names one
  pub alike : (number : ℕ) (conjunct : Conjunct) (a b : Composite) → slice_get space.conjuncts number ≡ Some conjunct
      → conjunct.early ≡ true
      → ((table : ℕ) → Has conjunct.tables table → row_number a table ≡ row_number b table)
      → stored.holds number a ≡ stored.holds number b
  pub named : (number : ℕ) (conjunct : Conjunct) → slice_get space.conjuncts number ≡ Some conjunct
      → conjunct.early ≡ true → (table : ℕ) × Has conjunct.tables table
  -- `x = y` names the tables of x and y, and is true where these compare as equal, so never with a null
  pub sides : (number : ℕ) (conjunct : Conjunct) (x y : BlockColumn) → slice_get space.conjuncts number ≡ Some conjunct
      → conjunct.equated ≡ Some (x, y)
      → (table : ℕ) → Has conjunct.tables table → (table ≡ x.table) ⊎ (table ≡ y.table)
  pub equal : (number : ℕ) (conjunct : Conjunct) (x y : BlockColumn) (composite : Composite)
      → slice_get space.conjuncts number ≡ Some conjunct → conjunct.equated ≡ Some (x, y)
      → (stored.holds number composite ≡ true) ↔ (compare (value_at stored x composite) (value_at stored y composite)
      ≡ Some Equal)
  -- an index lists each row once
  pub index_distinct : (table index : ℕ) → Rises Differ (stored.index_rows table index)
  pub index_within : (table index row : ℕ) → In row (stored.index_rows table index) → row < stored.row_count table
  pub index_all : (table index row : ℕ) → row < stored.row_count table → In row (stored.index_rows table index)
  -- the rows along a path are in the order of its number, and that is by columns of its table
  pub in_order : (path : Path) → table_of path < space.table_count → IsPath space no_tables path
      → Rises (NotAfter stored.value_in (order_at space (space.path_order path))) (rows_along stored path)
  pub by_own : (path : Path) → table_of path < space.table_count → IsPath space no_tables path
      → (key : SortKey) → In key (order_at space (space.path_order path)) → key.column.table ≡ table_of path
  -- the conjuncts of a matching scan are early, and of the tables that are there with its own
  pub matches : (tables : TableSet) (table index : ℕ) (numbers : List ℕ) (backward : Bool)
      → IsPath space tables (MatchingScan table index numbers backward)
      → (number : ℕ) → In number numbers → (conjunct : Conjunct) × (slice_get space.conjuncts number ≡ Some conjunct)
      × (conjunct.early ≡ true)
      × ((other : ℕ) → Has conjunct.tables other → Has (with_table tables table) other)
