-- The spaces of blocks are complete.
use Rattle.std.specs.List.{AllByRecursion}
use Rattle.std.proofs.lemmas.List.Elements.{All-from_recursion}
use Rattle.std.proofs.lemmas.Nat.Bits.{bit_at-pow_same}
use Rattle.std.proofs.Common.{subst, sym, ◌∙◌, ap, ◌≡◌, ◌≢◌, ℕ, ◌<◌, ◌≤◌, ◌⊎◌, inl, inr, refl, List, [], ◌∷◌, ◌++◌, Bool, true, false, Option, Some, None, cond, arith, lit≤, length}
use Rattle.std.specs.Prelude.{All, get_or, map, ◌&&◌}
use Rattle.definitions.specs.Table.{Index, Database}
use Rattle.definitions.specs.Plans.TableSet.{TableSet, no_tables, only, Has}
use Rattle.definitions.specs.Plans.Order.{SortKey, Order, OrderNumber}
use Rattle.definitions.specs.Plans.Path.{Path, SegmentScan, IndexScan, MatchingScan, table_of}
use Rattle.definitions.specs.Plans.Space.{whole, order_at, IsOver}
use Rattle.definitions.specs.Plans.PlanSpace.{IsPath, CanSort}
use Rattle.definitions.specs.Plans.Cost.{limit}
use Rattle.definitions.specs.Plans.Numbering.{HasNumber, merge_orders, number_of}
use Rattle.definitions.specs.Plans.Search.{IsComplete}
use Rattle.definitions.specs.Queries.BoundBlock.{Block}
use Rattle.definitions.specs.Estimates.BlockTables.{index_columns}
use Rattle.definitions.specs.Estimates.PlanConjuncts.{plan_conjuncts}
use Rattle.definitions.specs.Estimates.Cardinality.{path_rows}
use Rattle.definitions.specs.Estimates.Version.{Version}
use Rattle.definitions.specs.Estimates.Orders.{required_of, orders_of, index_orders, order_of_path}
use Rattle.definitions.specs.Estimates.PathCost.{weighted, one_row, pages_fetched, matched, equals_each, whole_index_cost, match_cost, path_cost}
use Rattle.definitions.specs.Estimates.BlockSpace.{space_of}
use Rattle.definitions.specs.Estimates.Laws.{HasPlans}
use Rattle.definitions.proofs.PlanTheory.TableSets.{whole_has}
use Rattle.definitions.proofs.PlanTheory.Numbers.{has_its_number}
use Rattle.definitions.proofs.EstimateTheory.PathOrders.{path_order_numbered}

weighted_small : (pages rows : ℕ) → weighted pages rows ≤ limit
weighted_small pages rows = omega arith

whole_small : (db : Database) (block : Block) (tables : TableSet) (table : ℕ) (i : Option Index) → whole_index_cost db block tables table i ≤ limit
whole_small db block tables table None = omega arith
whole_small db block tables table (Some i) = weighted_small _ _

either_small : (b : Bool) (x y : ℕ) → x ≤ limit → y ≤ limit → cond b x y ≤ limit
either_small true x y h l = h
either_small false x y h l = l

match_small : (db : Database) (block : Block) (tables : TableSet) (table : ℕ) (conjuncts : List ℕ) (i : Option Index) → match_cost db block tables table conjuncts i ≤ limit
match_small db block tables table conjuncts None = omega arith
match_small db block tables table conjuncts (Some i) =
    let all : Bool = equals_each block tables table i.columns conjuncts in
    let fetched : ℕ = pages_fetched db block i table (matched db block i all conjuncts) in
    either_small (i.unique && all) one_row (weighted fetched (path_rows db block tables table)) (lit≤ tt) (weighted_small fetched (path_rows db block tables table))

pub path_small : (db : Database) (block : Block) (tables : TableSet) (path : Path) → path_cost db block tables path ≤ limit
path_small db block tables (SegmentScan table) = weighted_small _ _
path_small db block tables (IndexScan table number backward) = whole_small db block tables table _
path_small db block tables (MatchingScan table number conjuncts backward) = match_small db block tables table conjuncts _

-- ---- orders of paths are over their tables

keys_of_index : (table : ℕ) (backward : Bool) (columns : List ℕ)
    → AllByRecursion (λ (key : SortKey). Has (only table) key.column.table) (map (λ column. let key : SortKey = record { column = record { table = table; number = column }; descending = backward } in key) columns)
keys_of_index table backward [] = tt
keys_of_index table backward (column ∷ columns) = (bit_at-pow_same table, keys_of_index table backward columns)

keys_of : (db : Database) (block : Block) (path : Path) → AllByRecursion (λ (key : SortKey). Has (only (table_of path)) key.column.table) (order_of_path db block path)
keys_of db block (SegmentScan table) = tt
keys_of db block (IndexScan table number backward) = keys_of_index table backward (index_columns db block table number)
keys_of db block (MatchingScan table number conjuncts backward) = keys_of_index table backward (index_columns db block table number)

-- ---- complete spaces

-- an order is empty, or isn't
empty_or_not : (order : Order) → (order ≡ []) ⊎ (order ≢ [])
empty_or_not [] = inl refl
empty_or_not (key ∷ keys) = inr (λ e. cc)

module _ (version : Version) (db : Database) (block : Block) where
  -- the orders as they are put in
  abbrev put_in : List Order
  put_in = [] ∷ required_of block ∷ merge_orders (plan_conjuncts db block) ++ index_orders version db block

  required_number : HasNumber (orders_of version db block) (required_of block) (number_of (orders_of version db block) (required_of block))
  required_number = has_its_number put_in (required_of block) (1, omega arith, refl)

  required_complete : HasPlans block → required_of block ≢ []
      → (order : OrderNumber) × CanSort (space_of version db block) (whole (space_of version db block)) order × (order_at (space_of version db block) order ≡ required_of block)
  required_complete is some = (number, ((λ e. some (sym required_number.1 ∙ ap (λ k. get_or (orders_of version db block) k []) e)), (required_number.0, over)), required_number.1)
    where
      number : OrderNumber
      number = number_of (orders_of version db block) (required_of block)

      over : All (λ (key : SortKey). Has (whole (space_of version db block)) key.column.table) (order_at (space_of version db block) number)
      over = rw (required_number.1) (λ k d lt. whole_has (length block.tables) _ (is.required k d lt))

  pub complete : HasPlans block → IsComplete (space_of version db block)
  complete is = record {
    some = is.some;
    scans = λ tables table lt. (0, omega arith, refl);
    unordered = refl;
    required = of_cases (empty_or_not (required_of block));
    ordered = ordered;
    costs = λ path lt there. path_small db block no_tables path;
  }
    where
      ordered : (path : Path) → table_of path < length block.tables → IsPath (space_of version db block) no_tables path → IsOver (space_of version db block) (only (table_of path)) ((space_of version db block).path_order path)
      ordered path lt there =
          let number = path_order_numbered version db block no_tables (table_of path) path lt there in
          let own : AllByRecursion (λ (key : SortKey). Has (only (table_of path)) key.column.table) (order_at (space_of version db block) ((space_of version db block).path_order path)) =
          subst (λ (order : Order). AllByRecursion (λ (key : SortKey). Has (only (table_of path)) key.column.table) order) (sym number.1) (keys_of db block path) in
          (number.0, All-from_recursion (λ (key : SortKey). Has (only (table_of path)) key.column.table) (order_at (space_of version db block) ((space_of version db block).path_order path)) own)

      of_cases : (required_of block ≡ []) ⊎ (required_of block ≢ []) → (required_of block ≡ []) ⊎ ((order : OrderNumber) × CanSort (space_of version db block) (whole (space_of version db block)) order × (order_at (space_of version db block) order ≡ required_of block))
      of_cases (inl none) = inl none
      of_cases (inr some) = inr (required_complete is some)
