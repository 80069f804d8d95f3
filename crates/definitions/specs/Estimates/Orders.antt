-- The order that a block asks of its rows, and those that its indexes give (Selinger et al. 1979, section 4:
-- interesting orders).
use Rattle.std.specs.Prelude.{ℕ, Bool, if◌then◌else◌, is_some, List, [], ◌∷◌, Option, length, map, flat_map, filter_map}
use Rattle.std.specs.Prelude.{option_map, option_and_then, unwrap_or, slice_get, position}
use Rattle.std.specs.List.{list_all, range_with_len}
use Rattle.definitions.specs.Table.{Table, Database, is_on}
use Rattle.definitions.specs.Plans.Order.{BlockColumn, SortKey, Order, ascending}
use Rattle.definitions.specs.Plans.Path.{Path, SegmentScan, IndexScan, MatchingScan}
use Rattle.definitions.specs.Plans.Numbering.{numbered}
use Rattle.definitions.specs.Queries.BoundBlock.{Item, OrderKey, Block}
use Rattle.definitions.specs.Queries.Answer.{is_grouped}
use Rattle.definitions.specs.Estimates.BlockTables.{table_at, index_columns}
use Rattle.definitions.specs.Estimates.Sides.{column_of}
use Rattle.definitions.specs.Estimates.PlanConjuncts.{plan_conjuncts}
use Rattle.definitions.specs.Estimates.Version.{Version, One, directions}

-- ---- what is asked

-- the column of the table that a result column is, if it is one
abbrev pub column_of_item : List Item → ℕ → Option BlockColumn
column_of_item items number = option_and_then (λ (i : Item). column_of i.value) (slice_get items number)

-- a key of ORDER BY as one of an order, if its result column is such a column
abbrev pub sort_key : List Item → OrderKey → Option SortKey
sort_key items key =
    option_map (λ (column : BlockColumn). record { column = column; descending = key.descending })
    (column_of_item items key.item)

-- the columns of GROUP BY, ascending; of a block that isn't grouped ORDER BY, if its keys are all columns (ISO/IEC
-- 9075:1992, 13.1; that grouping asks for an order is own)
abbrev pub required_of : Block → Order
required_of block =
    if is_grouped block then flat_map ascending block.groups
    else if list_all (λ key. is_some (sort_key block.items key)) block.order
    then filter_map (sort_key block.items) block.order
    else []

-- ---- what indexes give

-- the numbers of the indexes of a table that a version knows: the first those on one column, in the order of the
-- columns, the others all
abbrev pub known_indexes : Version → Table → List ℕ
known_indexes One t =
    filter_map (λ column. position (is_on (column ∷ [])) t.indexes) (range_with_len 0 (length t.columns))
known_indexes _ t = range_with_len 0 (length t.indexes)

module _ (db : Database) (block : Block) where
  -- all keys ascending, or, backward, all descending
  abbrev pub index_order : ℕ → ℕ → Bool → Order
  index_order table number backward =
      map (λ column. record { column = record { table = table; number = column }; descending = backward })
      (index_columns db block table number)

  abbrev pub order_of_path : Path → Order
  order_of_path (SegmentScan table) = []
  order_of_path (IndexScan table number backward) = index_order table number backward
  order_of_path (MatchingScan table number conjuncts backward) = index_order table number backward

module _ (version : Version) (db : Database) (block : Block) where
  abbrev pub indexes_at : ℕ → List ℕ
  indexes_at table = unwrap_or (option_map (known_indexes version) (table_at db block table)) []

  -- of each index its order, or its two orders
  abbrev pub table_orders : ℕ → List Order
  table_orders table =
      flat_map (λ number. map (index_order db block table number) (directions version)) (indexes_at table)

  -- table by table in the order of FROM
  abbrev pub index_orders : List Order
  index_orders = flat_map table_orders (range_with_len 0 (length block.tables))

  -- the numbered orders of the block
  abbrev pub orders_of : List Order
  orders_of = numbered (required_of block) (plan_conjuncts db block) index_orders
