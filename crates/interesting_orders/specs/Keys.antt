-- The orders of keys, of columns and of indexes.
use Rattle.std.specs.Prelude.{ℕ, Bool, List, [], ◌∷◌, Option, Some, None, if◌then◌else◌, is_some, map, filter_map}
use Rattle.std.specs.Prelude.{position}
use Rattle.std.specs.List.{list_all}
use Rattle.definitions.specs.Table.{Table, is_on}
use Rattle.definitions.specs.Plans.Order as o
use Rattle.definitions.specs.Queries.BoundBlock.{Item, OrderKey}
use Rattle.definitions.specs.Estimates.Orders.{sort_key}
use Rattle.query_tree.specs.Bound.{column_of}
use Rattle.query_tree.specs.declared.leaf.BlockColumn.{BlockColumn}

-- that of ORDER BY, if its keys are all columns
abbrev pub order_by : List Item → List OrderKey → o.Order
order_by items keys =
    if list_all (λ key. is_some (sort_key items key)) keys then filter_map (sort_key items) keys else []

-- the two of a merge, each ascending
abbrev pub column_orders : Option (BlockColumn × BlockColumn) → List o.Order
column_orders None = []
column_orders (Some (x, y)) = o.ascending (column_of x) ∷ o.ascending (column_of y) ∷ []

-- that in which an index on columns of a table is read
abbrev pub read_key : ℕ → Bool → ℕ → o.SortKey
read_key table backward number = record { column = record { table = table; number = number }; descending = backward }

abbrev pub index_keys : ℕ → List ℕ → Bool → o.Order
index_keys table columns backward = map (read_key table backward) columns

-- the number of the index on one column
abbrev pub index_on_column : Table → ℕ → Option ℕ
index_on_column t column = position (is_on (column ∷ [])) t.indexes
