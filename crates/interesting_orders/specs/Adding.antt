-- Orders that are added one after another, none twice.
use Rattle.std.specs.Prelude.{ℕ, List, [], ◌∷◌, ◌++◌, nat_eq, if◌then◌else◌, length, map, flat_map, option_map}
use Rattle.std.specs.Prelude.{unwrap_or, slice_get}
use Rattle.definitions.specs.Table.{Index, Table}
use Rattle.definitions.specs.Plans.Order.{Order}
use Rattle.definitions.specs.Plans.Numbering.{number_of}
use Rattle.definitions.specs.Estimates.Version.{Version, directions}
use Rattle.definitions.specs.Estimates.Orders.{known_indexes}
use Rattle.interesting_orders.specs.Keys.{index_keys}

-- an order behind those that are there, if it isn't one of them
abbrev pub added : List Order → Order → List Order
added orders order = if nat_eq (number_of orders order) (length orders) then orders ++ order ∷ [] else orders

abbrev pub columns_at : Table → ℕ → List ℕ
columns_at t index = unwrap_or (option_map (λ (i : Index). i.columns) (slice_get t.indexes index)) []

-- of an index its order, or its two orders
abbrev pub read_keys : Version → ℕ → Table → ℕ → List Order
read_keys version number t index = map (index_keys number (columns_at t index)) (directions version)

-- those of all indexes of a table that a version knows
abbrev pub table_keys : Version → ℕ → Table → List Order
table_keys version number t = flat_map (read_keys version number t) (known_indexes version t)
