-- The tables of a bound block: sets of them, their statistics and their indexes.
use Rattle.std.specs.Prelude.{ℕ, Bool, ◌==◌, bit_or, List, [], length, filter, Option, option_map, option_and_then}
use Rattle.std.specs.Prelude.{unwrap_or, slice_get}
use Rattle.std.specs.List.{range_with_len}
use Rattle.std.specs.Int.{bit_at}
use Rattle.definitions.specs.Table.{Index, Table, Database}
use Rattle.definitions.specs.Plans.TableSet.{TableSet}
use Rattle.definitions.specs.Queries.BoundBlock.{Block}

-- whether a set has a table, and whether all its tables are in another
abbrev pub has : TableSet → ℕ → Bool
has tables table = bit_at tables table == 1

abbrev pub is_within : TableSet → TableSet → Bool
is_within a b = bit_or a b == b

module _ (db : Database) (block : Block) where
  -- the tables count from 0 in the order of FROM
  abbrev pub table_at : ℕ → Option Table
  table_at table = option_and_then (slice_get db) (slice_get block.tables table)

  -- a statistic of a table
  abbrev pub statistic_at : (Table → ℕ) → ℕ → ℕ
  statistic_at statistic table = unwrap_or (option_map statistic (table_at table)) 0

  -- how many rows it is taken to have, and on how many pages (Selinger et al. 1979, section 4: NCARD and TCARD)
  abbrev pub rows_at : ℕ → ℕ
  rows_at table = statistic_at (λ t. t.statistics.rows) table

  abbrev pub pages_at : ℕ → ℕ
  pages_at table = statistic_at (λ t. t.statistics.pages) table

  -- an index of a table, and its columns, the one that counts most first
  abbrev pub index_at : ℕ → ℕ → Option Index
  index_at table number = option_and_then (λ (t : Table). slice_get t.indexes number) (table_at table)

  abbrev pub index_columns : ℕ → ℕ → List ℕ
  index_columns table number = unwrap_or (option_map (λ (i : Index). i.columns) (index_at table number)) []

-- the tables of a set in the order of FROM
abbrev pub members : Block → TableSet → List ℕ
members block tables = filter (has tables) (range_with_len 0 (length block.tables))
