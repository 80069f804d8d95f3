-- What a table keeps.
use Rattle.std.specs.Prelude.{ℕ, ◌≤◌, ◌≡◌, List, map}
use Rattle.std.specs.String.{string_bytes}
use Rattle.definitions.specs.Limits.{most_rows}
use Rattle.definitions.specs.Statement.{Name}
use Rattle.definitions.specs.Table.{Table, TableStatistics, column_names}
use Rattle.definitions.specs.Key.{key_of}
use Rattle.definitions.specs.IndexRun.{IsRun}
use Rattle.definitions.specs.Invariant.{IsTable}
use Rattle.loading.specs.Stored.{StoredColumn, AreFilled, headers, rows_of}
use Rattle.indexes.specs.Indexes.{StoredIndex}
use Rattle.indexes.specs.Meaning.{table_statistics_of}
use Rattle.catalog.specs.Growth.{AreOrdered}
use Rattle.catalog.specs.declared.table.Table.TheInside.{Inside}

-- columns of n values each, with indexes and statistics, as a table
abbrev pub table_of : Name → List StoredColumn → List StoredIndex → ℕ → TableStatistics → Table
table_of name cs is n statistics =
    record {
      name = name;
      columns = headers cs;
      indexes = map (λ (i : StoredIndex). i.index) is;
      rows = rows_of n cs;
      statistics = statistics;
    }

abbrev pub stored_table : Inside → Table
stored_table t = table_of (string_bytes t.name) t.columns.items t.indexes.items t.len (table_statistics_of t.statistics)

-- a value of each column for each row, of its type, not too many rows, indexes of all of them, and the columns' names
-- in their order
pub record IsStoredTable (t : Inside) : Type 0 where
  pub filled : AreFilled t.len t.columns.items
  pub named : t.names ≡ column_names (headers t.columns.items)
  pub few : t.len ≤ most_rows
  pub ordered : AreOrdered t.columns.items t.len t.indexes.items
  pub valid : IsTable (stored_table t)

-- an index has all rows of a table, in the order of their keys
abbrev pub IsIndexRun : Table → StoredIndex → Type 0
IsIndexRun t i = IsRun (map (key_of i.index.columns) t.rows) i.entries
