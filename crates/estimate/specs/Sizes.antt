-- The sizes of tables.
use Rattle.std.specs.Prelude.{ℕ, List, map}
use Rattle.std.specs.Borrow.{Bor}
use Rattle.definitions.specs.Table.{Table}
use Rattle.definitions.specs.Statistics.{row_width}
use Rattle.estimate.specs.declared.table_size.TableSize.{TableSize}

-- the rows of a table, and the bytes of one
abbrev pub Size : Type 0
Size = ℕ × ℕ

abbrev pub size_in : TableSize → Size
size_in s = (s.rows, s.width)

abbrev pub size_of_table : Table → Size
size_of_table t = (t.statistics.rows, row_width t.columns)

abbrev pub sizes_of : List (Bor Table) → List Size
sizes_of = map (λ (t : Bor Table). size_of_table t.now)
