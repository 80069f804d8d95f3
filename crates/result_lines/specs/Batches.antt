-- Rows that come many at a time, and their result columns where these are columns of tables.
use Rattle.std.specs.Prelude.{ℕ, ℤ, ◌<◌, List, [], ◌∷◌, Option, map}
use Rattle.definitions.specs.Value.{SqlType, Value}
use Rattle.definitions.specs.Table.{Row}
use Rattle.definitions.specs.Plans.Order.{BlockColumn}
use Rattle.definitions.specs.Queries.BoundBlock as b
use Rattle.definitions.specs.Queries.Evaluation.{Environment, cell}
use Rattle.columns.specs.Cells.{CellList, number_or_null}
use Rattle.columns.specs.Starts.{value_in}
use Rattle.result_lines.specs.RowAt.{row_in}

-- the values in a column
abbrev pub column_values : List Environment → BlockColumn → List Value
column_values envs column = map (λ (env : Environment). cell env.combination column) envs

-- a value that is a column of one of so many tables
abbrev pub IsColumnOf : ℕ → b.ValueExpr → Type 0
IsColumnOf width (b.Column column type) = column.table < width
IsColumnOf width value = ⊥

-- a result column that is
abbrev pub GivesColumnOf : ℕ → b.Item → Type 0
GivesColumnOf width item = IsColumnOf width item.value

-- the rows in several environments
abbrev pub rows_in : List b.Item → List Environment → List Row
rows_in items envs = map (λ env. row_in env items) envs

-- rows that have only what a column has in one of its own rows
abbrev pub rows_of_column : CellList → List ℕ → List Row
rows_of_column column rows = map (λ row. value_in column row ∷ []) rows

-- or only a number of some units of a type, or null
abbrev pub rows_of_units : SqlType → List (Option ℤ) → List Row
rows_of_units type units = map (λ u. number_or_null type u ∷ []) units
