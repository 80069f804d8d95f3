-- Rows that come many at a time.
use Rattle.std.specs.Prelude.{ℕ, ◌≡◌, ◌≤◌, ◌<◌, ⊤, All, FitsSigned, List, IfSome, length, map, false}
use Rattle.std.specs.Int.{w64}
use Rattle.definitions.specs.Value.{Value}
use Rattle.definitions.specs.Plans.Order.{BlockColumn}
use Rattle.definitions.specs.Queries.BoundBlock as b
use Rattle.definitions.specs.Queries.Evaluation.{Environment, cell}
use Rattle.definitions.specs.Queries.Grouping.{taken}
use Rattle.query_tree.specs.Bound.{column_of}
use Rattle.result_lines.specs.Batches.{column_values}
use Rattle.grouping.specs.Units.{numbers_at}
use Rattle.grouping.specs.declared.column_units.ColumnUnits.{ColumnUnits}

-- a set function of a column of one of so many tables, or COUNT(*)
abbrev pub IsOfColumn : ℕ → b.Aggregate → Type 0
IsOfColumn width b.CountRows = ⊤
IsOfColumn width (b.OfValues kind distinct (b.Column column type)) = column.table < width
IsOfColumn width (b.OfValues kind distinct argument) = ⊥

-- of this one
abbrev pub IsOfTheColumn : BlockColumn → b.Aggregate → Type 0
IsOfTheColumn own (b.OfValues kind distinct (b.Column column type)) = column ≡ own
IsOfTheColumn own f = ⊥

-- units are those of a column's numbers
pub record AreUnitsOf (envs : List Environment) (column : BlockColumn) (units : ColumnUnits) : Type 0 where
  pub numbers : numbers_at units.scale units.units.items ≡ taken false (column_values envs column)
  pub few : length units.units.items ≤ 1024
  pub ranged : All (FitsSigned w64) units.units.items

-- where they are held for a column, they are its own
abbrev pub AreHeld : List Environment → ColumnUnits → Type 0
AreHeld envs units = IfSome units.held (λ column. AreUnitsOf envs (column_of column) units)
