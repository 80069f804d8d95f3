-- Lists of columns.
use Rattle.std.specs.Prelude.{◌≡◌, ◌<◌, List, [], None, length, ⊤}
use Rattle.definitions.specs.Limits.{most_index_columns}
use Rattle.definitions.specs.Statement.{Name}
use Rattle.definitions.specs.Table.{Column, column_numbers}
use Rattle.catalog.specs.declared.fault.ListFault.{ListFault}
use Rattle.catalog.specs.declared.fault.ListFault.TheVariants as l

-- why names stand for no list of a table's columns
abbrev pub RefusesList : List Column → List Name → ListFault → Type 0
RefusesList columns names l.NoTable = ⊥
RefusesList columns names (l.NoColumn column) = column_numbers columns names ≡ None
RefusesList columns names l.Empty = names ≡ []
RefusesList columns names l.ManyColumns = most_index_columns < length names
RefusesList columns names l.Memory = ⊤
