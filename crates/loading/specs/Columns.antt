-- What a column keeps.
use Rattle.std.specs.String.{string_bytes}
use Rattle.columns.specs.Columns.{cells_of}
use Rattle.parse_tree.specs.Trees.{constraint_of}
use Rattle.loading.specs.Stored.{StoredColumn, named}
use Rattle.loading.specs.declared.table_column.TableColumn.TheInside.{Inside}

abbrev pub stored_column : Inside → StoredColumn
stored_column c = named (string_bytes c.name) (constraint_of c.constraint) (cells_of c.cells)
