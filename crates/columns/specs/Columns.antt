-- What a column of either kind stands for.
use Rattle.columns.specs.Cells.{CellList}
use Rattle.columns.specs.declared.column.Column.{Column}
use Rattle.columns.specs.declared.column.Column.TheVariants as k

abbrev pub cells_of : Column → CellList
cells_of (k.Numbers column) = column
cells_of (k.Texts column) = column
