use Rattle.std.proofs.Common.{map}
use Rattle.columns.specs.Columns.{cells_of}
use Rattle.columns.specs.Starts.{value_in}
use Rattle.indexes.proofs.Weaving.{AreTaken}
use Rattle.indexes.proofs.key_column.woven.Given as goal

abbrev pub invariant-loop-place : goal.invariant-loop-place
invariant-loop-place l = AreTaken (cells_of l.old) (map (value_in (cells_of l.column)) l.keyed.further.items) l.keyed.places.items (cells_of l.column) (cells_of l.taken) l.from l.place
