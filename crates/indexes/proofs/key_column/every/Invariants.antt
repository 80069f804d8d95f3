use Rattle.std.proofs.Common.{◌≡◌}
use Rattle.std.specs.List.{AllByRecursion}
use Rattle.columns.specs.Columns.{cells_of}
use Rattle.columns.specs.Starts.{IsHeld}
use Rattle.indexes.proofs.PagedValues.{taken}
use Rattle.indexes.proofs.key_column.every.Given as goal

abbrev pub invariant-loop-place : goal.invariant-loop-place
invariant-loop-place l = (cells_of l.taken ≡ taken (cells_of l.column) l.rows l.step l.place) × AllByRecursion (IsHeld (cells_of l.taken).type) (cells_of l.taken).values
