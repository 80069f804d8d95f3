use Rattle.std.proofs.Common.{◌≡◌, ◌++◌, map, take, drop}
use Rattle.loading.specs.Stored.{cut_to}
use Rattle.loading.proofs.file.cut_columns.Given as goal

abbrev pub invariant-loop-column : goal.invariant-loop-column
invariant-loop-column l = l.columns ≡ map (cut_to l.rows) (take l.column-index l.fn.columns) ++ drop l.column-index l.fn.columns
