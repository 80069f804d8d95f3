use Rattle.std.proofs.Common.{◌≡◌, ◌++◌, map, drop}
use Rattle.indexes.specs.Keys.{columns_of, gathered}
use Rattle.indexes.proofs.run.KeyRun.with_rows.Given as goal

abbrev pub invariant-loop-place : goal.invariant-loop-place
invariant-loop-place l = l.columns.items ++ map (gathered l.keyed.rows.items) (columns_of (drop l.place l.keys)) ≡ map (gathered l.keyed.rows.items) (columns_of l.keys)
