use Rattle.std.proofs.Common.{take}
use Rattle.loading.specs.Stored.{headers, rows_of}
use Rattle.indexes.proofs.FirstRepeats.{SoFar}
use Rattle.indexes.proofs.extension.extend_indexes.Given as goal

-- the indexes so far are extended, or a row repeats a key
abbrev pub invariant-loop-place : goal.invariant-loop-place
invariant-loop-place l = SoFar (headers l.columns) (rows_of l.rows l.columns) (take l.place l.indexes) l.made.items l.first
