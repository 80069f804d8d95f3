use Rattle.std.proofs.Common.{◌≡◌}
use Rattle.indexes.specs.Keys.{columns_of}
use Rattle.indexes.proofs.FirstRepeated.{lowest}
use Rattle.indexes.proofs.repeated.first_repeated.Given as goal

abbrev pub invariant-loop-place : goal.invariant-loop-place
invariant-loop-place l = l.found ≡ lowest (columns_of l.keys) l.rows l.place
