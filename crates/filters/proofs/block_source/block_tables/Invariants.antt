use Rattle.std.proofs.Common.{◌≡◌, ◌++◌, drop, map}
use Rattle.std.specs.Prelude.{slice_get}
use Rattle.filters.proofs.Tables.{told}
use Rattle.filters.proofs.block_source.block_tables.Given as goal

abbrev pub invariant-numbers : goal.invariant-numbers
invariant-numbers l = map told l.tables.items ++ map (slice_get l.database) (drop l.number-index l.number-items) ≡ map (slice_get l.database) l.number-items
