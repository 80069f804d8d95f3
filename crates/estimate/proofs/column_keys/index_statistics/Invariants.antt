use Rattle.std.proofs.Common.{◌≡◌, [], ◌∷◌, drop}
use Rattle.std.specs.Prelude.{find}
use Rattle.definitions.specs.Table.{is_on, index_on}
use Rattle.estimate.proofs.column_keys.index_statistics.Given as goal

abbrev pub invariant-indexes : goal.invariant-indexes
invariant-indexes l = find (is_on (l.column ∷ [])) (drop l.number l.table.indexes) ≡ index_on l.table.indexes (l.column ∷ [])
