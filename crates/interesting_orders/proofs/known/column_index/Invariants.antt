use Rattle.std.proofs.Common.{◌≡◌, [], ◌∷◌, drop}
use Rattle.std.specs.List.{position_from}
use Rattle.definitions.specs.Table.{is_on}
use Rattle.interesting_orders.proofs.known.column_index.Given as goal

abbrev pub invariant-indexes : goal.invariant-indexes
invariant-indexes l = position_from (is_on (l.column ∷ [])) l.number (drop l.number l.table.indexes) ≡ position_from (is_on (l.column ∷ [])) 0 l.table.indexes
