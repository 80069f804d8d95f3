use Rattle.std.proofs.Common.{◌≡◌, drop}
use Rattle.definitions.specs.Key.{has_null}
use Rattle.indexes.specs.Keys.{columns_of, key_in}
use Rattle.indexes.proofs.keys.is_full.Given as goal

abbrev pub invariant-loop-column : goal.invariant-loop-column
invariant-loop-column l = has_null (key_in (columns_of (drop l.column-index l.keys)) l.row) ≡ has_null (key_in (columns_of l.keys) l.row)
