use Rattle.std.proofs.Common.{◌≡◌, drop}
use Rattle.definitions.specs.Key.{key_rank}
use Rattle.indexes.specs.Keys.{columns_of, key_in}
use Rattle.indexes.proofs.keys.rank_of_keys.Given as goal

abbrev pub invariant-loop-column : goal.invariant-loop-column
invariant-loop-column l = key_rank (key_in (columns_of (drop l.column-index l.keys)) l.a) (key_in (columns_of (drop l.column-index l.keys)) l.b) ≡ key_rank (key_in (columns_of l.keys) l.a) (key_in (columns_of l.keys) l.b)
