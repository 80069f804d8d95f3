use Rattle.std.proofs.Common.{◌≡◌, take}
use Rattle.indexes.specs.Keys.{columns_of}
use Rattle.indexes.specs.KeyColumns.{key_cells}
use Rattle.indexes.proofs.key_columns.key_columns.Given as goal

-- the cells so far
abbrev pub invariant-loop-number : goal.invariant-loop-number
invariant-loop-number l = columns_of l.keys.items ≡ key_cells l.columns (take l.number-index l.numbers)
