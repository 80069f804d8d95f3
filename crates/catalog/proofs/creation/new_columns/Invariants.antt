use Rattle.std.proofs.Common.{◌≡◌, map, take}
use Rattle.parse_tree.specs.Trees.{definitions_of}
use Rattle.catalog.specs.Creates.{AreTypes, empty_column}
use Rattle.catalog.proofs.creation.new_columns.Given as goal

-- the columns so far are made, of types
abbrev pub invariant-loop-place : goal.invariant-loop-place
invariant-loop-place l = record {
  made : l.made.items ≡ map empty_column (definitions_of (take l.place l.definitions));
  types : AreTypes (definitions_of (take l.place l.definitions));
}
