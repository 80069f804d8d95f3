use Rattle.std.proofs.Common.{◌≡◌, map, take}
use Rattle.parse_tree.specs.Trees.{name_of}
use Rattle.parse_tree.specs.declared.statement.ColumnDefinition.{ColumnDefinition}
use Rattle.catalog.proofs.naming.Names.of_columns.Given as goal

-- the names so far
abbrev pub invariant-loop-definition : goal.invariant-loop-definition
invariant-loop-definition l = l.names ≡ map (λ (d : ColumnDefinition). name_of d.name) (take l.definition-index l.definitions)
