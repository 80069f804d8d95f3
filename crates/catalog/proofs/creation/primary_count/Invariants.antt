use Rattle.std.proofs.Common.{◌≡◌, take}
use Rattle.std.specs.Prelude.{count_by}
use Rattle.definitions.specs.Table.{is_primary}
use Rattle.parse_tree.specs.Trees.{constraint_of}
use Rattle.parse_tree.specs.declared.statement.ColumnDefinition.{ColumnDefinition}
use Rattle.catalog.proofs.creation.primary_count.Given as goal

-- those so far
abbrev pub invariant-loop-definition : goal.invariant-loop-definition
invariant-loop-definition l = l.count ≡ count_by (λ (d : ColumnDefinition). is_primary (constraint_of d.constraint)) (take l.definition-index l.definitions)
