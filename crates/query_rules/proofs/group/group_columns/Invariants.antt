use Rattle.std.proofs.Common.{map, drop}
use Rattle.query_tree.specs.Bound.{column_of}
use Rattle.parse_tree.specs.Trees.{column_of as reference_of}
use Rattle.query_rules.proofs.Groups.{GroupsLeft}
use Rattle.query_rules.proofs.group.group_columns.Given as goal

abbrev pub invariant-references : goal.invariant-references
invariant-references l = GroupsLeft l.scopes (map reference_of l.references) (map column_of l.columns.items) (map reference_of (drop l.reference-index l.references))
