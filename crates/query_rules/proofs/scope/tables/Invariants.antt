use Rattle.std.proofs.Common.{◌≡◌, ◌++◌, map, drop}
use Rattle.definitions.specs.Table.{AreDistinct}
use Rattle.definitions.specs.Binding.Scopes.{scope_of}
use Rattle.parse_tree.specs.Trees.{source_of}
use Rattle.query_rules.specs.ScopeRules.{named_of}
use Rattle.query_rules.proofs.Sources.{names}
use Rattle.query_rules.proofs.scope.tables.Given as goal

-- the tables so far, whose names are distinct, with those of the sources that are left, are all
abbrev pub invariant-sources : goal.invariant-sources
invariant-sources l = record {
  found : map named_of l.scope.items ++ scope_of l.database (map source_of (drop l.source-index l.sources)) ≡ scope_of l.database (map source_of l.sources);
  distinct : AreDistinct (names (map named_of l.scope.items));
}
