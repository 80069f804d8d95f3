use Rattle.std.proofs.Common.{◌≡◌, map, drop}
use Rattle.std.specs.List.{list_any}
use Rattle.definitions.specs.Binding.Scopes.{is_called}
use Rattle.query_rules.specs.ScopeRules.{named_of}
use Rattle.query_rules.proofs.scope.has_name.Given as goal

-- the tables that are left answer as all do
abbrev pub invariant-tables : goal.invariant-tables
invariant-tables l = list_any (is_called l.name) (map named_of (drop l.table-index l.scope)) ≡ list_any (is_called l.name) (map named_of l.scope)
