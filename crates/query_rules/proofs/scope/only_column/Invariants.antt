use Rattle.std.proofs.Common.{◌≡◌, map, drop}
use Rattle.std.specs.Option.{option_copied}
use Rattle.definitions.specs.Binding.Scopes.{NotThere, columns_where, with_name}
use Rattle.query_rules.specs.ScopeRules.{named_of, resolution_of}
use Rattle.query_rules.specs.Search.{is_meant, with_all}
use Rattle.query_rules.proofs.scope.only_column.Given as goal

-- the tables that are left give what all give
abbrev pub invariant-tables : goal.invariant-tables
invariant-tables l =
    with_all l.level (resolution_of l.resolution) (with_name l.name (columns_where (is_meant (option_copied l.qualifier)) l.place (map named_of (drop l.place l.scope))))
    ≡ with_all l.level NotThere (with_name l.name (columns_where (is_meant (option_copied l.qualifier)) 0 (map named_of l.scope)))
