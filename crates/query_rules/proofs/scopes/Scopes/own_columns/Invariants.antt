use Rattle.std.proofs.Common.{◌≡◌, ◌++◌, true, map, drop}
use Rattle.definitions.specs.Binding.Scopes.{all_columns, columns_where, own_scope}
use Rattle.query_rules.specs.ScopeRules.{found_of, named_of}
use Rattle.query_rules.proofs.scopes.Scopes.own_columns.Given as goal

-- the columns so far, with those of the tables that are left, are all
abbrev pub invariant-tables : goal.invariant-tables
invariant-tables l = map found_of l.columns.items ++ columns_where (λ t. true) l.place (map named_of (drop l.place l.table-items)) ≡ all_columns (own_scope l.self)
