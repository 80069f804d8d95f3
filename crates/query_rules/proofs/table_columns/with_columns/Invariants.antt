use Rattle.std.proofs.Common.{◌≡◌, drop}
use Rattle.definitions.specs.Binding.Scopes.{table_columns, with_name}
use Rattle.query_rules.specs.ScopeRules.{resolution_of}
use Rattle.query_rules.specs.Search.{with_all}
use Rattle.query_rules.proofs.table_columns.with_columns.Given as goal

-- the columns that are left give what all give
abbrev pub invariant-columns : goal.invariant-columns
invariant-columns l =
    with_all l.level (resolution_of l.resolution) (with_name l.name (drop l.number (table_columns l.place 0 l.table.columns)))
    ≡ with_all l.level (resolution_of l.fn.resolution) (with_name l.name (table_columns l.place 0 l.table.columns))
