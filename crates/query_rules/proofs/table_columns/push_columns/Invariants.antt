use Rattle.std.proofs.Common.{◌≡◌, ◌++◌, map, drop}
use Rattle.definitions.specs.Binding.Scopes.{table_columns}
use Rattle.query_rules.specs.ScopeRules.{found_of}
use Rattle.query_rules.proofs.table_columns.push_columns.Given as goal

-- those so far, with those that are left, are all
abbrev pub invariant-columns : goal.invariant-columns
invariant-columns l =
    map found_of l.columns.items ++ drop l.number (table_columns l.place 0 l.table.columns)
    ≡ map found_of l.fn.columns.items ++ table_columns l.place 0 l.table.columns
