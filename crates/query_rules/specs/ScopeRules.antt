-- What the tables, columns and resolutions of this crate stand for.
use Rattle.std.specs.Prelude.{◌≤◌, List, Some, length, map}
use Rattle.std.specs.Global.{Vec}
use Rattle.std.specs.List.{AllByRecursion}
use Rattle.definitions.specs.Limits.{most_from_tables}
use Rattle.definitions.specs.Binding.Scopes as spec
use Rattle.sqlvalue.specs.Meaning.{type_of}
use Rattle.query_tree.specs.Bound.{column_of}
use Rattle.query_rules.specs.declared.named_table.NamedTable.{NamedTable}
use Rattle.query_rules.specs.declared.resolution.Found.{Found}
use Rattle.query_rules.specs.declared.resolution.Resolution.{Resolution}
use Rattle.query_rules.specs.declared.resolution.Resolution.TheVariants as r

abbrev pub named_of : NamedTable → spec.NamedTable
named_of t = record { name = t.name.now; number = t.number; table = Some t.table.now }

abbrev pub found_of : Found → spec.Found
found_of f = record { column = column_of f.column; type = type_of f.sql_type; name = f.name.now }

abbrev pub resolution_of : Resolution → spec.Resolution
resolution_of r.NotThere = spec.NotThere
resolution_of r.Ambiguous = spec.Ambiguous
resolution_of (r.Named level found) = spec.Named level (found_of found)

-- the tables of one block; those of each, the nearest first
abbrev pub tables_of : Vec NamedTable → spec.Scope
tables_of scope = map named_of scope.items

abbrev pub scopes_of : List (Vec NamedTable) → spec.Scopes
scopes_of = map tables_of

-- each FROM is within its limit
abbrev pub AreFew : spec.Scopes → Type 0
AreFew = AllByRecursion (λ (scope : spec.Scope). length scope ≤ most_from_tables)
