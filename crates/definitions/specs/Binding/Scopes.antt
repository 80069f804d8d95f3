-- Where the names of a query are sought: in the tables of its FROM, and then in those of the blocks around it.
use Rattle.std.specs.Prelude.{ℕ, ◌+◌, Bool, true, List, [], ◌∷◌, ◌++◌, Option, Some, None, if◌then◌else◌, map, filter}
use Rattle.std.specs.Prelude.{unwrap_or, is_some, bytes_eq, length, nat_le, ◌&&◌}
use Rattle.std.specs.List.{list_all, list_any, position_or_len}
use Rattle.definitions.specs.Limits.{most_from_tables}
use Rattle.definitions.specs.Value.{SqlType}
use Rattle.definitions.specs.Statement.{Name}
use Rattle.definitions.specs.Table as table
use Rattle.definitions.specs.Table.{Table, Database, table_named}
use Rattle.definitions.specs.Plans.Order.{BlockColumn}
use Rattle.definitions.specs.Statement.{ColumnReference, Source}

-- a table of FROM: the name by which its columns are qualified, its number in the database, and its columns, if it is
-- there (ISO/IEC 9075:1992, 6.3)
pub record NamedTable : Type 0 where
  pub name : Name
  pub number : ℕ
  pub table : Option Table

-- the tables of one FROM; and those of a block, of the block around it, and so on
abbrev pub Scope : Type 0
Scope = List NamedTable

abbrev pub Scopes : Type 0
Scopes = List Scope

-- a correlation name hides the table's own (6.3, syntax rule 1)
abbrev pub named_table : Database → Source → NamedTable
named_table db s = record {
  name = unwrap_or s.correlation s.table;
  number = position_or_len (λ (t : Table). bytes_eq t.name s.table) db;
  table = table_named db s.table;
}

abbrev pub scope_of : Database → List Source → Scope
scope_of db = map (named_table db)

abbrev pub columns_of : Option Table → List table.Column
columns_of None = []
columns_of (Some t) = t.columns

-- a FROM within its limit, whose tables are all there: of one past it the tree has not all tables
abbrev pub is_whole : Scope → Bool
is_whole scope = list_all (λ (t : NamedTable). is_some t.table) scope && nat_le (length scope) most_from_tables

-- every table in sight is there
abbrev pub are_there : Scopes → Bool
are_there = list_all is_whole

-- a column that was found, with its type and its name
pub record Found : Type 0 where
  pub column : BlockColumn
  pub type : SqlType
  pub name : Name

-- the columns of a FROM, table by table
abbrev pub table_columns : ℕ → ℕ → List table.Column → List Found
table_columns table number [] = []
table_columns table number (c ∷ cs) =
    record { column = record { table = table; number = number }; type = c.type; name = c.name }
    ∷ table_columns table (number + 1) cs

-- those of the tables that a test takes, the tables being counted from a number on
abbrev pub columns_where : (NamedTable → Bool) → ℕ → Scope → List Found
columns_where test table [] = []
columns_where test table (t ∷ ts) =
    (if test t then table_columns table 0 (columns_of t.table) else []) ++ columns_where test (table + 1) ts

abbrev pub all_columns : Scope → List Found
all_columns = columns_where (λ t. true) 0

-- the block's own tables
abbrev pub own_scope : Scopes → Scope
own_scope [] = []
own_scope (scope ∷ outer) = scope

abbrev pub with_name : Name → List Found → List Found
with_name name = filter (λ (f : Found). bytes_eq f.name name)

-- what a name stands for: no column, several, or one of the block that lies so many blocks outside (0: the block
-- itself)
pub data Resolution : Type 0 where
  NotThere Ambiguous : Resolution
  Named : (level : ℕ) (found : Found) → Resolution

-- of the columns of a name in one FROM, the only one; or what is found further out
abbrev pub only_one : ℕ → List Found → Resolution → Resolution
only_one level [] otherwise = otherwise
only_one level (f ∷ []) otherwise = Named level f
only_one level (f ∷ g ∷ fs) otherwise = Ambiguous

-- a name without a qualifier is sought in the block's own FROM, and then outward (6.4, syntax rule 4)
abbrev pub resolve_name : ℕ → Scopes → Name → Resolution
resolve_name level [] name = NotThere
resolve_name level (scope ∷ outer) name =
    only_one level (with_name name (all_columns scope)) (resolve_name (level + 1) outer name)

-- a qualifier belongs to the nearest FROM that has its name, whether or not that table has the column (6.4, syntax rule
-- 3)
abbrev pub is_called : Name → NamedTable → Bool
is_called qualifier t = bytes_eq t.name qualifier

abbrev pub resolve_qualified : ℕ → Scopes → Name → Name → Resolution
resolve_qualified level [] qualifier name = NotThere
resolve_qualified level (scope ∷ outer) qualifier name =
    if list_any (is_called qualifier) scope
    then only_one level (with_name name (columns_where (is_called qualifier) 0 scope)) NotThere
    else resolve_qualified (level + 1) outer qualifier name

abbrev pub resolve_by : Scopes → Option Name → Name → Resolution
resolve_by scopes None name = resolve_name 0 scopes name
resolve_by scopes (Some qualifier) name = resolve_qualified 0 scopes qualifier name

abbrev pub resolve : Scopes → ColumnReference → Resolution
resolve scopes reference = resolve_by scopes reference.qualifier reference.name
