-- Why the tables of a FROM are not found.
use Rattle.std.specs.Prelude.{◌<◌, ◌≡◌, List, Option, Some, None, length, map}
use Rattle.definitions.specs.Lists.{AnyOf}
use Rattle.definitions.specs.Limits.{most_from_tables}
use Rattle.definitions.specs.Statement.{Source}
use Rattle.definitions.specs.Table.{Database, AreDistinct, table_named}
use Rattle.definitions.specs.Refusal as r
use Rattle.definitions.specs.Refusal.{Refusal}
use Rattle.definitions.specs.Binding.Scopes.{NamedTable, scope_of}
use Rattle.query_rules.specs.declared.scope_fault.SourceFault.{SourceFault}
use Rattle.query_rules.specs.declared.scope_fault.SourceFault.TheVariants as f

-- the faults of a FROM, which are those of its block (Binding.Faults)
pub data SourcesFaulty (db : Database) (sources : List Source) : Refusal → Type 0 where
  name_twice : ¬ (AreDistinct (map (λ (t : NamedTable). t.name) (scope_of db sources)))
      → SourcesFaulty db sources r.NameTaken
  no_table : AnyOf (λ (s : Source). table_named db s.table ≡ None) sources → SourcesFaulty db sources r.NotFound
  many_tables : most_from_tables < length sources → SourcesFaulty db sources r.ManyTables

-- the refusal of a FROM whose tables are not found; none where memory was wanting
abbrev pub source_refusal : SourceFault → Option Refusal
source_refusal (f.ManyTables sources beyond) = Some r.ManyTables
source_refusal (f.NoTable name) = Some r.NotFound
source_refusal (f.NameTwice name) = Some r.NameTaken
source_refusal f.Memory = None
