-- What a database keeps.
use Rattle.std.specs.Prelude.{◌≡◌, List, map}
use Rattle.definitions.specs.Statement.{Name}
use Rattle.definitions.specs.Table.{Table, Database}
use Rattle.definitions.specs.Invariant.{IsDatabase}

abbrev pub table_names : Database → List Name
table_names = map (λ (t : Table). t.name)

-- tables as statements make them, and their names in the same order
pub record IsStoredDatabase (tables : Database) (names : List Name) : Type 0 where
  pub valid : IsDatabase tables
  pub named : names ≡ table_names tables
