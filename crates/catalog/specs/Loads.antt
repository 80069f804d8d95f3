-- What LOAD does: to a table, and to a database that has the table.
use Rattle.std.specs.Prelude.{ℕ, ◌+◌, ◌<◌, ◌≤◌, ◌≡◌, true, List, [], ◌∷◌, ◌++◌, Some, None, Ok, length, slice_get}
use Rattle.std.specs.Prelude.{slice_index_or, IsTrue, ⊤}
use Rattle.definitions.specs.Limits.{most_rows}
use Rattle.definitions.specs.Table.{Table, Database, Row, Index, table_named}
use Rattle.definitions.specs.Key.{key_of, repeats}
use Rattle.definitions.specs.Change.{with_rows, changed}
use Rattle.definitions.specs.Statement.{Name}
use Rattle.definitions.specs.Refusal.{NullOrRepeated}
use Rattle.definitions.specs.Loading.{Record, AreFileRecords, RecordReads, AllRead, AllLoad, FirstFaulty, FillsUp}
use Rattle.loading.specs.Meaning.{record_refusal}
use Rattle.catalog.specs.Growth.{row_before}
use Rattle.catalog.specs.declared.fault.RepeatedRecord.{RepeatedRecord}
use Rattle.catalog.specs.declared.fault.LoadFault.{LoadFault}
use Rattle.catalog.specs.declared.fault.LoadFault.TheVariants as l

-- n rows are loaded, which become those of a table in this way
abbrev pub LoadsTable : Table → List ℕ → ℕ → (List Row → Type 0) → Type 0
LoadsTable t bytes n becomes = (records : List Record) × (rows : List Row) × AreFileRecords bytes records
    × AllLoad t t.rows records rows × (length t.rows + length rows ≤ most_rows) × (n ≡ length rows) × becomes rows

abbrev pub row_of : List Row → ℕ → Row
row_of rows row = slice_index_or rows row []

-- the key of a record in the index that is told repeats that of the row that is told
pub record RepeatsRow (t : Table) (records : List Record) (r : RepeatedRecord) : Type 0 where
  pub rows : List Row
  pub row : Row
  pub before : List Record
  pub after : List Record
  pub own : Record
  pub is : records ≡ before ++ own ∷ after
  pub read : AllRead t.columns before rows
  pub own_read : RecordReads t.columns own (Ok row)
  pub number : r.number ≡ length rows + 1
  pub index : Index
  pub named : slice_get t.indexes r.index ≡ Some index
  pub unique : index.unique ≡ true
  pub earlier : row_before (length t.rows) r.earlier < length (t.rows ++ rows)
  pub again : IsTrue
      (repeats (key_of index.columns row)
      (key_of index.columns (row_of (t.rows ++ rows) (row_before (length t.rows) r.earlier))))

-- why no row is loaded
abbrev pub RefusesTable : Table → List ℕ → LoadFault → Type 0
RefusesTable t bytes l.NoTable = ⊥
RefusesTable t bytes (l.Record r) = (records : List Record) × AreFileRecords bytes records
    × FirstFaulty t records (record_refusal r.fault) r.number
RefusesTable t bytes (l.Repeated r) = (records : List Record) × AreFileRecords bytes records
    × FirstFaulty t records NullOrRepeated r.number × RepeatsRow t records r
RefusesTable t bytes l.ManyRows = (records : List Record) × AreFileRecords bytes records × FillsUp t records
RefusesTable t bytes l.Memory = ⊤

-- the table of a name has a property
abbrev pub OfTable : Database → Name → (Table → Type 0) → Type 0
OfTable db name P = (t : Table) × (table_named db name ≡ Some t) × P t

-- rows come into the table of a name, and the database is else as it was
abbrev pub LoadsNamed : Name → List ℕ → Database → ℕ → Database → Type 0
LoadsNamed name bytes old n new =
    OfTable old name (λ t. LoadsTable t bytes n (λ rows. new ≡ changed (λ u. with_rows u rows) old name))

abbrev pub RefusesNamed : Name → List ℕ → Database → LoadFault → Type 0
RefusesNamed name bytes db l.NoTable = table_named db name ≡ None
RefusesNamed name bytes db fault = OfTable db name (λ t. RefusesTable t bytes fault)
