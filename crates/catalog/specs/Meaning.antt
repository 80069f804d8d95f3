-- What the arguments and faults of this crate stand for.
use Rattle.std.specs.Prelude.{ℕ, List, [], Option, Some, None, map, slice_index_or}
use Rattle.definitions.specs.Value as value
use Rattle.definitions.specs.Refusal as refusal
use Rattle.definitions.specs.Table as table
use Rattle.definitions.specs.Scanning.{part_of}
use Rattle.catalog.specs.declared.fault.CreateFault.{CreateFault}
use Rattle.catalog.specs.declared.fault.CreateFault.TheVariants as c
use Rattle.catalog.specs.declared.fault.ListFault.{ListFault}
use Rattle.catalog.specs.declared.fault.ListFault.TheVariants as l
use Rattle.catalog.specs.declared.fault.IndexFault.{IndexFault}
use Rattle.catalog.specs.declared.fault.IndexFault.TheVariants as i
use Rattle.catalog.specs.declared.fault.TableStatisticsFault.{TableStatisticsFault}
use Rattle.catalog.specs.declared.fault.TableStatisticsFault.TheVariants as t
use Rattle.catalog.specs.declared.fault.StatisticsFault.{StatisticsFault}
use Rattle.catalog.specs.declared.fault.StatisticsFault.TheVariants as f

-- the refusals that faults are; none where memory was wanting
abbrev pub create_refusal : CreateFault → Option refusal.Refusal
create_refusal c.TableTaken = Some refusal.NameTaken
create_refusal (c.ColumnTwice column) = Some refusal.NameTaken
create_refusal c.ManyTables = Some refusal.OverLimit
create_refusal c.ManyColumns = Some refusal.OverLimit
create_refusal c.ManyKeys = Some refusal.OverLimit
create_refusal (c.TwoPrimaryKeys column) = Some refusal.OverLimit
create_refusal (c.Type column fault) = Some refusal.OverLimit
create_refusal c.Memory = None

abbrev pub list_refusal : ListFault → Option refusal.Refusal
list_refusal l.NoTable = Some refusal.NotFound
list_refusal (l.NoColumn column) = Some refusal.NotFound
list_refusal l.Empty = Some refusal.NotFound
list_refusal l.ManyColumns = Some refusal.OverLimit
list_refusal l.Memory = None

abbrev pub index_refusal : IndexFault → Option refusal.Refusal
index_refusal (i.List fault) = list_refusal fault
index_refusal (i.ColumnTwice column) = Some refusal.NameTaken
index_refusal (i.ListTaken index) = Some refusal.NameTaken
index_refusal i.ManyIndexes = Some refusal.OverLimit
index_refusal (i.Repeated key) = Some refusal.NullOrRepeated
index_refusal i.Memory = None

abbrev pub table_statistics_refusal : TableStatisticsFault → refusal.Refusal
table_statistics_refusal t.NoTable = refusal.NotFound
table_statistics_refusal t.Rows = refusal.OverLimit
table_statistics_refusal t.Pages = refusal.OverLimit

abbrev pub statistics_refusal : StatisticsFault → Option refusal.Refusal
statistics_refusal (f.List fault) = list_refusal fault
statistics_refusal f.NoIndex = Some refusal.NotFound
statistics_refusal f.Keys = Some refusal.OverLimit
statistics_refusal f.Pages = Some refusal.OverLimit
statistics_refusal f.Texts = Some refusal.MixedKinds
statistics_refusal (f.Unfit end) = Some refusal.OverLimit
statistics_refusal f.Falls = Some refusal.OverLimit

-- the value in a row and a column of a table
abbrev pub cell_at : table.Table → (row column : ℕ) → value.Value
cell_at t row column = slice_index_or (slice_index_or t.rows row []) column value.Null

-- the values of a column in so many rows, from one on
abbrev pub cells_in : table.Table → (column first rows : ℕ) → List value.Value
cells_in t column first rows = part_of first rows (map (λ row. slice_index_or row column value.Null) t.rows)
