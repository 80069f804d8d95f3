-- A table as CREATE TABLE makes it.
use Rattle.std.proofs.Common.{◌≡◌, ◌∙◌, refl, ap, ap₂, List, [], ◌∷◌, map}
use Rattle.std.specs.List.{AllByRecursion}
use Rattle.definitions.specs.Value.{IsType}
use Rattle.definitions.specs.Statement.{Name, ColumnDefinition}
use Rattle.definitions.specs.Table.{Column, TableStatistics, column_names}
use Rattle.definitions.specs.Faults.{definition_names}
use Rattle.definitions.specs.Statistics.{row_width, pages_for}
use Rattle.definitions.specs.Change.{declared_column, key_indexes, new_table}
use Rattle.definitions.specs.Invariant.{IsTable}
use Rattle.definitions.proofs.Counting.{new_is_table}
use Rattle.loading.specs.Stored.{StoredColumn, headers}
use Rattle.indexes.specs.Indexes.{StoredIndex}
use Rattle.catalog.specs.Creates.{AreJudged, AreTypes, empty_column, without_rows}
use Rattle.catalog.specs.Tables.{table_of}
use Rattle.catalog.proofs.Creating.{empty_headers}

columns_typed : (ds : List ColumnDefinition) → AreTypes ds → AllByRecursion (λ (c : Column). IsType c.type) (map declared_column ds)
columns_typed [] h = tt
columns_typed (d ∷ ds) h = (h.0, columns_typed ds h.1)

-- the names of definitions are those of the columns that they make
pub names_of_new : (ds : List ColumnDefinition) → definition_names ds ≡ column_names (headers (map empty_column ds))
names_of_new [] = refl
names_of_new (d ∷ ds) = ap (λ ns. d.name ∷ ns) (names_of_new ds)

pub types_of_new : (ds : List ColumnDefinition) → AreTypes ds → AllByRecursion (λ (c : Column). IsType c.type) (headers (map empty_column ds))
types_of_new ds h = rw (empty_headers ds) (columns_typed ds h)

pub new_is : (own name : Name) (ds : List ColumnDefinition) (cs lent lent' : List StoredColumn) (is : List StoredIndex) (f : TableStatistics) → own ≡ name → cs ≡ map empty_column ds → lent ≡ cs → lent' ≡ cs
    → map (λ (i : StoredIndex). i.index) is ≡ without_rows (headers lent) (key_indexes 0 ds) → f ≡ record { rows = 0; pages = pages_for 0 (row_width (headers lent')) } → table_of own cs is 0 f ≡ new_table name ds
new_is own name ds cs lent lent' is f e c l l' i g =
    let columns : headers cs ≡ map declared_column ds = ap headers c ∙ empty_headers ds in
    ap₂ (λ n cs'. record { name = n; columns = cs'; indexes = map (λ (x : StoredIndex). x.index) is; rows = []; statistics = f }) e columns
    ∙ ap₂ (λ xs x. record { name = name; columns = map declared_column ds; indexes = xs; rows = []; statistics = x })
    (i ∙ ap (λ cs'. without_rows (headers cs') (key_indexes 0 ds)) l ∙ ap (λ hs. without_rows hs (key_indexes 0 ds)) columns)
    (g ∙ ap (λ cs'. record { rows = 0; pages = pages_for 0 (row_width (headers cs')) }) l' ∙ ap (λ hs. record { rows = 0; pages = pages_for 0 (row_width hs) }) columns)

pub new_valid : (name : Name) (ds : List ColumnDefinition) → AreJudged ds → AreTypes ds → IsTable (new_table name ds)
new_valid name ds j t = new_is_table name ds j.narrow j.distinct t j.keys j.primary
