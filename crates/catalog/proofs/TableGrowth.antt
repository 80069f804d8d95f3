-- A table with the rows of a file behind its own.
use Rattle.std.proofs.Common.{◌≡◌, ◌∙◌, refl, sym, ap, ap₂, ℕ, ◌+◌, ◌≤◌, List, [], ◌∷◌, ◌++◌, length, map, arith}
use Rattle.std.specs.List.{AllByRecursion}
use Rattle.std.proofs.lemmas.List.{length-append, length-map}
use Rattle.definitions.specs.Limits.{most_columns, most_rows}
use Rattle.definitions.specs.Value.{IsType}
use Rattle.definitions.specs.Statement.{Name}
use Rattle.definitions.specs.Table.{Column, Row, Index, Table, TableStatistics}
use Rattle.definitions.specs.Statistics.{index_statistics, table_statistics, row_width, pages_for}
use Rattle.definitions.specs.Change.{with_rows}
use Rattle.definitions.specs.Invariant.{IsTable}
use Rattle.definitions.specs.Loading as load
use Rattle.definitions.specs.Loading.{Record, AllRead, AllLoad}
use Rattle.definitions.proofs.Counting.{loaded_is_table}
use Rattle.loading.specs.Stored.{StoredColumn, AreFilled, Extends, cut_to, headers, rows_of}
use Rattle.loading.proofs.Pushing.{cut_long, cut_same}
use Rattle.loading.specs.Stored as stored
use Rattle.loading.proofs.Loading.{grows}
use Rattle.indexes.specs.Indexes.{StoredIndex, AreIndexColumns, IsIndexOn}
use Rattle.indexes.specs.Extension.{AreExtended}
use Rattle.catalog.specs.Growth.{IsOf, IsOrdered, AreOrdered, Grows}
use Rattle.catalog.specs.Loads.{LoadsTable, RefusesTable}
use Rattle.catalog.specs.declared.fault.LoadFault.{LoadFault}
use Rattle.catalog.specs.Tables.{table_of}
use Rattle.catalog.specs.declared.growth.Grown.{Grown}
use Rattle.catalog.proofs.Rows.{of_view, rows_many}

-- records that load read as rows
read_all : (t : Table) (before : List Row) (records : List Record) (rows : List Row) → AllLoad t before records rows → AllRead t.columns records rows
read_all t before records rows (load.none b) = load.none
read_all t before records rows (load.next b one more row rest (load.unread r s e) a) = absurd cc
read_all t before records rows (load.next b one more row rest (load.repeated row' s n e) a) = absurd cc
read_all t before records rows (load.next b one more row rest (load.row row' s n e) a) =
    let same : row ≡ row' = cc in
    load.next one more row rest (rw same s) (read_all t (before ++ row ∷ []) more rest a)

abbrev index_of : StoredIndex → Index
index_of i = i.index

-- indexes of all rows are those of the table, counted anew
re_indexed : (columns : List Column) (rows : List Row) (is made : List StoredIndex) → AreExtended columns rows is made
    → map index_of made ≡ map (λ (i : Index). record i { statistics = index_statistics columns rows i.columns }) (map index_of is)
re_indexed columns rows [] [] h = refl
re_indexed columns rows [] (x ∷ made) h = absurd h
re_indexed columns rows (i ∷ is) [] h = absurd h
re_indexed columns rows (i ∷ is) (x ∷ made) h = ap₂ (λ y ys. y ∷ ys) h.0.is (re_indexed columns rows is made h.1)

-- and they have all rows in order
ordered_one : (columns : List Column) (rows : List Row) (items : List StoredColumn) (width m : ℕ) (old new : StoredIndex) → length items ≡ width → rows_of m items ≡ rows → AreIndexColumns width old.index.columns
    → IsIndexOn columns rows old.index.columns old.index.unique new → IsOrdered items m new
ordered_one columns rows items width m old new w e on i =
    let same : new.index.columns ≡ old.index.columns = ap (λ (x : Index). x.columns) i.is in
    let unique : new.index.unique ≡ old.index.unique = ap (λ (x : Index). x.unique) i.is in
    record {
      on = rw (w, same) on;
      run = rw (e, same) i.run;
      once = λ u. rw (e, same) (i.once (sym unique ∙ u));
    }

all_ordered : (columns : List Column) (rows : List Row) (cs items : List StoredColumn) (n m : ℕ) (is made : List StoredIndex) → length items ≡ length cs → rows_of m items ≡ rows → AreOrdered cs n is → AreExtended columns rows is made → AreOrdered items m made
all_ordered columns rows cs items n m [] [] w e o h = tt
all_ordered columns rows cs items n m [] (x ∷ made) w e o h = absurd h
all_ordered columns rows cs items n m (i ∷ is) [] w e o h = absurd h
all_ordered columns rows cs items n m (i ∷ is) (x ∷ made) w e o h = (ordered_one columns rows items (length cs) m i x w e o.0.on h.0, all_ordered columns rows cs items n m is made w e o.1 h.1)

pub record LoadedTable (name : Name) (bytes : List ℕ) (items : List StoredColumn) (made : List StoredIndex) (m count : ℕ) (f : TableStatistics) (t : Table) : Type 0 where
  pub filled : AreFilled m items
  pub columns : headers items ≡ t.columns
  pub few : m ≤ most_rows
  pub ordered : AreOrdered items m made
  pub valid : IsTable (table_of name items made m f)
  pub loads : LoadsTable t bytes count (λ rows. table_of name items made m f ≡ with_rows t rows)

-- what LOAD has made of columns and indexes, before the statistics are counted
pub record Loading (items : List StoredColumn) (made : List StoredIndex) (m : ℕ) (t : Table) (rows : List Row) : Type 0 where
  pub filled : AreFilled m items
  pub few : m ≤ most_rows
  pub columns : headers items ≡ t.columns
  pub all_rows : rows_of m items ≡ t.rows ++ rows
  pub ordered : AreOrdered items m made
  pub many : m ≡ length (t.rows ++ rows)

pub loading : (bytes : List ℕ) (cs new items : List StoredColumn) (is : List StoredIndex) (n : ℕ) (t : Table) (grown : Grown) → IsOf cs is n t → AreFilled n cs → AreOrdered cs n is → items ≡ new → (g : Grows t bytes is cs new grown)
    → Loading items grown.indexes.items (n + grown.rows) t g.rows
loading bytes cs new items is n t grown o filled ordered e g =
    let read : AllRead (headers cs) g.records g.rows = rw (← o.columns) (read_all t t.rows g.records g.rows g.loads) in
    let h = grows (headers cs) n cs g.records g.rows refl filled read in
    let is_new : items ≡ stored.with_rows cs g.rows = e ∙ g.added in
    let same : headers items ≡ headers cs = ap headers is_new ∙ h.same_headers in
    let all : rows_of (n + grown.rows) items ≡ t.rows ++ g.rows = ap₂ (λ m xs. rows_of (n + m) xs) g.count is_new ∙ h.all_rows ∙ ap (λ rows. rows ++ g.rows) (sym o.rows) in
    let wide : length items ≡ length cs = sym (length-map items (λ (c : StoredColumn). c.header)) ∙ ap length same ∙ length-map cs (λ (c : StoredColumn). c.header) in
    let now = h.filled in
    record {
      filled = rw (g.count, is_new) now;
      few = omega (arith, g.few, g.count, rows_many cs is n t o);
      columns = same ∙ sym o.columns;
      all_rows = all;
      ordered = all_ordered t.columns (t.rows ++ g.rows) cs items n (n + grown.rows) is grown.indexes.items wide all ordered g.extended;
      many = omega (arith, g.count, rows_many cs is n t o, length-append t.rows g.rows);
    }

pub loaded_table : (name : Name) (bytes : List ℕ) (cs new items : List StoredColumn) (is : List StoredIndex) (n : ℕ) (before f : TableStatistics) (t : Table) (grown : Grown) → table_of name cs is n before ≡ t → AreFilled n cs → AreOrdered cs n is → IsTable t
    → items ≡ new → Grows t bytes is cs new grown → f ≡ record { rows = n + grown.rows; pages = pages_for (n + grown.rows) (row_width (headers items)) } → LoadedTable name bytes items grown.indexes.items (n + grown.rows) grown.rows f t
loaded_table name bytes cs new items is n before f t grown v filled ordered valid e g c =
    let o = of_view name cs is n before t v in
    let now = loading bytes cs new items is n t grown o filled ordered e g in
    let statistics : f ≡ table_statistics t.columns (t.rows ++ g.rows) = c ∙ ap₂ (λ m cs'. record { rows = m; pages = pages_for m (row_width cs') }) now.many now.columns in
    let indexes : map index_of grown.indexes.items ≡ map (λ (i : Index). record i { statistics = index_statistics t.columns (t.rows ++ g.rows) i.columns }) t.indexes =
    re_indexed t.columns (t.rows ++ g.rows) is grown.indexes.items g.extended ∙ ap (map (λ (i : Index). record i { statistics = index_statistics t.columns (t.rows ++ g.rows) i.columns })) (sym o.indexes) in
    let whole : table_of name items grown.indexes.items (n + grown.rows) f ≡ with_rows t g.rows =
    ap (λ (x : Table). record x { columns = headers items; indexes = map index_of grown.indexes.items; rows = rows_of (n + grown.rows) items; statistics = f }) v
    ∙ ap₂ (λ cs' xs. record t { columns = cs'; indexes = xs; rows = rows_of (n + grown.rows) items; statistics = f }) now.columns indexes
    ∙ ap₂ (λ rs x. record t { indexes = map (λ (i : Index). record i { statistics = index_statistics t.columns (t.rows ++ g.rows) i.columns }) t.indexes; rows = rs; statistics = x }) now.all_rows statistics in
    record {
      filled = now.filled;
      columns = now.columns;
      few = now.few;
      ordered = now.ordered;
      valid = rw whole (loaded_is_table t g.records g.rows valid g.loads g.few);
      loads = (g.records, g.rows, g.read, g.loads, g.few, g.count, whole);
    }

-- what is said of lent columns and indexes is said of a table's own
pub own_growth : (bytes : List ℕ) (cs cs' new : List StoredColumn) (is is' : List StoredIndex) (n : ℕ) (t : Table) (grown : Grown) → cs' ≡ cs → is' ≡ is → ((u : Table) → IsOf cs' is' n u → Grows u bytes is' cs' new grown) → IsOf cs is n t → Grows t bytes is cs new grown
own_growth bytes cs cs' new is is' n t grown e f h o = let all = rw (e, f) at h in all t o

pub own_refusal : (bytes : List ℕ) (cs cs' : List StoredColumn) (is is' : List StoredIndex) (n : ℕ) (t : Table) (fault : LoadFault) → cs' ≡ cs → is' ≡ is → ((u : Table) → IsOf cs' is' n u → RefusesTable u bytes fault) → IsOf cs is n t → RefusesTable t bytes fault
own_refusal bytes cs cs' is is' n t fault e f h o = let all = rw (e, f) at h in all t o

-- ---- the same, of lent columns and indexes

pub loading_own : (name : Name) (bytes : List ℕ) (cs cs' new items : List StoredColumn) (is is' : List StoredIndex) (n : ℕ) (before : TableStatistics) (t : Table) (grown : Grown) → table_of name cs is n before ≡ t → AreFilled n cs → AreOrdered cs n is
    → cs' ≡ cs → is' ≡ is → ((u : Table) → IsOf cs' is' n u → Grows u bytes is' cs' new grown) → items ≡ new → (rows : List Row) × Loading items grown.indexes.items (n + grown.rows) t rows
loading_own name bytes cs cs' new items is is' n before t grown v filled ordered e f h i =
    let o = of_view name cs is n before t v in
    let g = own_growth bytes cs cs' new is is' n t grown e f h o in
    (g.rows, loading bytes cs new items is n t grown o filled ordered i g)

pub loaded_own : (name : Name) (bytes : List ℕ) (cs cs' new items : List StoredColumn) (is is' : List StoredIndex) (n : ℕ) (before statistics : TableStatistics) (t : Table) (grown : Grown) → table_of name cs is n before ≡ t → AreFilled n cs → AreOrdered cs n is
    → IsTable t → cs' ≡ cs → is' ≡ is → ((u : Table) → IsOf cs' is' n u → Grows u bytes is' cs' new grown) → items ≡ new → statistics ≡ record { rows = n + grown.rows; pages = pages_for (n + grown.rows) (row_width (headers items)) }
    → LoadedTable name bytes items grown.indexes.items (n + grown.rows) grown.rows statistics t
loaded_own name bytes cs cs' new items is is' n before statistics t grown v filled ordered valid e f h i j =
    loaded_table name bytes cs new items is n before statistics t grown v filled ordered valid i (own_growth bytes cs cs' new is is' n t grown e f h (of_view name cs is n before t v)) j

pub types_now : (items : List StoredColumn) (made : List StoredIndex) (m : ℕ) (t : Table) (rows : List Row) → IsTable t → Loading items made m t rows → AllByRecursion (λ (c : Column). IsType c.type) (headers items) × (length items ≤ most_columns)
types_now items made m t rows s now =
    (rw now.columns s.types, omega (arith, s.columns, ap length now.columns, length-map items (λ (c : StoredColumn). c.header)))

-- ---- a table without the rows that were added

pub columns_back : (cs before after after' items cut : List StoredColumn) (n : ℕ) → AreFilled n cs → before ≡ cs → Extends before after → after' ≡ after → cut ≡ map (cut_to n) after' → items ≡ cut → items ≡ cs
columns_back cs before after after' items cut n f h e i j k =
    let own = rw h at e in
    k ∙ cut_same n cs after cut f own (j ∙ ap (map (cut_to n)) i)

pub columns_long : (cs before after after' : List StoredColumn) (n : ℕ) → AreFilled n cs → before ≡ cs → Extends before after → after' ≡ after → AllByRecursion (λ (c : StoredColumn). n ≤ length c.values) after'
columns_long cs before after after' n f h e i = let own = rw h at e in let long = cut_long n cs after f own in rw i long

pub back_ordered : (cs items : List StoredColumn) (n : ℕ) (is : List StoredIndex) → items ≡ cs → AreOrdered cs n is → AreOrdered items n is
back_ordered cs items n is e o = rw e o
