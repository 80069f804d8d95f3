-- Tables whose statistics are counted, and the indexes of new ones.
use Rattle.std.proofs.Common.{◌≡◌, ◌∙◌, refl, sym, ap, ℕ, ◌+◌, ◌<◌, ◌≤◌, List, [], ◌∷◌, ◌++◌, Bool, true, false, cond, length, map, arith}
use Rattle.std.specs.Prelude.{IsFalse, bytes_eq, count_by}
use Rattle.std.specs.List.{AllByRecursion}
use Rattle.std.proofs.lemmas.List.{length-map, length-append}
use Rattle.std.proofs.lemmas.List.Sums.{sum_by-cons}
use Rattle.std.proofs.lemmas.Slice.Eq.{bytes_eq-Decides}
use Rattle.definitions.specs.Limits.{most_columns, most_rows, most_indexes, most_index_columns}
use Rattle.definitions.specs.Value.{IsType}
use Rattle.definitions.specs.Statement.{Name, ColumnDefinition}
use Rattle.definitions.specs.Table.{Column, Row, Index, Table, is_key, is_primary, IsRow, AreDistinct, column_names}
use Rattle.definitions.specs.Key.{key_of, AreUnique}
use Rattle.definitions.specs.Statistics.{index_statistics, counted_statistics}
use Rattle.definitions.specs.Change.{declared_column, new_index, key_indexes, new_table, with_rows}
use Rattle.definitions.specs.Faults.{count_of, definition_names}
use Rattle.definitions.specs.Invariant.{IsIndex, IsTable, AreApart, KeepsNullsOut}
use Rattle.definitions.specs.Loading.{Record, AllLoad}
use Rattle.definitions.proofs.StatisticBounds.{table_pages, index_pages, index_keys, index_range}
use Rattle.definitions.proofs.Repeats.{AreKeysUnique, keys_loaded, fitting_all, all_left, all_right, all_append}

-- an index, whatever its statistics
pub record IsBare (t : Table) (i : Index) : Type 0 where
  pub some : 1 ≤ length i.columns
  pub columns : length i.columns ≤ most_index_columns
  pub there : AllByRecursion (λ n. n < length t.columns) i.columns
  pub unique : i.unique ≡ true → AreUnique (map (key_of i.columns) t.rows)

-- a table, whatever its statistics
pub record IsUncounted (t : Table) : Type 0 where
  pub columns : length t.columns ≤ most_columns
  pub rows : length t.rows ≤ most_rows
  pub indexes : length t.indexes ≤ most_indexes
  pub primary : count_by (λ (c : Column). is_primary c.constraint) t.columns ≤ 1
  pub distinct : AreDistinct (column_names t.columns)
  pub types : AllByRecursion (λ (c : Column). IsType c.type) t.columns
  pub typed : AllByRecursion (IsRow t.columns) t.rows
  pub no_nulls : AllByRecursion (KeepsNullsOut t.columns) t.rows
  pub each_index : AllByRecursion (IsBare t) t.indexes
  pub apart : AreApart t.indexes

abbrev recounted : Table → Index → Index
recounted t i = record i { statistics = index_statistics t.columns t.rows i.columns }

pub counted_index : (t u : Table) (i : Index) → u.columns ≡ t.columns → u.rows ≡ t.rows → AllByRecursion (λ (c : Column). IsType c.type) t.columns → AllByRecursion (IsRow t.columns) t.rows → length t.rows ≤ most_rows
    → IsBare t i → IsIndex u (record i { statistics = index_statistics t.columns t.rows i.columns })
counted_index t u i e f types typed few b = record {
  some = b.some;
  columns = b.columns;
  there = rw e b.there;
  keys = index_keys t.columns t.rows i.columns few;
  pages = index_pages t.columns t.rows i.columns b.columns types few;
  range = rw e (index_range t.columns t.rows i.columns b.there typed);
  unique = rw f b.unique;
}

each_counted : (t u : Table) (indexes : List Index) → u.columns ≡ t.columns → u.rows ≡ t.rows → IsUncounted t → AllByRecursion (IsBare t) indexes → AllByRecursion (IsIndex u) (map (recounted t) indexes)
each_counted t u [] e f s h = tt
each_counted t u (i ∷ indexes) e f s h = (counted_index t u i e f s.types s.typed s.rows h.0, each_counted t u indexes e f s h.1)

still_apart : (t : Table) (i : Index) (indexes : List Index) → AllByRecursion (λ (j : Index). IsFalse (bytes_eq i.columns j.columns)) indexes → AllByRecursion (λ (j : Index). IsFalse (bytes_eq i.columns j.columns)) (map (recounted t) indexes)
still_apart t i [] h = tt
still_apart t i (j ∷ indexes) h = (h.0, still_apart t i indexes h.1)

apart_counted : (t : Table) (indexes : List Index) → AreApart indexes → AreApart (map (recounted t) indexes)
apart_counted t [] h = tt
apart_counted t (i ∷ indexes) h = (still_apart t i indexes h.0, apart_counted t indexes h.1)

pub counted_is_table : (t : Table) → IsUncounted t → IsTable (counted_statistics t)
counted_is_table t s = record {
  columns = s.columns;
  rows = s.rows;
  indexes = omega (arith, s.indexes, length-map t.indexes (recounted t));
  primary = s.primary;
  distinct = s.distinct;
  types = s.types;
  typed = s.typed;
  no_nulls = s.no_nulls;
  each_index = each_counted t (counted_statistics t) t.indexes refl refl s s.each_index;
  apart = apart_counted t t.indexes s.apart;
  row_count = omega (arith, s.rows);
  page_count = table_pages t.columns t.rows s.columns s.types s.rows;
}

-- ---- LOAD

bare_indexes : (t : Table) (rows : List Row) (indexes : List Index) → AllByRecursion (IsIndex t) indexes → AreKeysUnique indexes (t.rows ++ rows) → AllByRecursion (IsBare (record t { rows = t.rows ++ rows })) indexes
bare_indexes t rows [] h u = tt
bare_indexes t rows (i ∷ indexes) h u =
    (record { some = h.0.some; columns = h.0.columns; there = h.0.there; unique = u.0 }, bare_indexes t rows indexes h.1 u.1)

unique_now : (t : Table) (indexes : List Index) → AllByRecursion (IsIndex t) indexes → AreKeysUnique indexes t.rows
unique_now t [] h = tt
unique_now t (i ∷ indexes) h = (h.0.unique, unique_now t indexes h.1)

pub loaded_is_table : (t : Table) (records : List Record) (rows : List Row) → IsTable t → AllLoad t t.rows records rows → length t.rows + length rows ≤ most_rows → IsTable (with_rows t rows)
loaded_is_table t records rows s a few =
    let fits = fitting_all t t.rows records rows a in
    counted_is_table (record t { rows = t.rows ++ rows }) (record {
      columns = s.columns;
      rows = omega (arith, few, length-append t.rows rows);
      indexes = s.indexes;
      primary = s.primary;
      distinct = s.distinct;
      types = s.types;
      typed = all_append (IsRow t.columns) t.rows rows s.typed (all_left (IsRow t.columns) (KeepsNullsOut t.columns) rows fits);
      no_nulls = all_append (KeepsNullsOut t.columns) t.rows rows s.no_nulls (all_right (IsRow t.columns) (KeepsNullsOut t.columns) rows fits);
      each_index = bare_indexes t rows t.indexes s.each_index (keys_loaded t t.rows records rows (unique_now t t.indexes s.each_index) a);
      apart = s.apart;
    })

-- ---- CREATE TABLE

-- an index of one column, which has one of these numbers
abbrev IsKeyOf : (from to : ℕ) → Index → Type 0
IsKeyOf from to i = (n : ℕ) × (i.columns ≡ n ∷ []) × (from ≤ n) × (n < to)

wider : (from to : ℕ) (indexes : List Index) → AllByRecursion (IsKeyOf (from + 1) to) indexes → AllByRecursion (IsKeyOf from to) indexes
wider from to [] h = tt
wider from to (i ∷ indexes) h = let (n, e, l, m) = h.0 in ((n, e, omega (arith, l), m), wider from to indexes h.1)

keys_by : (b : Bool) (from to : ℕ) (indexes : List Index) → from < to → AllByRecursion (IsKeyOf (from + 1) to) indexes → AllByRecursion (IsKeyOf from to) (cond b (new_index true (from ∷ []) ∷ indexes) indexes)
keys_by true from to indexes l h = ((from, refl, omega arith, l), wider from to indexes h)
keys_by false from to indexes l h = wider from to indexes h

keys_numbered : (from to : ℕ) (ds : List ColumnDefinition) → to ≡ from + length ds → AllByRecursion (IsKeyOf from to) (key_indexes from ds)
keys_numbered from to [] e = tt
keys_numbered from to (d ∷ ds) e = keys_by (is_key d.constraint) from to (key_indexes (from + 1) ds) (omega (arith, e)) (keys_numbered (from + 1) to ds (omega (arith, e)))

differ : (b : Bool) → (b ≡ true → ⊥) → b ≡ false
differ true h = absurd (h refl)
differ false h = refl

first_same : (a b : ℕ) → a ∷ [] ≡ b ∷ [] → a < b → ⊥
first_same a b e l = let k : a ≡ b = cc in omega (arith, k, l)

two_apart : (a b : ℕ) → a < b → bytes_eq (a ∷ []) (b ∷ []) ≡ false
two_apart a b l = differ (bytes_eq (a ∷ []) (b ∷ [])) (λ h. first_same a b ((bytes_eq-Decides (a ∷ []) (b ∷ [])).0 h) l)

apart_from : (from to : ℕ) (i : Index) (indexes : List Index) → i.columns ≡ from ∷ [] → AllByRecursion (IsKeyOf (from + 1) to) indexes → AllByRecursion (λ (j : Index). IsFalse (bytes_eq i.columns j.columns)) indexes
apart_from from to i [] e h = tt
apart_from from to i (j ∷ indexes) e h = let (n, same, l, m) = h.0 in (rw (e, same) (two_apart from n (omega (arith, l))), apart_from from to i indexes e h.1)

apart_by : (b : Bool) (from to : ℕ) (indexes : List Index) → AllByRecursion (IsKeyOf (from + 1) to) indexes → AreApart indexes → AreApart (cond b (new_index true (from ∷ []) ∷ indexes) indexes)
apart_by true from to indexes h a = (apart_from from to (new_index true (from ∷ [])) indexes refl h, a)
apart_by false from to indexes h a = a

keys_apart : (from to : ℕ) (ds : List ColumnDefinition) → to ≡ from + length ds → AreApart (key_indexes from ds)
keys_apart from to [] e = tt
keys_apart from to (d ∷ ds) e = apart_by (is_key d.constraint) from to (key_indexes (from + 1) ds) (keys_numbered (from + 1) to ds (omega (arith, e))) (keys_apart (from + 1) to ds (omega (arith, e)))

count_by_one : (b : Bool) (from : ℕ) (indexes : List Index) → length (cond b (new_index true (from ∷ []) ∷ indexes) indexes) ≡ cond b 1 0 + length indexes
count_by_one true from indexes = omega arith
count_by_one false from indexes = omega arith

pub keys_counted : (from : ℕ) (ds : List ColumnDefinition) → length (key_indexes from ds) ≡ count_of is_key ds
keys_counted from [] = refl
keys_counted from (d ∷ ds) =
    count_by_one (is_key d.constraint) from (key_indexes (from + 1) ds) ∙ ap (λ n. cond (is_key d.constraint) 1 0 + n) (keys_counted (from + 1) ds)
    ∙ sym (sum_by-cons (λ (c : ColumnDefinition). cond (is_key c.constraint) 1 0) d ds)

pub primary_counted : (ds : List ColumnDefinition) → count_by (λ (c : Column). is_primary c.constraint) (map declared_column ds) ≡ count_of is_primary ds
primary_counted [] = refl
primary_counted (d ∷ ds) =
    sum_by-cons (λ (c : Column). cond (is_primary c.constraint) 1 0) (declared_column d) (map declared_column ds) ∙ ap (λ n. cond (is_primary d.constraint) 1 0 + n) (primary_counted ds)
    ∙ sym (sum_by-cons (λ (c : ColumnDefinition). cond (is_primary c.constraint) 1 0) d ds)

names_of : (ds : List ColumnDefinition) → column_names (map declared_column ds) ≡ definition_names ds
names_of [] = refl
names_of (d ∷ ds) = ap (λ ns. d.name ∷ ns) (names_of ds)

types_of : (ds : List ColumnDefinition) → AllByRecursion (λ (d : ColumnDefinition). IsType d.type) ds → AllByRecursion (λ (c : Column). IsType c.type) (map declared_column ds)
types_of [] h = tt
types_of (d ∷ ds) h = (h.0, types_of ds h.1)

abbrev bare_table : Name → List ColumnDefinition → Table
bare_table name ds = record { name = name; columns = map declared_column ds; indexes = key_indexes 0 ds; rows = []; statistics = record { rows = 0; pages = 1 } }

bare_keys : (name : Name) (ds : List ColumnDefinition) (indexes : List Index) → AllByRecursion (IsKeyOf 0 (length ds)) indexes → AllByRecursion (IsBare (bare_table name ds)) indexes
bare_keys name ds [] h = tt
bare_keys name ds (i ∷ indexes) h =
    let (n, e, l, m) = h.0 in
    let there : AllByRecursion (λ k. k < length (map declared_column ds)) (n ∷ []) = (omega (arith, m, length-map ds declared_column), tt) in
    (record { some = omega (arith, ap length e); columns = omega (arith, ap length e); there = rw e there; unique = λ x. tt }, bare_keys name ds indexes h.1)

pub new_is_table : (name : Name) (ds : List ColumnDefinition) → length ds ≤ most_columns → AreDistinct (definition_names ds) → AllByRecursion (λ (d : ColumnDefinition). IsType d.type) ds
    → count_of is_key ds ≤ most_indexes → count_of is_primary ds ≤ 1 → IsTable (new_table name ds)
new_is_table name ds narrow distinct types keys primary = counted_is_table (bare_table name ds) (record {
  columns = omega (arith, narrow, length-map ds declared_column);
  rows = omega arith;
  indexes = omega (arith, keys, keys_counted 0 ds);
  primary = omega (arith, primary, primary_counted ds);
  distinct = rw (names_of ds) distinct;
  types = types_of ds types;
  typed = tt;
  no_nulls = tt;
  each_index = bare_keys name ds (key_indexes 0 ds) (keys_numbered 0 (length ds) ds (omega arith));
  apart = keys_apart 0 (length ds) ds (omega arith);
})
