-- Each change keeps a database a database.
use Rattle.std.proofs.Common.{◌≡◌, ◌≢◌, ◌∙◌, refl, sym, ap, inl, inr, ℕ, suc, ◌+◌, ◌^◌, ◌<◌, ◌≤◌, List, [], ◌∷◌, ◌++◌, Option, Some, None, Bool, true, false, cond, length, map, arith}
use Rattle.std.specs.Prelude.{◌⊎◌, ℤ, pos, ◌≤ℤ◌, ◌<ℤ◌, ◌*ℤ◌, IsFalse, bytes_eq, slice_get, option_map, option_and_then}
use Rattle.std.specs.List.{AllByRecursion}
use Rattle.std.specs.Ordering.{int_cmp, ordering_reverse, MatchOrdering}
use Rattle.std.specs.Cmp.{int_ranks}
use Rattle.std.specs.declared.cmp.Ordering.{Ordering}
use Rattle.std.specs.declared.cmp.Ordering.TheVariants.{Less, Equal, Greater}
use Rattle.std.proofs.lemmas.List.{length-map, length_push, map-append}
use Rattle.std.proofs.lemmas.Bool.{cases_lt}
use Rattle.std.proofs.lemmas.Bool.Decides.{nat_tests}
use Rattle.std.proofs.lemmas.Int.{ints}
use Rattle.std.proofs.lemmas.Slice.Eq.{bytes_eq-Decides}
use Rattle.definitions.specs.Limits.{most_tables, most_columns, most_indexes, most_index_columns, greatest_precision, greatest_length, greatest_statistic}
use Rattle.definitions.specs.Refusal.{NameTaken, NotFound, OverLimit}
use Rattle.definitions.specs.Value.{Value, Number, SqlType, Smallint, Integer, Numeric, Char, IsType, scale_of, rank}
use Rattle.definitions.specs.Statement.{Name, ColumnDefinition, Range, Statement, CreateTable, CreateIndex, SetTableStatistics, SetIndexStatistics}
use Rattle.definitions.specs.Statement.{GivenStatistics as Given}
use Rattle.definitions.specs.Table.{Column, KeyRange, IndexStatistics, Index, Table, Database, table_named, type_named, column_number, column_numbers, is_key, is_primary, is_on, index_on, AreDistinct}
use Rattle.definitions.specs.Key.{key_of, AreUnique}
use Rattle.definitions.specs.Statistics.{index_statistics}
use Rattle.definitions.specs.Change as made
use Rattle.definitions.specs.Change.{new_table, with_index, with_table_statistics, with_index_statistics, changed, limit_value, KeptAs, RangeKept, StatisticsKept, first_type, Makes}
use Rattle.definitions.specs.IndexFaults as index
use Rattle.definitions.specs.IndexFaults.{Falls}
use Rattle.definitions.specs.Faults as faults
use Rattle.definitions.specs.Faults.{IsAccepted, count_of, definition_names}
use Rattle.definitions.specs.Lists.{AnyOf}
use Rattle.definitions.specs.Invariant.{IsCount, IsPageCount, IsRange, IsIndex, IsTable, IsDatabase, AreApart, type_at}
use Rattle.definitions.proofs.Ranking.{rank_total, rank_as_compared, power_is_positive, scaled}
use Rattle.definitions.proofs.Repeats.{all_append}
use Rattle.definitions.proofs.Counting.{counted_index, new_is_table}

-- ---- databases

abbrev names : Database → List Name
names = map (λ (t : Table). t.name)

apart_push : (n name : Name) (ns : List Name) → AllByRecursion (λ m. IsFalse (bytes_eq n m)) ns → bytes_eq n name ≡ false → AllByRecursion (λ m. IsFalse (bytes_eq n m)) (ns ++ name ∷ [])
apart_push n name [] h e = (e, tt)
apart_push n name (m ∷ ns) h e = (h.0, apart_push n name ns h.1 e)

not_first : (b : Bool) (t : Table) (o : Option Table) → cond b (Some t) o ≡ None → (b ≡ false) × (o ≡ None)
not_first true t o h = absurd cc
not_first false t o h = (refl, h)

distinct_push : (db : Database) (t : Table) → AreDistinct (names db) → table_named db t.name ≡ None → AreDistinct (names (db ++ t ∷ []))
distinct_push [] t h n = (tt, tt)
distinct_push (u ∷ db) t h n =
    let (other, rest) = not_first (bytes_eq u.name t.name) u (table_named db t.name) n in
    (rw (map-append (λ (t : Table). t.name) db (t ∷ [])) (apart_push u.name t.name (names db) h.0 other), distinct_push db t h.1 rest)

pub database_push : (db : Database) (t : Table) → IsDatabase db → IsTable t → length db < most_tables → table_named db t.name ≡ None → IsDatabase (db ++ t ∷ [])
database_push db t s h few n = record {
  tables = omega (arith, few, length_push db t);
  distinct = distinct_push db t s.distinct n;
  each = all_append IsTable db (t ∷ []) s.each (h, tt);
}

-- a change to the table of a name
length_by : (b : Bool) (t u : Table) (ts us : Database) → length ts ≡ length us → length (cond b (u ∷ us) (t ∷ ts)) ≡ suc (length us)
length_by true t u ts us e = refl
length_by false t u ts us e = ap suc e

length-changed : (f : Table → Table) (db : Database) (name : Name) → length (changed f db name) ≡ length db
length-changed f [] name = refl
length-changed f (t ∷ ts) name = length_by (bytes_eq t.name name) t (f t) (changed f ts name) ts (length-changed f ts name)

names_by : (b : Bool) (f : Table → Table) (t : Table) (ts us : Database) → (f t).name ≡ t.name → names us ≡ names ts → names (cond b (f t ∷ ts) (t ∷ us)) ≡ names (t ∷ ts)
names_by true f t ts us e h = ap (λ n. n ∷ names ts) e
names_by false f t ts us e h = ap (λ ns. t.name ∷ ns) h

names-changed : (f : Table → Table) (db : Database) (name : Name) → ((t : Table) → (f t).name ≡ t.name) → names (changed f db name) ≡ names db
names-changed f [] name e = refl
names-changed f (t ∷ ts) name e = names_by (bytes_eq t.name name) f t ts (changed f ts name) (e t) (names-changed f ts name e)

each_by : (b : Bool) (f : Table → Table) (t u : Table) (ts us : Database) (o : Option Table) → cond b (Some t) o ≡ Some u → IsTable (f u) → IsTable t → AllByRecursion IsTable ts → (o ≡ Some u → AllByRecursion IsTable us)
    → AllByRecursion IsTable (cond b (f t ∷ ts) (t ∷ us))
each_by true f t u ts us o n h s a later = let same : t ≡ u = cc in (rw same h, a)
each_by false f t u ts us o n h s a later = (s, later n)

each_changed : (f : Table → Table) (db : Database) (name : Name) (u : Table) → table_named db name ≡ Some u → IsTable (f u) → AllByRecursion IsTable db → AllByRecursion IsTable (changed f db name)
each_changed f [] name u n h a = tt
each_changed f (t ∷ ts) name u n h a = each_by (bytes_eq t.name name) f t u ts (changed f ts name) (table_named ts name) n h a.0 a.1 (λ m. each_changed f ts name u m h a.1)

pub database_changed : (f : Table → Table) (db : Database) (name : Name) (u : Table) → IsDatabase db → table_named db name ≡ Some u → ((t : Table) → (f t).name ≡ t.name) → IsTable (f u) → IsDatabase (changed f db name)
database_changed f db name u s n e h = record {
  tables = omega (arith, s.tables, length-changed f db name);
  distinct = rw (names-changed f db name e) s.distinct;
  each = each_changed f db name u n h s.each;
}

-- the table of a name is a table
valid_by : (b : Bool) (t u : Table) (o : Option Table) → cond b (Some t) o ≡ Some u → IsTable t → (o ≡ Some u → IsTable u) → IsTable u
valid_by true t u o n h later = let same : t ≡ u = cc in rw (← same) h
valid_by false t u o n h later = later n

valid_each : (db : Database) (name : Name) (u : Table) → AllByRecursion IsTable db → table_named db name ≡ Some u → IsTable u
valid_each [] name u a n = absurd cc
valid_each (t ∷ ts) name u a n = valid_by (bytes_eq t.name name) t u (table_named ts name) n a.0 (valid_each ts name u a.1)

pub valid_named : (db : Database) (name : Name) (u : Table) → IsDatabase db → table_named db name ≡ Some u → IsTable u
valid_named db name u s n = valid_each db name u s.each n

-- ---- what an accepted CREATE TABLE has not

both : {A : Type 0} (b : Bool) → A ⊎ ¬ A → ((b ≡ false) × A) ⊎ ¬ ((b ≡ false) × A)
both true h = inr (λ k. let e = k.0 in cc)
both false (inl h) = inl (refl, h)
both false (inr h) = inr (λ k. h k.1)

and_or_not : (A B : Type 0) → A ⊎ ¬ A → B ⊎ ¬ B → (A × B) ⊎ ¬ (A × B)
and_or_not A B (inl a) (inl b) = inl (a, b)
and_or_not A B (inl a) (inr b) = inr (λ k. b k.1)
and_or_not A B (inr a) b = inr (λ k. a k.0)

three_or_not : (A B C : Type 0) → A ⊎ ¬ A → B ⊎ ¬ B → C ⊎ ¬ C → (A × B × C) ⊎ ¬ (A × B × C)
three_or_not A B C (inl a) (inl b) (inl c) = inl (a, b, c)
three_or_not A B C (inl a) (inl b) (inr c) = inr (λ k. c k.2)
three_or_not A B C (inl a) (inr b) c = inr (λ k. b k.1)
three_or_not A B C (inr a) b c = inr (λ k. a k.0)

not_below : (a b : ℕ) → (b < a) ⊎ (a ≤ b) → (a ≤ b) ⊎ ¬ (a ≤ b)
not_below a b (inl h) = inr (λ k. omega (arith, h, k))
not_below a b (inr h) = inl h

past : (a b : ℕ) → ¬ (a ≤ b) → (b < a) ⊎ (a ≤ b) → b < a
past a b h (inl k) = k
past a b h (inr k) = absurd (h k)

-- what is not within is beyond
beyond : (a b : ℕ) → ¬ (a ≤ b) → b < a
beyond a b h = past a b h (cases_lt b a)

nothing : (given : List Name) → length given < 1 → given ≡ []
nothing [] h = refl
nothing (n ∷ ns) h = absurd (omega (arith, h))

apart_or_not : (n : Name) (ns : List Name) → AllByRecursion (λ m. IsFalse (bytes_eq n m)) ns ⊎ ¬ (AllByRecursion (λ m. IsFalse (bytes_eq n m)) ns)
apart_or_not n [] = inl tt
apart_or_not n (m ∷ ns) = both (bytes_eq n m) (apart_or_not n ns)

distinct_or_not : (ns : List Name) → AreDistinct ns ⊎ ¬ (AreDistinct ns)
distinct_or_not [] = inl tt
distinct_or_not (n ∷ ns) = and_or_not _ _ (apart_or_not n ns) (distinct_or_not ns)

within_or_not : (a b : ℕ) → (a ≤ b) ⊎ ¬ (a ≤ b)
within_or_not a b = not_below a b (cases_lt b a)

type_or_not : (t : SqlType) → IsType t ⊎ ¬ (IsType t)
type_or_not Smallint = inl tt
type_or_not Integer = inl tt
type_or_not (Numeric p s) = three_or_not _ _ _ (within_or_not 1 p) (within_or_not p greatest_precision) (within_or_not s p)
type_or_not (Char n) = and_or_not _ _ (within_or_not 1 n) (within_or_not n greatest_length)

is_typed : (d : ColumnDefinition) → IsType d.type ⊎ ¬ (IsType d.type) → (¬ (IsType d.type) → ⊥) → IsType d.type
is_typed d (inl h) n = h
is_typed d (inr h) n = absurd (n h)

pub all_types : (ds : List ColumnDefinition) → (AnyOf (λ (d : ColumnDefinition). ¬ (IsType d.type)) ds → ⊥) → AllByRecursion (λ (d : ColumnDefinition). IsType d.type) ds
all_types [] h = tt
all_types (d ∷ ds) h = (is_typed d (type_or_not d.type) (λ n. h (inl n)), all_types ds (λ a. h (inr a)))

surely : (A : Type 0) → A ⊎ ¬ A → (¬ A → ⊥) → A
surely A (inl h) n = h
surely A (inr h) n = absurd (n h)

none_named : (o : Option Table) → ((t : Table) → o ≡ Some t → ⊥) → o ≡ None
none_named None h = refl
none_named (Some t) h = absurd (h t refl)

pub created_database : (db : Database) (name : Name) (ds : List ColumnDefinition) → IsDatabase db → IsAccepted db (CreateTable name ds) → IsDatabase (db ++ new_table name ds ∷ [])
created_database db name ds s a =
    let valid : IsTable (new_table name ds) = new_is_table name ds
    (surely _ (within_or_not (length ds) most_columns) (λ n. a OverLimit (faults.many_columns name ds (beyond _ _ n))))
    (surely _ (distinct_or_not (definition_names ds)) (λ n. a NameTaken (faults.column_twice name ds n)))
    (all_types ds (λ n. a OverLimit (faults.no_type name ds n)))
    (surely _ (within_or_not (count_of is_key ds) most_indexes) (λ n. a OverLimit (faults.many_keys name ds (beyond _ _ n))))
    (surely _ (within_or_not (count_of is_primary ds) 1) (λ n. a OverLimit (faults.two_primary name ds (beyond _ _ n))))
    in
    database_push db (new_table name ds) s valid
    (surely _ (within_or_not (suc (length db)) most_tables) (λ n. a OverLimit (faults.many_tables name ds (omega (arith, beyond _ _ n)))))
    (none_named (table_named db name) (λ t e. a NameTaken (faults.table_taken name ds t e)))

-- ---- lists of columns

number_by : (b : Bool) (c : Column) (cs : List Column) (name : Name) (o : Option ℕ) (n : ℕ) → cond b (Some 0) (option_map (λ k. k + 1) o) ≡ Some n
    → ((k : ℕ) → o ≡ Some k → (k < length cs) × (type_named cs name ≡ option_map (λ (d : Column). d.type) (slice_get cs k)))
    → (n < suc (length cs)) × (cond b (Some c.type) (type_named cs name) ≡ option_map (λ (d : Column). d.type) (slice_get (c ∷ cs) n))
number_by true c cs name o n e later = let zero_is : 0 ≡ n = cc in rw (← zero_is) (omega arith, refl)
number_by false c cs name None n e later = absurd cc
number_by false c cs name (Some k) n e later =
    let next : suc k ≡ n = (let plain : k + 1 ≡ n = cc in omega (arith, plain)) in
    let (less, typed) = later k refl in
    rw (← next) (omega (arith, less), typed)

number_found : (cs : List Column) (name : Name) (n : ℕ) → column_number cs name ≡ Some n → (n < length cs) × (type_named cs name ≡ option_map (λ (c : Column). c.type) (slice_get cs n))
number_found [] name n e = absurd cc
number_found (c ∷ cs) name n e = number_by (bytes_eq c.name name) c cs name (column_number cs name) n e (number_found cs name)

-- the numbers of columns that are there
pub record AreNumbers (cs : List Column) (given : List Name) (ns : List ℕ) : Type 0 where
  pub there : AllByRecursion (λ n. n < length cs) ns
  pub as_many : length ns ≡ length given
  pub typed : first_type cs given ≡ type_at cs ns

numbers_by : (cs : List Column) (name : Name) (given : List Name) (ns : List ℕ) (o : Option ℕ) (os : Option (List ℕ)) → column_number cs name ≡ o
    → option_and_then (λ n. option_map (λ ms. n ∷ ms) os) o ≡ Some ns → ((ms : List ℕ) → os ≡ Some ms → AreNumbers cs given ms) → AreNumbers cs (name ∷ given) ns
numbers_by cs name given ns None os f e later = absurd cc
numbers_by cs name given ns (Some n) None f e later = absurd cc
numbers_by cs name given ns (Some n) (Some ms) f e later =
    let same : n ∷ ms ≡ ns = cc in
    let (less, typed) = number_found cs name n f in
    let rest = later ms refl in
    rw (← same) (record { there = (less, rest.there); as_many = ap suc rest.as_many; typed = typed })

pub numbers_found : (cs : List Column) (given : List Name) (ns : List ℕ) → column_numbers cs given ≡ Some ns → AreNumbers cs given ns
numbers_found cs [] ns e = let none : [] ≡ ns = cc in rw (← none) (record { there = tt; as_many = refl; typed = refl })
numbers_found cs (name ∷ given) ns e = numbers_by cs name given ns (column_number cs name) (column_numbers cs given) refl e (numbers_found cs given)

-- ---- CREATE INDEX

pub moved_index : (t u : Table) (i : Index) → u.columns ≡ t.columns → u.rows ≡ t.rows → IsIndex t i → IsIndex u i
moved_index t u i e f s = record {
  some = s.some;
  columns = s.columns;
  there = rw e s.there;
  keys = s.keys;
  pages = s.pages;
  range = rw e s.range;
  unique = rw f s.unique;
}

moved_indexes : (t u : Table) (indexes : List Index) → u.columns ≡ t.columns → u.rows ≡ t.rows → AllByRecursion (IsIndex t) indexes → AllByRecursion (IsIndex u) indexes
moved_indexes t u [] e f h = tt
moved_indexes t u (i ∷ indexes) e f h = (moved_index t u i e f h.0, moved_indexes t u indexes e f h.1)

still_apart : (i new : Index) (indexes : List Index) → AllByRecursion (λ (j : Index). IsFalse (bytes_eq i.columns j.columns)) indexes → bytes_eq i.columns new.columns ≡ false
    → AllByRecursion (λ (j : Index). IsFalse (bytes_eq i.columns j.columns)) (indexes ++ new ∷ [])
still_apart i new [] h e = (e, tt)
still_apart i new (j ∷ indexes) h e = (h.0, still_apart i new indexes h.1 e)

not_found : (b : Bool) (i : Index) (o : Option Index) → cond b (Some i) o ≡ None → (b ≡ false) × (o ≡ None)
not_found true i o h = absurd cc
not_found false i o h = (refl, h)

apart_new : (indexes : List Index) (new : Index) → AreApart indexes → index_on indexes new.columns ≡ None → AreApart (indexes ++ new ∷ [])
apart_new [] new h n = (tt, tt)
apart_new (i ∷ indexes) new h n =
    let (other, rest) = not_found (is_on new.columns i) i (index_on indexes new.columns) n in
    (still_apart i new indexes h.0 other, apart_new indexes new h.1 rest)

pub with_index_is_table : (t : Table) (unique : Bool) (ns : List ℕ) → IsTable t → length t.indexes < most_indexes → index_on t.indexes ns ≡ None → 1 ≤ length ns → length ns ≤ most_index_columns
    → AllByRecursion (λ n. n < length t.columns) ns → (unique ≡ true → AreUnique (map (key_of ns) t.rows)) → IsTable (with_index t unique ns)
with_index_is_table t unique ns s few none some short there u =
    let new : Index = record { columns = ns; unique = unique; statistics = index_statistics t.columns t.rows ns } in
    record {
      columns = s.columns;
      rows = s.rows;
      indexes = omega (arith, few, length_push t.indexes new);
      primary = s.primary;
      distinct = s.distinct;
      types = s.types;
      typed = s.typed;
      no_nulls = s.no_nulls;
      each_index = all_append (IsIndex (with_index t unique ns)) t.indexes (new ∷ []) (moved_indexes t (with_index t unique ns) t.indexes refl refl s.each_index) (
        counted_index t (with_index t unique ns) (record { columns = ns; unique = unique; statistics = record { keys = 0; pages = 1; clustered = true; range = None } }) refl refl s.types s.typed s.rows
            (record { some = some; columns = short; there = there; unique = u }),
        tt,
      );
      apart = apart_new t.indexes new s.apart none;
      row_count = s.row_count;
      page_count = s.page_count;
    }

none_on : (o : Option Index) → ((i : Index) → o ≡ Some i → ⊥) → o ≡ None
none_on None h = refl
none_on (Some i) h = absurd (h i refl)

pub indexed_database : (db : Database) (unique : Bool) (name : Name) (given : List Name) (t : Table) (ns : List ℕ) → IsDatabase db → IsAccepted db (CreateIndex unique name given)
    → table_named db name ≡ Some t → column_numbers t.columns given ≡ Some ns → (unique ≡ true → AreUnique (map (key_of ns) t.rows)) → IsDatabase (changed (λ u. with_index u unique ns) db name)
indexed_database db unique name given t ns s a n e u =
    let numbers = numbers_found t.columns given ns e in
    let none = none_on (index_on t.indexes ns) (λ i f. a NameTaken (faults.index unique name given NameTaken (index.taken t ns i n e f))) in
    let few = surely _ (within_or_not (suc (length t.indexes)) most_indexes) (λ h. a OverLimit (faults.index unique name given OverLimit (index.many t n (omega (arith, beyond _ _ h))))) in
    let some = surely _ (within_or_not 1 (length given)) (λ h. a NotFound (faults.index unique name given NotFound (index.list NotFound (index.empty (nothing given (beyond _ _ h)))))) in
    let short = surely _ (within_or_not (length given) most_index_columns) (λ h. a OverLimit (faults.index unique name given OverLimit (index.list OverLimit (index.many (beyond _ _ h))))) in
    database_changed (λ u. with_index u unique ns) db name t s n (λ u. refl)
    (with_index_is_table t unique ns (valid_named db name t s n) few none (omega (arith, some, numbers.as_many)) (omega (arith, short, numbers.as_many)) numbers.there u)

-- ---- SET STATISTICS

pub table_set_is_table : (t : Table) (rows pages : ℕ) → IsTable t → IsCount rows → IsPageCount pages → IsTable (with_table_statistics t (record { rows = rows; pages = pages }))
table_set_is_table t rows pages s r p = record {
  columns = s.columns;
  rows = s.rows;
  indexes = s.indexes;
  primary = s.primary;
  distinct = s.distinct;
  types = s.types;
  typed = s.typed;
  no_nulls = s.no_nulls;
  each_index = moved_indexes t (with_table_statistics t (record { rows = rows; pages = pages })) t.indexes refl refl s.each_index;
  apart = s.apart;
  row_count = r;
  page_count = p;
}

some_named : (o : Option Table) → (o ≡ None → ⊥) → (t : Table) × (o ≡ Some t)
some_named None h = absurd (h refl)
some_named (Some t) h = (t, refl)

pub table_set_database : (db : Database) (name : Name) (rows pages : ℕ) → IsDatabase db → IsAccepted db (SetTableStatistics name rows pages)
    → IsDatabase (changed (λ u. with_table_statistics u (record { rows = rows; pages = pages })) db name)
table_set_database db name rows pages s a =
    let (t, n) = some_named (table_named db name) (λ e. a NotFound (faults.no_such_table name rows pages e)) in
    let (r, p) = surely (IsCount rows × IsPageCount pages) (and_or_not _ _ (within_or_not rows greatest_statistic) (and_or_not _ _ (within_or_not 1 pages) (within_or_not pages greatest_statistic)))
    (λ h. a OverLimit (faults.out_of_range name rows pages h)) in
    database_changed (λ u. with_table_statistics u (record { rows = rows; pages = pages })) db name t s n (λ u. refl) (table_set_is_table t rows pages (valid_named db name t s n) r p)

-- numbers at one scale that don't compare as falling don't fall
rising : (l h : ℤ) (o : Ordering) → o ≢ Greater → MatchOrdering o (l <ℤ h) (l ≡ h) (h <ℤ l) → l ≤ℤ h
rising l h Less n m = grind (arith, nat_tests, ints, m)
rising l h Equal n m = grind (arith, nat_tests, ints, m)
rising l h Greater n m = absurd (n refl)

-- numbers compare as those that they are equal to
pub as_equal : (a b c d : Value) → rank a b ≡ Equal → rank c d ≡ Equal → rank b d ≡ rank a c
as_equal a b c d h k =
    sym (rank_total.congr a b d h)
    ∙ rank_total.antisymm a d ∙ ap ordering_reverse (sym (rank_total.congr c d a k))
    ∙ sym (rank_total.antisymm a c)

kept_rising : (type : SqlType) (r : Range) (l h : ℤ) → KeptAs type r.low l → KeptAs type r.high h → ¬ (Falls r) → l ≤ℤ h
kept_rising type r l h low high n =
    let scale = scale_of type in
    let same : rank (limit_value r.low) (limit_value r.high) ≡ int_cmp (l *ℤ pos (10 ^ scale)) (h *ℤ pos (10 ^ scale)) =
    as_equal (Number l scale) (limit_value r.low) (Number h scale) (limit_value r.high) (rank_as_compared (Number l scale) (limit_value r.low) Equal low.1) (rank_as_compared (Number h scale) (limit_value r.high) Equal high.1) in
    rising l h (int_cmp l h) (λ e. n (ap Some (same ∙ sym (scaled l h (10 ^ scale) (power_is_positive scale)) ∙ e))) (int_ranks l h)

pub kept_range : (type : SqlType) (given : Option Range) (kept : Option KeyRange) → RangeKept type given kept → ((r : Range) → given ≡ Some r → ¬ (Falls r)) → IsRange (Some type) kept
kept_range type None kept h n = rw h tt
kept_range type (Some r) kept h n =
    let (l, u, low, high, e) = h in
    rw e (kept_rising type r l u low high (n r refl), low.0.1, high.0.1)

set_by : (b : Bool) (t u : Table) (i : Index) (ns : List ℕ) (kept : IndexStatistics) → is_on ns i ≡ b → u.columns ≡ t.columns → u.rows ≡ t.rows → IsIndex t i → IsCount kept.keys → IsPageCount kept.pages
    → IsRange (type_at t.columns ns) kept.range → IsIndex u (cond b (record i { statistics = kept }) i)
set_by true t u i ns kept e f g s k p r =
    let same : i.columns ≡ ns = (bytes_eq-Decides i.columns ns).0 e in
    record { some = s.some; columns = s.columns; there = rw f s.there; keys = k; pages = p; range = rw (f, same) r; unique = rw g s.unique }
set_by false t u i ns kept e f g s k p r = moved_index t u i f g s

each_set : (t u : Table) (indexes : List Index) (ns : List ℕ) (kept : IndexStatistics) → u.columns ≡ t.columns → u.rows ≡ t.rows → AllByRecursion (IsIndex t) indexes → IsCount kept.keys → IsPageCount kept.pages
    → IsRange (type_at t.columns ns) kept.range → AllByRecursion (IsIndex u) (map (λ (i : Index). cond (is_on ns i) (record i { statistics = kept }) i) indexes)
each_set t u [] ns kept f g h k p r = tt
each_set t u (i ∷ indexes) ns kept f g h k p r = (set_by (is_on ns i) t u i ns kept refl f g h.0 k p r, each_set t u indexes ns kept f g h.1 k p r)

columns_by : (b : Bool) (i : Index) (kept : IndexStatistics) → (cond b (record i { statistics = kept }) i).columns ≡ i.columns
columns_by true i kept = refl
columns_by false i kept = refl

abbrev reset : List ℕ → IndexStatistics → Index → Index
reset ns kept i = cond (is_on ns i) (record i { statistics = kept }) i

apart_reset : (i : Index) (indexes : List Index) (ns : List ℕ) (kept : IndexStatistics) → AllByRecursion (λ (j : Index). IsFalse (bytes_eq i.columns j.columns)) indexes
    → AllByRecursion (λ (j : Index). IsFalse (bytes_eq (reset ns kept i).columns j.columns)) (map (reset ns kept) indexes)
apart_reset i [] ns kept h = tt
apart_reset i (j ∷ indexes) ns kept h = (rw (columns_by (is_on ns i) i kept, columns_by (is_on ns j) j kept) h.0, apart_reset i indexes ns kept h.1)

all_apart : (indexes : List Index) (ns : List ℕ) (kept : IndexStatistics) → AreApart indexes → AreApart (map (reset ns kept) indexes)
all_apart [] ns kept h = tt
all_apart (i ∷ indexes) ns kept h = (apart_reset i indexes ns kept h.0, all_apart indexes ns kept h.1)

pub index_set_is_table : (t : Table) (ns : List ℕ) (kept : IndexStatistics) → IsTable t → IsCount kept.keys → IsPageCount kept.pages → IsRange (type_at t.columns ns) kept.range → IsTable (with_index_statistics t ns kept)
index_set_is_table t ns kept s k p r = record {
  columns = s.columns;
  rows = s.rows;
  indexes = omega (arith, s.indexes, length-map t.indexes (reset ns kept));
  primary = s.primary;
  distinct = s.distinct;
  types = s.types;
  typed = s.typed;
  no_nulls = s.no_nulls;
  each_index = each_set t (with_index_statistics t ns kept) t.indexes ns kept refl refl s.each_index k p r;
  apart = all_apart t.indexes ns kept s.apart;
  row_count = s.row_count;
  page_count = s.page_count;
}

pub index_set_database : (db : Database) (name : Name) (columns : List Name) (given : Given) (t : Table) (ns : List ℕ) (type : SqlType) (kept : IndexStatistics) → IsDatabase db → IsAccepted db (SetIndexStatistics name columns given)
    → table_named db name ≡ Some t → column_numbers t.columns columns ≡ Some ns → first_type t.columns columns ≡ Some type → StatisticsKept type given kept → IsDatabase (changed (λ u. with_index_statistics u ns kept) db name)
index_set_database db name columns given t ns type kept s a n e f g =
    let (range, held, is) = g in
    let numbers = numbers_found t.columns columns ns e in
    let (k, p) = surely (IsCount given.keys × IsPageCount given.pages) (and_or_not _ _ (within_or_not given.keys greatest_statistic) (and_or_not _ _ (within_or_not 1 given.pages) (within_or_not given.pages greatest_statistic)))
    (λ h. a OverLimit (faults.statistics name columns given OverLimit (index.out_of_range h))) in
    let typed : type_at t.columns ns ≡ Some type = sym numbers.typed ∙ f in
    let fits : IsRange (Some type) range = kept_range type given.range range held (λ r h fall. a OverLimit (faults.statistics name columns given OverLimit (index.fall r h fall))) in
    database_changed (λ u. with_index_statistics u ns kept) db name t s n (λ u. refl)
    (index_set_is_table t ns kept (valid_named db name t s n) (rw is k) (rw is p) (rw (is, typed) fits))

-- ---- all statements

pub made_database : (db new : Database) (s : Statement) → IsDatabase db → IsAccepted db s → Makes db s new → IsDatabase new
made_database db new s h a (made.created name columns e n) = rw n (created_database db name columns h (rw e at a))
made_database db new s h a (made.indexed unique name columns t ns e named numbers u n) = rw n (indexed_database db unique name columns t ns h (rw e at a) named numbers u)
made_database db new s h a (made.table_set name rows pages e n) = rw n (table_set_database db name rows pages h (rw e at a))
made_database db new s h a (made.index_set name columns given t ns type kept e named numbers f g n) = rw n (index_set_database db name columns given t ns type kept h (rw e at a) named numbers f g)
