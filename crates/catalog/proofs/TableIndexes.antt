-- An index that is added to a table, and one whose statistics are set.
use Rattle.std.proofs.Common.{◌≡◌, ◌∙◌, refl, sym, ap, ap₂, ℕ, ◌+◌, ◌<◌, List, [], ◌∷◌, ◌++◌, Option, Some, None, Bool, true, false, cond, length, map}
use Rattle.std.specs.Prelude.{find}
use Rattle.std.specs.List.{AllByRecursion, position_from}
use Rattle.std.proofs.lemmas.List.{map-append}
use Rattle.definitions.specs.Statement.{Name}
use Rattle.definitions.specs.Table.{Index, Table, TableStatistics, is_on, index_on}
use Rattle.definitions.specs.Key.{key_of, AreUnique}
use Rattle.definitions.specs.Statistics.{index_statistics}
use Rattle.definitions.specs.Change.{with_index}
use Rattle.definitions.specs.Invariant.{IsTable}
use Rattle.definitions.proofs.Changes.{with_index_is_table, numbers_found}
use Rattle.loading.specs.Stored.{StoredColumn, headers, rows_of}
use Rattle.indexes.specs.Indexes.{StoredIndex, AreIndexColumns, IsIndexOn}
use Rattle.catalog.specs.Changes.{MayIndex, AddsIndex}
use Rattle.catalog.specs.Growth.{IsOrdered, AreOrdered}
use Rattle.catalog.specs.Tables.{table_of}
use Rattle.catalog.proofs.Rows.{of_view, columns_many}

-- ---- the index on a list, by a search

found_by : (b : Bool) (x : Index) (xs : List Index) (ns : List ℕ) (i k : ℕ) → cond b (Some i) (position_from (is_on ns) (i + 1) xs) ≡ Some k
    → (position_from (is_on ns) (i + 1) xs ≡ Some k → (y : Index) × (find (is_on ns) xs ≡ Some y)) → (y : Index) × (cond b (Some x) (find (is_on ns) xs) ≡ Some y)
found_by true x xs ns i k e later = (x, refl)
found_by false x xs ns i k e later = later e

found_from : (xs : List Index) (ns : List ℕ) (i k : ℕ) → position_from (is_on ns) i xs ≡ Some k → (y : Index) × (index_on xs ns ≡ Some y)
found_from [] ns i k e = absurd cc
found_from (x ∷ xs) ns i k e = found_by (is_on ns x) x xs ns i k e (found_from xs ns (i + 1) k)

pub index_found : (xs : List Index) (ns : List ℕ) (k : ℕ) → Some k ≡ position_from (is_on ns) 0 xs → (y : Index) × (index_on xs ns ≡ Some y)
index_found xs ns k e = found_from xs ns 0 k (sym e)

none_by : (b : Bool) (x : Index) (i : ℕ) (p : Option ℕ) (o : Option Index) → cond b (Some i) p ≡ None → (p ≡ None → o ≡ None) → cond b (Some x) o ≡ None
none_by true x i p o e later = absurd cc
none_by false x i p o e later = later e

none_from : (xs : List Index) (ns : List ℕ) (i : ℕ) → position_from (is_on ns) i xs ≡ None → index_on xs ns ≡ None
none_from [] ns i e = refl
none_from (x ∷ xs) ns i e = none_by (is_on ns x) x i _ _ e (none_from xs ns (i + 1))

pub index_free : (xs : List Index) (ns : List ℕ) → None ≡ position_from (is_on ns) 0 xs → index_on xs ns ≡ None
index_free xs ns e = none_from xs ns 0 (sym e)

-- ---- one index more

ordered_push : (cs : List StoredColumn) (n : ℕ) (is : List StoredIndex) (new : StoredIndex) → AreOrdered cs n is → IsOrdered cs n new → AreOrdered cs n (is ++ new ∷ [])
ordered_push cs n [] new o h = (h, tt)
ordered_push cs n (i ∷ is) new o h = (o.0, ordered_push cs n is new o.1 h)

pub new_is_ordered : (cs : List StoredColumn) (n : ℕ) (ns : List ℕ) (unique : Bool) (new : StoredIndex) → AreIndexColumns (length cs) ns → IsIndexOn (headers cs) (rows_of n cs) ns unique new → IsOrdered cs n new
new_is_ordered cs n ns unique new on i =
    let columns : new.index.columns ≡ ns = ap (λ (x : Index). x.columns) i.is in
    let kind : new.index.unique ≡ unique = ap (λ (x : Index). x.unique) i.is in
    record { on = rw columns on; run = rw columns i.run; once = λ u. rw columns (i.once (sym kind ∙ u)) }

pub record AddedIndex (name : Name) (cs : List StoredColumn) (is : List StoredIndex) (n : ℕ) (f : TableStatistics) (t : Table) (unique : Bool) (names : List Name) : Type 0 where
  pub ordered : AreOrdered cs n is
  pub adds : AddsIndex t unique names (table_of name cs is n f)
  pub valid : IsTable (table_of name cs is n f)

pub added_index : (name : Name) (cs : List StoredColumn) (is more : List StoredIndex) (n : ℕ) (f : TableStatistics) (t : Table) (unique : Bool) (names : List Name) (ns : List ℕ) (new : StoredIndex) → table_of name cs is n f ≡ t → AreOrdered cs n is → IsTable t
    → MayIndex t names ns → AreIndexColumns (length cs) ns → IsIndexOn (headers cs) (rows_of n cs) ns unique new → more ≡ is ++ new ∷ [] → AddedIndex name cs more n f t unique names
added_index name cs is more n f t unique names ns new v ordered valid may on i add =
    let o = of_view name cs is n f t v in
    let once : unique ≡ true → AreUnique (map (key_of ns) t.rows) = rw o.rows i.once in
    let added : map (λ (x : StoredIndex). x.index) more ≡ t.indexes ++ record { columns = ns; unique = unique; statistics = index_statistics t.columns t.rows ns } ∷ [] =
    ap (map (λ (x : StoredIndex). x.index)) add ∙ map-append (λ (x : StoredIndex). x.index) is (new ∷ [])
    ∙ ap₂ (λ xs x. xs ++ x ∷ []) (sym o.indexes) (i.is ∙ ap₂ (λ hs rs. record { columns = ns; unique = unique; statistics = index_statistics hs rs ns }) (sym o.columns) (sym o.rows)) in
    let whole : table_of name cs more n f ≡ with_index t unique ns =
    ap (λ (x : Table). record x { indexes = map (λ (y : StoredIndex). y.index) more }) v ∙ ap (λ xs. record t { indexes = xs }) added in
    let there : AllByRecursion (λ k. k < length t.columns) ns = (numbers_found t.columns names ns may.found).there in
    record {
      ordered = rw add (ordered_push cs n is new ordered (new_is_ordered cs n ns unique new on i));
      adds = record { numbers = ns; may = may; once = once; is = whole };
      valid = rw whole (with_index_is_table t unique ns valid may.few may.free on.some on.short there once);
    }

-- what a push leaves of a table's indexes
pub record PushedIndex (name : Name) (cs : List StoredColumn) (more : List StoredIndex) (n : ℕ) (f : TableStatistics) : Type 0 where
  pub ordered : AreOrdered cs n more
  pub valid : IsTable (table_of name cs more n f)

pub pushed_index : (pushed : Bool) (name : Name) (cs cs' : List StoredColumn) (is more : List StoredIndex) (n : ℕ) (f : TableStatistics) (t : Table) (unique : Bool) (names : List Name) (ns : List ℕ) (new : StoredIndex) → table_of name cs is n f ≡ t → AreOrdered cs n is
    → IsTable (table_of name cs is n f) → MayIndex t names ns → AreIndexColumns (length t.columns) ns → cs' ≡ cs → IsIndexOn (headers cs') (rows_of n cs') ns unique new → more ≡ cond pushed (is ++ new ∷ []) is → PushedIndex name cs more n f
pushed_index true name cs cs' is more n f t unique names ns new v ordered valid may on lent i add =
    let valid' : IsTable t = rw v at valid in
    let on' : AreIndexColumns (length cs) ns = rw (← columns_many cs is n t (of_view name cs is n f t v)) on in
    let own : IsIndexOn (headers cs) (rows_of n cs) ns unique new = rw (← lent) i in
    let a = added_index name cs is more n f t unique names ns new v ordered valid' may on' own add in
    record { ordered = a.ordered; valid = a.valid }
pushed_index false name cs cs' is more n f t unique names ns new v ordered valid may on lent i add = record { ordered = rw add ordered; valid = rw add valid }

pub adds_index : (name : Name) (cs cs' : List StoredColumn) (is more : List StoredIndex) (n : ℕ) (f : TableStatistics) (t : Table) (unique : Bool) (names : List Name) (ns : List ℕ) (new : StoredIndex) → table_of name cs is n f ≡ t → AreOrdered cs n is
    → IsTable (table_of name cs is n f) → MayIndex t names ns → AreIndexColumns (length t.columns) ns → cs' ≡ cs → IsIndexOn (headers cs') (rows_of n cs') ns unique new → more ≡ is ++ new ∷ [] → AddsIndex t unique names (table_of name cs more n f)
adds_index name cs cs' is more n f t unique names ns new v ordered valid may on lent i add =
    let valid' : IsTable t = rw v at valid in
    let on' : AreIndexColumns (length cs) ns = rw (← columns_many cs is n t (of_view name cs is n f t v)) on in
    let own : IsIndexOn (headers cs) (rows_of n cs) ns unique new = rw (← lent) i in
    (added_index name cs is more n f t unique names ns new v ordered valid' may on' own add).adds
