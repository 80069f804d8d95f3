-- What CREATE TABLE makes and refuses.
use Rattle.std.proofs.Common.{◌≡◌, ◌∙◌, refl, sym, ap, ap₂, inl, inr, ℕ, zero, suc, ◌+◌, ◌<◌, ◌≤◌, List, [], ◌∷◌, ◌++◌, Some, None, Bool, true, false, cond, length, map, take, drop, get_or, arith}
use Rattle.std.specs.Prelude.{IfSome, count_by}
use Rattle.std.specs.List.{AllByRecursion}
use Rattle.std.proofs.lemmas.List.{drop_more, drop_all, append-nil, append_assoc, map-append, take_more}
use Rattle.std.proofs.lemmas.List.Sums.{sum_by-cons}
use Rattle.definitions.specs.Limits.{most_tables}
use Rattle.definitions.specs.Value.{IsType}
use Rattle.definitions.specs.Statement as statement
use Rattle.definitions.specs.Statement.{Name, CreateTable}
use Rattle.definitions.specs.Table.{Column, Index, Table, Database, is_key, table_named}
use Rattle.definitions.specs.Statistics.{index_statistics}
use Rattle.definitions.specs.Change as made
use Rattle.definitions.specs.Change.{Makes, declared_column, new_index, key_indexes, new_table}
use Rattle.definitions.specs.Faults as faults
use Rattle.definitions.specs.Faults.{Faulty, IsAccepted, count_of, definition_names}
use Rattle.definitions.specs.Lists.{AnyOf}
use Rattle.definitions.proofs.Changes.{made_database}
use Rattle.loading.specs.Stored.{StoredColumn, AreFilled, headers}
use Rattle.indexes.specs.Indexes.{StoredIndex, IsIndexOn}
use Rattle.parse_tree.specs.Trees.{name_of, constraint_of, definition_of, definitions_of}
use Rattle.parse_tree.specs.declared.statement.ColumnDefinition.{ColumnDefinition}
use Rattle.catalog.specs.Creates.{AreJudged, AreTypes, RefusesTypes, RefusesDefinitions, empty_column, without_rows}
use Rattle.catalog.specs.Databases.{table_names, IsStoredDatabase}
use Rattle.catalog.specs.Growth.{AreOrdered, IsOrdered}
use Rattle.catalog.specs.Meaning.{create_refusal}
use Rattle.catalog.specs.declared.fault.CreateFault.{CreateFault}
use Rattle.catalog.specs.declared.fault.CreateFault.TheVariants as c

-- names of definitions
pub names_alike : (ds : List ColumnDefinition) → definition_names (definitions_of ds) ≡ map (λ (d : ColumnDefinition). name_of d.name) ds
names_alike [] = refl
names_alike (d ∷ ds) = ap (λ ns. name_of d.name ∷ ns) (names_alike ds)

-- definitions that are counted
pub count_alike : (test : statement.Constraint → Bool) (ds : List ColumnDefinition) → count_of test (definitions_of ds) ≡ count_by (λ (d : ColumnDefinition). test (constraint_of d.constraint)) ds
count_alike test [] = refl
count_alike test (d ∷ ds) =
    sum_by-cons (λ (x : statement.ColumnDefinition). cond (test x.constraint) 1 0) (definition_of d) (definitions_of ds)
    ∙ ap (λ n. cond (test (constraint_of d.constraint)) 1 0 + n) (count_alike test ds)
    ∙ sym (sum_by-cons (λ (x : ColumnDefinition). cond (test (constraint_of x.constraint)) 1 0) d ds)

-- ---- columns without values

pub columns_push : (ds : List ColumnDefinition) (i : ℕ) (d : ColumnDefinition) (cs more : List StoredColumn) (new : StoredColumn) → i < length ds → d ≡ get_or ds i d → cs ≡ map empty_column (definitions_of (take i ds)) → new ≡ empty_column (definition_of d) → more ≡ cs ++ new ∷ []
    → more ≡ map empty_column (definitions_of (take (i + 1) ds))
columns_push ds i d cs more new h e k n add =
    add ∙ ap₂ (λ xs x. xs ++ x ∷ []) k (n ∙ ap (λ x. empty_column (definition_of x)) e)
    ∙ sym (map-append empty_column (definitions_of (take i ds)) (definition_of (get_or ds i d) ∷ []))
    ∙ ap (map empty_column) (sym (map-append definition_of (take i ds) (get_or ds i d ∷ []))) ∙ ap (λ xs. map empty_column (definitions_of xs)) (sym (take_more ds i d h))

all_push : {X : Type 0} (P : X → Type 0) (xs : List X) (x : X) → AllByRecursion P xs → P x → AllByRecursion P (xs ++ x ∷ [])
all_push P [] x h p = (p, tt)
all_push P (y ∷ xs) x h p = (h.0, all_push P xs x h.1 p)

pub types_push : (ds : List ColumnDefinition) (i : ℕ) (d : ColumnDefinition) → i < length ds → d ≡ get_or ds i d → AreTypes (definitions_of (take i ds)) → IsType (definition_of d).type → AreTypes (definitions_of (take (i + 1) ds))
types_push ds i d h e a t =
    let all : AreTypes (definitions_of (take i ds) ++ definition_of d ∷ []) = all_push (λ (x : statement.ColumnDefinition). IsType x.type) (definitions_of (take i ds)) (definition_of d) a t in
    let same : definitions_of (take (i + 1) ds) ≡ definitions_of (take i ds) ++ definition_of d ∷ [] =
    ap definitions_of (take_more ds i d h) ∙ map-append definition_of (take i ds) (get_or ds i d ∷ []) ∙ ap (λ x. definitions_of (take i ds) ++ definition_of x ∷ []) (sym e) in
    rw same all

pub untyped_at : (ds : List ColumnDefinition) (i : ℕ) (d : ColumnDefinition) → i < length ds → d ≡ get_or ds i d → (IsType (definition_of d).type → ⊥) → AnyOf (λ (x : statement.ColumnDefinition). ¬ (IsType x.type)) (definitions_of ds)
untyped_at [] i d h e p = absurd (omega (arith, h))
untyped_at (x ∷ ds) zero d h e p = let same : d ≡ x = e in inl (rw same at p)
untyped_at (x ∷ ds) (suc i) d h e p = inr (untyped_at ds i d (omega (arith, h)) e p)

pub empty_filled : (ds : List statement.ColumnDefinition) → AreFilled 0 (map empty_column ds)
empty_filled [] = tt
empty_filled (d ∷ ds) = (refl, empty_filled ds)

pub empty_headers : (ds : List statement.ColumnDefinition) → headers (map empty_column ds) ≡ map declared_column ds
empty_headers [] = refl
empty_headers (d ∷ ds) = ap (λ cs. declared_column d ∷ cs) (empty_headers ds)

-- ---- indexes of keys

abbrev index_of : StoredIndex → Index
index_of i = i.index

-- the indexes that are made, and those of the definitions to come
pub record MadeSoFar (columns : List StoredColumn) (ds : List ColumnDefinition) (number : ℕ) (made' : List StoredIndex) : Type 0 where
  pub all : map index_of made' ++ without_rows (headers columns) (key_indexes number (definitions_of (drop number ds))) ≡ without_rows (headers columns) (key_indexes 0 (definitions_of ds))
  pub ordered : AreOrdered columns 0 made'

pub none_made : (columns : List StoredColumn) (ds : List ColumnDefinition) → MadeSoFar columns ds 0 []
none_made columns ds = record { all = refl; ordered = tt }

keys_here : (b : Bool) (columns : List Column) (number : ℕ) (rest : List Index) (xs : List Index) (o : List Index) → xs ++ without_rows columns (cond b (new_index true (number ∷ []) ∷ rest) rest) ≡ o → b ≡ false → xs ++ without_rows columns rest ≡ o
keys_here b columns number rest xs o e h = rw h at e

key_here : (b : Bool) (columns : List Column) (number : ℕ) (rest : List Index) (xs : List Index) (o : List Index) → xs ++ without_rows columns (cond b (new_index true (number ∷ []) ∷ rest) rest) ≡ o → b ≡ true
    → (xs ++ record { columns = number ∷ []; unique = true; statistics = index_statistics columns [] (number ∷ []) } ∷ []) ++ without_rows columns rest ≡ o
key_here b columns number rest xs o e h =
    let own = rw h at e in
    append_assoc xs (record { columns = number ∷ []; unique = true; statistics = index_statistics columns [] (number ∷ []) } ∷ []) (without_rows columns rest) ∙ own

further : (columns : List StoredColumn) (ds : List ColumnDefinition) (number : ℕ) (d : ColumnDefinition) (xs : List Index) → number < length ds → d ≡ get_or ds number d
    → xs ++ without_rows (headers columns) (key_indexes number (definitions_of (drop number ds))) ≡ without_rows (headers columns) (key_indexes 0 (definitions_of ds))
    → xs ++ without_rows (headers columns) (key_indexes number (definition_of d ∷ definitions_of (drop (number + 1) ds))) ≡ without_rows (headers columns) (key_indexes 0 (definitions_of ds))
further columns ds number d xs h e all =
    ap (λ x. xs ++ without_rows (headers columns) (key_indexes number (definition_of x ∷ definitions_of (drop (number + 1) ds)))) e
    ∙ ap (λ x. xs ++ without_rows (headers columns) (key_indexes number (definitions_of x))) (sym (drop_more ds number d h)) ∙ all

pub no_key_made : (columns : List StoredColumn) (ds : List ColumnDefinition) (number : ℕ) (d : ColumnDefinition) (made' : List StoredIndex) → number < length ds → d ≡ get_or ds number d → is_key (constraint_of d.constraint) ≡ false
    → MadeSoFar columns ds number made' → MadeSoFar columns ds (number + 1) made'
no_key_made columns ds number d made' h e k m = record {
  all = keys_here (is_key (constraint_of d.constraint)) (headers columns) number (key_indexes (number + 1) (definitions_of (drop (number + 1) ds))) (map index_of made') _ (further columns ds number d (map index_of made') h e m.all) k;
  ordered = m.ordered;
}

pub key_made : (columns : List StoredColumn) (ds : List ColumnDefinition) (number : ℕ) (d : ColumnDefinition) (made' more : List StoredIndex) (new : StoredIndex) → number < length ds → d ≡ get_or ds number d → is_key (constraint_of d.constraint) ≡ true
    → length columns ≡ length ds → IsIndexOn (headers columns) [] (number ∷ []) true new → more ≡ made' ++ new ∷ [] → MadeSoFar columns ds number made' → MadeSoFar columns ds (number + 1) more
key_made columns ds number d made' more new h e k l on add m =
    let made_indexes : map index_of more ≡ map index_of made' ++ record { columns = number ∷ []; unique = true; statistics = index_statistics (headers columns) [] (number ∷ []) } ∷ [] =
    ap (map index_of) add ∙ map-append index_of made' (new ∷ []) ∙ ap (λ x. map index_of made' ++ x ∷ []) on.is in
    let columns_is : new.index.columns ≡ number ∷ [] = ap (λ (i : Index). i.columns) on.is in
    let there : AllByRecursion (λ n. n < length columns) (number ∷ []) = (omega (arith, h, l), tt) in
    let ordered : IsOrdered columns 0 new = record {
      on = rw columns_is (record { some = omega arith; short = omega arith; there = there });
      run = on.run;
      once = λ u. on.once refl;
    } in
    record {
      all = ap (λ xs. xs ++ without_rows (headers columns) (key_indexes (number + 1) (definitions_of (drop (number + 1) ds)))) made_indexes
          ∙ key_here (is_key (constraint_of d.constraint)) (headers columns) number (key_indexes (number + 1) (definitions_of (drop (number + 1) ds))) (map index_of made') _ (further columns ds number d (map index_of made') h e m.all) k;
      ordered = rw add (all_push (IsOrdered columns 0) made' new m.ordered ordered);
    }

pub all_made : (columns : List StoredColumn) (ds : List ColumnDefinition) (number : ℕ) (made' : List StoredIndex) → length ds ≤ number → MadeSoFar columns ds number made'
    → map index_of made' ≡ without_rows (headers columns) (key_indexes 0 (definitions_of ds))
all_made columns ds number made' h m =
    let none : definitions_of (drop number ds) ≡ [] = ap definitions_of (drop_all number ds h) in
    sym (append-nil (map index_of made')) ∙ ap (λ xs. map index_of made' ++ without_rows (headers columns) (key_indexes number xs)) (sym none) ∙ m.all

-- ---- refusals

untyped_fault : (db : Database) (name : Name) (ds : List statement.ColumnDefinition) (f : CreateFault) → RefusesTypes ds f → IfSome (create_refusal f) (Faulty db (CreateTable name ds))
untyped_fault db name ds (c.Type column fault) h = faults.no_type name ds h
untyped_fault db name ds c.Memory h = tt
untyped_fault db name ds c.TableTaken h = absurd h
untyped_fault db name ds (c.ColumnTwice column) h = absurd h
untyped_fault db name ds c.ManyTables h = absurd h
untyped_fault db name ds c.ManyColumns h = absurd h
untyped_fault db name ds c.ManyKeys h = absurd h
untyped_fault db name ds (c.TwoPrimaryKeys column) h = absurd h

pub untyped : (db : Database) (name : Name) (ds : List statement.ColumnDefinition) (f : CreateFault) → RefusesTypes ds f → IfSome (create_refusal f) (Faulty db (CreateTable name ds))
untyped db name ds f h = untyped_fault db name ds f h

pub misjudged : (db : Database) (name : Name) (ds : List statement.ColumnDefinition) (f : CreateFault) → RefusesDefinitions ds f → IfSome (create_refusal f) (Faulty db (CreateTable name ds))
misjudged db name ds (c.Type column fault) h = absurd h
misjudged db name ds c.Memory h = tt
misjudged db name ds c.TableTaken h = absurd h
misjudged db name ds (c.ColumnTwice column) h = faults.column_twice name ds h
misjudged db name ds c.ManyTables h = absurd h
misjudged db name ds c.ManyColumns h = faults.many_columns name ds h
misjudged db name ds c.ManyKeys h = faults.many_keys name ds h
misjudged db name ds (c.TwoPrimaryKeys column) h = faults.two_primary name ds h

typed_apart : (ds : List statement.ColumnDefinition) → AreTypes ds → AnyOf (λ (d : statement.ColumnDefinition). ¬ (IsType d.type)) ds → ⊥
typed_apart [] h a = a
typed_apart (d ∷ ds) h (inl a) = a h.0
typed_apart (d ∷ ds) h (inr a) = typed_apart ds h.1 a

-- no cause of refusal stands
pub accepted : (db : Database) (name : Name) (ds : List statement.ColumnDefinition) → table_named db name ≡ None → length db < most_tables → AreJudged ds → AreTypes ds → IsAccepted db (CreateTable name ds)
accepted db name ds none few j typed refusal (faults.table_taken n ds' t h) = let clash : Some t ≡ None = sym h ∙ none in cc
accepted db name ds none few j typed refusal (faults.column_twice n ds' h) = h j.distinct
accepted db name ds none few j typed refusal (faults.many_tables n ds' h) = omega (arith, h, few)
accepted db name ds none few j typed refusal (faults.many_columns n ds' h) = omega (arith, h, j.narrow)
accepted db name ds none few j typed refusal (faults.no_type n ds' h) = typed_apart ds typed h
accepted db name ds none few j typed refusal (faults.many_keys n ds' h) = omega (arith, h, j.keys)
accepted db name ds none few j typed refusal (faults.two_primary n ds' h) = omega (arith, h, j.primary)

-- a table that is added, and its name
pub created : (db new : Database) (t : Table) (name : Name) (ds : List statement.ColumnDefinition) → new ≡ db ++ t ∷ [] → t ≡ new_table name ds → Makes db (CreateTable name ds) new
created db new t name ds e h = made.created name ds refl (e ∙ ap (λ u. db ++ u ∷ []) h)

named_too : (items new : Database) (names more : List Name) (t : Table) (name : Name) (ds : List statement.ColumnDefinition) → names ≡ table_names items → more ≡ names ++ name ∷ [] → new ≡ items ++ t ∷ [] → t ≡ new_table name ds → more ≡ table_names new
named_too items new names more t name ds n m e h =
    m ∙ ap₂ (λ ns x. ns ++ x ∷ []) n (sym (ap (λ (u : Table). u.name) h)) ∙ sym (map-append (λ (u : Table). u.name) items (t ∷ [])) ∙ ap table_names (sym e)

pub stored_too : (items new : Database) (names more : List Name) (t : Table) (name : Name) (ds : List statement.ColumnDefinition) → IsStoredDatabase items names → IsAccepted items (CreateTable name ds) → more ≡ names ++ name ∷ [] → new ≡ items ++ t ∷ [] → t ≡ new_table name ds
    → IsStoredDatabase new more
stored_too items new names more t name ds s a m e h = record {
  valid = made_database items new (CreateTable name ds) s.valid a (created items new t name ds e h);
  named = named_too items new names more t name ds s.named m e h;
}

-- without room nothing is added
pub as_stored : (items new : Database) (names more : List Name) → IsStoredDatabase items names → new ≡ items → more ≡ names → IsStoredDatabase new more
as_stored items new names more s e m = rw (e, m) s
