-- Statements on the table that stands at a place of a database.
use Rattle.std.proofs.Common.{◌≡◌, ◌∙◌, refl, sym, ap, ℕ, List, Some, Result, Ok, Err, get_or, set}
use Rattle.std.specs.Prelude.{IfOk, IfErr, IfSome, OnOk, OnErr}
use Rattle.std.proofs.lemmas.Result.{on_ok_weaker, IfOk-weaker, IfErr-weaker}
use Rattle.std.proofs.lemmas.List.{set-get_or}
use Rattle.definitions.specs.Statement.{Name, CreateIndex, SetTableStatistics, SetIndexStatistics}
use Rattle.definitions.specs.Statement.{GivenStatistics as Given}
use Rattle.definitions.specs.Table.{Table, Database, table_named}
use Rattle.definitions.specs.Change as made
use Rattle.definitions.specs.Change.{Makes, changed, with_rows, with_index, with_table_statistics, with_index_statistics}
use Rattle.definitions.specs.Faults.{Faulty, IsAccepted}
use Rattle.definitions.specs.Invariant.{IsCount, IsPageCount, IsDatabase}
use Rattle.definitions.proofs.Changes.{made_database, database_changed, valid_named}
use Rattle.definitions.proofs.Counting.{loaded_is_table}
use Rattle.catalog.specs.Changes.{AddsIndex, RefusesNewIndex, RefusesIndex, SetsIndex, RefusesStatistics, RefusesTableStatistics}
use Rattle.catalog.specs.Loads.{LoadsTable, RefusesTable, LoadsNamed, RefusesNamed}
use Rattle.catalog.specs.Meaning.{statistics_refusal, table_statistics_refusal}
use Rattle.catalog.specs.declared.fault.IndexFault.{IndexFault}
use Rattle.catalog.specs.declared.fault.StatisticsFault.{StatisticsFault}
use Rattle.catalog.specs.declared.fault.TableStatisticsFault.{TableStatisticsFault}
use Rattle.catalog.specs.declared.fault.LoadFault.{LoadFault}
use Rattle.catalog.specs.declared.fault.LoadFault.TheVariants as l
use Rattle.catalog.specs.Databases.{IsStoredDatabase}
use Rattle.catalog.proofs.NamedTables.{IsPlace, names_stay}
use Rattle.catalog.proofs.Accepting.{index_accepted, index_refused, table_set_accepted, table_set_refused, index_set_accepted, index_set_refused}

-- the table of a name at a place
pub record IsAt (db : Database) (name : Name) (k : ℕ) (t : Table) : Type 0 where
  pub place : IsPlace db name k
  pub own : t ≡ get_or db k t

named : (db : Database) (name : Name) (k : ℕ) (t : Table) → IsAt db name k t → table_named db name ≡ Some t
named db name k t a = a.place.is t ∙ ap Some (sym a.own)

changed_at : (db : Database) (name : Name) (k : ℕ) (t new : Table) (f : Table → Table) → IsAt db name k t → new ≡ f t → set db k new ≡ changed f db name
changed_at db name k t new f a e = sym (a.place.change f new t (e ∙ ap f a.own))

as_it_was : (db : Database) (name : Name) (k : ℕ) (t new : Table) → IsAt db name k t → new ≡ t → set db k new ≡ db
as_it_was db name k t new a e = ap (set db k) (e ∙ a.own) ∙ set-get_or db k t

-- what a statement leaves is a database, and the table keeps its name
pub record IsLeft (db : Database) (k : ℕ) (t new : Table) : Type 0 where
  pub valid : IsDatabase (set db k new)
  pub name : new.name ≡ t.name

as_before : (db : Database) (name : Name) (k : ℕ) (t new : Table) → IsAt db name k t → IsDatabase db → new ≡ t → IsLeft db k t new
as_before db name k t new a s e = record { valid = rw (as_it_was db name k t new a e) s; name = ap (λ (u : Table). u.name) e }

left : {E : Type 0} (r : Result (Unit {0}) E) (P : Type 0) (db : Database) (name : Name) (k : ℕ) (t new : Table) → IsAt db name k t → IsDatabase db → (P → IsLeft db k t new) → OnOk r P → OnErr r (new ≡ t) → IsLeft db k t new
left (Ok u) P db name k t new a s f p e = f p
left (Err x) P db name k t new a s f p e = as_before db name k t new a s e

-- so the names stay
pub kept : (names : List Name) (items db : Database) (k : ℕ) (t new : Table) → items ≡ db → IsStoredDatabase items names → t ≡ get_or items k t → IsLeft db k t new → IsStoredDatabase (set items k new) names
kept names items db k t new v s e l = record { valid = rw v l.valid; named = s.named ∙ sym (names_stay items k t new e l.name) }

-- ---- SET STATISTICS of a table

pub table_accepted : (r : Result (Unit {0}) TableStatisticsFault) (db : Database) (name : Name) (k rows pages : ℕ) (t : Table) → IsAt db name k t → OnOk r (IsCount rows × IsPageCount pages) → OnOk r (IsAccepted db (SetTableStatistics name rows pages))
table_accepted r db name k rows pages t a h = on_ok_weaker r (λ p. table_set_accepted db name rows pages t (named db name k t a) p.0 p.1) h

table_made_one : (db : Database) (name : Name) (k rows pages : ℕ) (t new : Table) → IsAt db name k t → new ≡ with_table_statistics t (record { rows = rows; pages = pages }) → Makes db (SetTableStatistics name rows pages) (set db k new)
table_made_one db name k rows pages t new a e = made.table_set name rows pages refl (changed_at db name k t new (λ u. with_table_statistics u (record { rows = rows; pages = pages })) a e)

pub table_made : (r : Result (Unit {0}) TableStatisticsFault) (db : Database) (name : Name) (k rows pages : ℕ) (t new : Table) → IsAt db name k t → OnOk r (new ≡ with_table_statistics t (record { rows = rows; pages = pages }))
    → OnOk r (Makes db (SetTableStatistics name rows pages) (set db k new))
table_made r db name k rows pages t new a h = on_ok_weaker r (λ e. table_made_one db name k rows pages t new a e) h

pub table_refused : (r : Result (Unit {0}) TableStatisticsFault) (db : Database) (name : Name) (rows pages : ℕ) → IfErr r (RefusesTableStatistics rows pages) → IfErr r (λ fault. Faulty db (SetTableStatistics name rows pages) (table_statistics_refusal fault))
table_refused r db name rows pages h = IfErr-weaker r (RefusesTableStatistics rows pages) _ (λ fault k. table_set_refused db name rows pages fault k) h

both_ok : {E : Type 0} (A B : Type 0) (r : Result (Unit {0}) E) → OnOk r A → OnOk r B → OnOk r (A × B)
both_ok A B (Ok u) a b = (a, b)
both_ok A B (Err x) a b = tt

pub table_left : (r : Result (Unit {0}) TableStatisticsFault) (db : Database) (name : Name) (k rows pages : ℕ) (t new : Table) → IsAt db name k t → IsDatabase db → OnOk r (IsCount rows × IsPageCount pages)
    → OnOk r (new ≡ with_table_statistics t (record { rows = rows; pages = pages })) → OnErr r (new ≡ t) → IsLeft db k t new
table_left r db name k rows pages t new a s g h e =
    left r ((IsCount rows × IsPageCount pages) × (new ≡ with_table_statistics t (record { rows = rows; pages = pages }))) db name k t new a s
    (λ p. record {
      valid = made_database db (set db k new) (SetTableStatistics name rows pages) s (table_set_accepted db name rows pages t (named db name k t a) p.0.0 p.0.1) (table_made_one db name k rows pages t new a p.1);
      name = ap (λ (u : Table). u.name) p.1;
    })
    (both_ok _ _ r g h) e

-- ---- CREATE INDEX

pub index_ok : (r : Result (Unit {0}) IndexFault) (db : Database) (name : Name) (k : ℕ) (unique : _) (names : List Name) (t new : Table) → IsAt db name k t → OnOk r (AddsIndex t unique names new) → OnOk r (IsAccepted db (CreateIndex unique name names))
index_ok r db name k unique names t new a h = on_ok_weaker r (λ (x : AddsIndex t unique names new). index_accepted db unique name t names x.numbers (named db name k t a) x.may) h

index_made_one : (db : Database) (name : Name) (k : ℕ) (unique : _) (names : List Name) (t new : Table) → IsAt db name k t → AddsIndex t unique names new → Makes db (CreateIndex unique name names) (set db k new)
index_made_one db name k unique names t new a x =
    made.indexed unique name names t x.numbers refl (named db name k t a) x.may.found x.once (changed_at db name k t new (λ u. with_index u unique x.numbers) a x.is)

pub index_made : (r : Result (Unit {0}) IndexFault) (db : Database) (name : Name) (k : ℕ) (unique : _) (names : List Name) (t new : Table) → IsAt db name k t → OnOk r (AddsIndex t unique names new) → OnOk r (Makes db (CreateIndex unique name names) (set db k new))
index_made r db name k unique names t new a h = on_ok_weaker r (λ (x : AddsIndex t unique names new). index_made_one db name k unique names t new a x) h

pub index_not_made : (r : Result (Unit {0}) IndexFault) (db : Database) (name : Name) (k : ℕ) (unique : _) (names : List Name) (t : Table) → IsAt db name k t → IfErr r (RefusesNewIndex t unique names) → IfErr r (RefusesIndex db unique name names)
index_not_made r db name k unique names t a h = IfErr-weaker r (RefusesNewIndex t unique names) _ (λ fault x. index_refused db unique name t names fault (named db name k t a) x) h

pub index_left : (r : Result (Unit {0}) IndexFault) (db : Database) (name : Name) (k : ℕ) (unique : _) (names : List Name) (t new : Table) → IsAt db name k t → IsDatabase db → OnOk r (AddsIndex t unique names new) → OnErr r (new ≡ t) → IsLeft db k t new
index_left r db name k unique names t new a s h e =
    left r (AddsIndex t unique names new) db name k t new a s
    (λ (x : AddsIndex t unique names new). record {
      valid = made_database db (set db k new) (CreateIndex unique name names) s (index_accepted db unique name t names x.numbers (named db name k t a) x.may) (index_made_one db name k unique names t new a x);
      name = ap (λ (u : Table). u.name) x.is;
    }) h e

-- ---- SET STATISTICS of an index

pub statistics_ok : (r : Result (Unit {0}) StatisticsFault) (db : Database) (name : Name) (k : ℕ) (names : List Name) (given : Given) (t new : Table) → IsAt db name k t → OnOk r (SetsIndex t names given new) → OnOk r (IsAccepted db (SetIndexStatistics name names given))
statistics_ok r db name k names given t new a h = on_ok_weaker r (λ (x : SetsIndex t names given new). index_set_accepted db name t new names given (named db name k t a) x) h

statistics_made_one : (db : Database) (name : Name) (k : ℕ) (names : List Name) (given : Given) (t new : Table) → IsAt db name k t → SetsIndex t names given new → Makes db (SetIndexStatistics name names given) (set db k new)
statistics_made_one db name k names given t new a x =
    made.index_set name names given t x.numbers x.type x.kept refl (named db name k t a) x.found x.first x.keeps (changed_at db name k t new (λ u. with_index_statistics u x.numbers x.kept) a x.is)

pub statistics_made : (r : Result (Unit {0}) StatisticsFault) (db : Database) (name : Name) (k : ℕ) (names : List Name) (given : Given) (t new : Table) → IsAt db name k t → OnOk r (SetsIndex t names given new) → OnOk r (Makes db (SetIndexStatistics name names given) (set db k new))
statistics_made r db name k names given t new a h = on_ok_weaker r (λ (x : SetsIndex t names given new). statistics_made_one db name k names given t new a x) h

pub statistics_refused : (r : Result (Unit {0}) StatisticsFault) (db : Database) (name : Name) (k : ℕ) (names : List Name) (given : Given) (t : Table) → IsAt db name k t → IfErr r (RefusesStatistics t names given) → IfErr r (λ fault. IfSome (statistics_refusal fault) (Faulty db (SetIndexStatistics name names given)))
statistics_refused r db name k names given t a h = IfErr-weaker r (RefusesStatistics t names given) _ (λ fault x. index_set_refused db name t names given fault (named db name k t a) x) h

pub statistics_left : (r : Result (Unit {0}) StatisticsFault) (db : Database) (name : Name) (k : ℕ) (names : List Name) (given : Given) (t new : Table) → IsAt db name k t → IsDatabase db → OnOk r (SetsIndex t names given new) → OnErr r (new ≡ t) → IsLeft db k t new
statistics_left r db name k names given t new a s h e =
    left r (SetsIndex t names given new) db name k t new a s
    (λ (x : SetsIndex t names given new). record {
      valid = made_database db (set db k new) (SetIndexStatistics name names given) s (index_set_accepted db name t new names given (named db name k t a) x) (statistics_made_one db name k names given t new a x);
      name = ap (λ (u : Table). u.name) x.is;
    }) h e

-- ---- LOAD

pub loads_named : (r : Result ℕ LoadFault) (db : Database) (name : Name) (k : ℕ) (bytes : List ℕ) (t new : Table) → IsAt db name k t → IfOk r (λ n. LoadsTable t bytes n (λ rows. new ≡ with_rows t rows)) → IfOk r (λ n. LoadsNamed name bytes db n (set db k new))
loads_named r db name k bytes t new a h =
    IfOk-weaker r _ _ (λ n x.
    let (records, rows, read, loads, few, count, is) = x in
    (t, named db name k t a, (records, rows, read, loads, few, count, changed_at db name k t new (λ u. with_rows u rows) a is))) h

load_refused_one : (db : Database) (name : Name) (k : ℕ) (bytes : List ℕ) (t : Table) (fault : LoadFault) → IsAt db name k t → RefusesTable t bytes fault → RefusesNamed name bytes db fault
load_refused_one db name k bytes t l.NoTable a r = absurd r
load_refused_one db name k bytes t (l.Record x) a r = (t, named db name k t a, r)
load_refused_one db name k bytes t (l.Repeated x) a r = (t, named db name k t a, r)
load_refused_one db name k bytes t l.ManyRows a r = (t, named db name k t a, r)
load_refused_one db name k bytes t l.Memory a r = (t, named db name k t a, tt)

pub load_refused : (r : Result ℕ LoadFault) (db : Database) (name : Name) (k : ℕ) (bytes : List ℕ) (t : Table) → IsAt db name k t → IfErr r (RefusesTable t bytes) → IfErr r (RefusesNamed name bytes db)
load_refused r db name k bytes t a h = IfErr-weaker r (RefusesTable t bytes) _ (λ fault x. load_refused_one db name k bytes t fault a x) h

pub load_left : (r : Result ℕ LoadFault) (db : Database) (name : Name) (k : ℕ) (bytes : List ℕ) (t new : Table) → IsAt db name k t → IsDatabase db → IfOk r (λ n. LoadsTable t bytes n (λ rows. new ≡ with_rows t rows)) → OnErr r (new ≡ t) → IsLeft db k t new
load_left (Ok n) db name k bytes t new a s h e =
    let (records, rows, read, loads, few, count, is) = h in
    record {
      valid = rw (changed_at db name k t new (λ u. with_rows u rows) a is)
          (database_changed (λ u. with_rows u rows) db name t s (named db name k t a) (λ u. refl) (loaded_is_table t records rows (valid_named db name t s (named db name k t a)) loads few));
      name = ap (λ (u : Table). u.name) is;
    }
load_left (Err x) db name k bytes t new a s h e = as_before db name k t new a s e

-- the table that a search finds
pub is_at : (db items : Database) (name : Name) (k : ℕ) (t : Table) → items ≡ db → IsPlace db name k → t ≡ get_or items k t → IsAt db name k t
is_at db items name k t e p h = record { place = p; own = h ∙ ap (λ ts. get_or ts k t) e }
