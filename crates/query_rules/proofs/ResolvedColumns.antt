-- A column that was found is there: its block names a table of the database by number, and that table has the column, of the type that is told.
use Rattle.std.proofs.Common.{◌≡◌, ◌∙◌, refl, sym, ap, ℕ, suc, ◌+◌, ◌<◌, List, [], ◌∷◌, ◌++◌, Option, Some, None, Bool, true, false, cond, length, map, arith}
use Rattle.std.specs.Prelude.{◌&&◌, IsTrue, is_some, slice_get, find, bytes_eq}
use Rattle.std.specs.List.{AllByRecursion, list_all, list_any}
use Rattle.std.proofs.lemmas.List.Folds.{find_at}
use Rattle.std.proofs.lemmas.Option.{slice_get_within}
use Rattle.definitions.specs.Value.{SqlType}
use Rattle.definitions.specs.Statement.{Name, Source, ColumnReference}
use Rattle.definitions.specs.Table as table
use Rattle.definitions.specs.Table.{Table, Database, table_named}
use Rattle.definitions.specs.Plans.Order.{BlockColumn}
use Rattle.definitions.specs.Queries.BoundBlock.{Block}
use Rattle.definitions.specs.Binding.Formed.{HasColumn}
use Rattle.definitions.specs.Binding.Scopes.{NamedTable, Scope, Found, Resolution, NotThere, Named, named_table, scope_of, is_whole, are_there, columns_of, table_columns, columns_where, all_columns, with_name, only_one, is_called, resolve_name, resolve_qualified, resolve_by, resolve}

abbrev pub numbers : Scope → List ℕ
numbers = map (λ (t : NamedTable). t.number)

-- as `HasColumn`, for a block of these tables
abbrev pub HasColumnIn : Database → List ℕ → BlockColumn → SqlType → Type 0
HasColumnIn db tables c type =
    (n : ℕ) × (t : Table) × (column : table.Column)
    × (slice_get tables c.table ≡ Some n) × (slice_get db n ≡ Some t) × (slice_get t.columns c.number ≡ Some column) × (column.type ≡ type)

pub has_column : (db : Database) (b : Block) (c : BlockColumn) (type : SqlType) → HasColumnIn db b.tables c type → HasColumn db b c type
has_column db b c type h = h

abbrev pub IsIn : Database → List ℕ → Found → Type 0
IsIn db tables f = HasColumnIn db tables f.column f.type

-- ---- the table of a number

named_is : (db : Database) (name : Name) → table_named db name ≡ find (λ (t : Table). bytes_eq t.name name) db
named_is [] name = refl
named_is (t ∷ db) name = ap (cond (bytes_eq t.name name) (Some t)) (named_is db name)

numbered : (db : Database) (s : Source) → (named_table db s).table ≡ slice_get db (named_table db s).number
numbered db s = named_is db s.table ∙ find_at (λ (t : Table). bytes_eq t.name s.table) db

-- ---- the columns of a table, and of the tables of a FROM

module _ (db : Database) (tables : List ℕ) where
  -- those of the table from a number on
  of_table : (place n : ℕ) (t : Table) → slice_get tables place ≡ Some n → slice_get db n ≡ Some t
      → (m : ℕ) (cs : List table.Column) → ((j : ℕ) (c : table.Column) → slice_get cs j ≡ Some c → slice_get t.columns (m + j) ≡ Some c) → AllByRecursion (IsIn db tables) (table_columns place m cs)
  of_table place n t h k m [] there = tt
  of_table place n t h k m (c ∷ cs) there =
      let here : slice_get t.columns m ≡ Some c = (let e : m + 0 ≡ m = omega arith in rw e at (there 0 c refl)) in
      let behind : (j : ℕ) (d : table.Column) → slice_get cs j ≡ Some d → slice_get t.columns (m + 1 + j) ≡ Some d = λ j d e. (let f : m + suc j ≡ m + 1 + j = omega arith in rw f at (there (suc j) d e)) in
      ((n, t, c, h, k, here, refl), of_table place n t h k (m + 1) cs behind)

  of_named : (place n : ℕ) (t : Option Table) → slice_get tables place ≡ Some n → t ≡ slice_get db n → AllByRecursion (IsIn db tables) (table_columns place 0 (columns_of t))
  of_named place n None h k = tt
  of_named place n (Some t) h k = of_table place n t h (sym k) 0 t.columns (λ j c e. let f : 0 + j ≡ j = omega arith in rw f e)

  both_in : (fs gs : List Found) → AllByRecursion (IsIn db tables) fs → AllByRecursion (IsIn db tables) gs → AllByRecursion (IsIn db tables) (fs ++ gs)
  both_in [] gs h k = k
  both_in (f ∷ fs) gs h k = (h.0, both_in fs gs h.1 k)

  if_in : (b : Bool) (fs : List Found) → AllByRecursion (IsIn db tables) fs → AllByRecursion (IsIn db tables) (cond b fs [])
  if_in true fs h = h
  if_in false fs h = tt

  of_sources : (test : NamedTable → Bool) (k : ℕ) (sources : List Source) → ((j n : ℕ) → slice_get (numbers (scope_of db sources)) j ≡ Some n → slice_get tables (k + j) ≡ Some n)
      → AllByRecursion (IsIn db tables) (columns_where test k (scope_of db sources))
  of_sources test k [] there = tt
  of_sources test k (s ∷ sources) there =
      let t = named_table db s in
      let here : slice_get tables k ≡ Some t.number = (let e : k + 0 ≡ k = omega arith in rw e at (there 0 t.number refl)) in
      let behind : (j n : ℕ) → slice_get (numbers (scope_of db sources)) j ≡ Some n → slice_get tables (k + 1 + j) ≡ Some n = λ j n e. (let f : k + suc j ≡ k + 1 + j = omega arith in rw f at (there (suc j) n e)) in
      both_in (cond (test t) (table_columns k 0 (columns_of t.table)) []) _ (if_in (test t) _ (of_named k t.number t.table here (numbered db s))) (of_sources test (k + 1) sources behind)

  kept_in : (b : Bool) (f : Found) (fs : List Found) → IsIn db tables f → AllByRecursion (IsIn db tables) fs → AllByRecursion (IsIn db tables) (cond b (f ∷ fs) fs)
  kept_in true f fs h k = (h, k)
  kept_in false f fs h k = k

  name_in : (name : Name) (fs : List Found) → AllByRecursion (IsIn db tables) fs → AllByRecursion (IsIn db tables) (with_name name fs)
  name_in name [] h = tt
  name_in name (f ∷ fs) h = kept_in (bytes_eq f.name name) f _ h.0 (name_in name fs h.1)

pub columns_in : (db : Database) (test : NamedTable → Bool) (sources : List Source) → AllByRecursion (IsIn db (numbers (scope_of db sources))) (columns_where test 0 (scope_of db sources))
columns_in db test sources = of_sources db (numbers (scope_of db sources)) test 0 sources (λ j n e. let f : 0 + j ≡ j = omega arith in rw f e)

-- the columns of all tables of a FROM
pub all_in : (db : Database) (sources : List Source) → AllByRecursion (IsIn db (numbers (scope_of db sources))) (all_columns (scope_of db sources))
all_in db sources = columns_in db (λ t. true) sources

-- ---- what a reference stands for

-- the block that lies so many blocks outside has the column
pub record IsFound (db : Database) (froms : List (List Source)) (level : ℕ) (f : Found) : Type 0 where
  pub sources : List Source
  pub place : slice_get froms level ≡ Some sources
  pub has : IsIn db (numbers (scope_of db sources)) f

-- a block so many blocks outside of those that lie k blocks outside
abbrev IsFoundFrom : Database → List (List Source) → ℕ → ℕ → Found → Type 0
IsFoundFrom db froms k level f = (j : ℕ) × (level ≡ k + j) × IsFound db froms j f

here : (db : Database) (sources : List Source) (outer : List (List Source)) (k level : ℕ) (f : Found) → level ≡ k → IsIn db (numbers (scope_of db sources)) f → IsFoundFrom db (sources ∷ outer) k level f
here db sources outer k level f e h = (0, omega (arith, e), record { sources = sources; place = refl; has = h })

outward : (db : Database) (sources : List Source) (outer : List (List Source)) (k level : ℕ) (f : Found) → IsFoundFrom db outer (k + 1) level f → IsFoundFrom db (sources ∷ outer) k level f
outward db sources outer k level f h = (suc h.0, omega (arith, h.1), record { sources = h.2.sources; place = h.2.place; has = h.2.has })

only_found : (db : Database) (sources : List Source) (outer : List (List Source)) (k level : ℕ) (f : Found) (fs : List Found) (otherwise : Resolution) → AllByRecursion (IsIn db (numbers (scope_of db sources))) fs
    → (otherwise ≡ Named level f → IsFoundFrom db outer (k + 1) level f) → only_one k fs otherwise ≡ Named level f → IsFoundFrom db (sources ∷ outer) k level f
only_found db sources outer k level f [] otherwise all more e = outward db sources outer k level f (more e)
only_found db sources outer k level f (g ∷ []) otherwise all more e =
    let same : g ≡ f = cc in
    let at : k ≡ level = cc in
    here db sources outer k level f (sym at) (rw same at all.0)
only_found db sources outer k level f (g ∷ h ∷ fs) otherwise all more e = absurd cc

name_found : (db : Database) (froms : List (List Source)) (k : ℕ) (name : Name) (level : ℕ) (f : Found) → resolve_name k (map (scope_of db) froms) name ≡ Named level f → IsFoundFrom db froms k level f
name_found db [] k name level f e = absurd cc
name_found db (sources ∷ outer) k name level f e =
    only_found db sources outer k level f (with_name name (all_columns (scope_of db sources))) (resolve_name (k + 1) (map (scope_of db) outer) name)
    (name_in db (numbers (scope_of db sources)) name _ (all_in db sources)) (name_found db outer (k + 1) name level f) e

qualified_by : (db : Database) (sources : List Source) (outer : List (List Source)) (k level : ℕ) (f : Found) (fs : List Found) (b : Bool) (otherwise : Resolution) → AllByRecursion (IsIn db (numbers (scope_of db sources))) fs
    → (otherwise ≡ Named level f → IsFoundFrom db outer (k + 1) level f) → cond b (only_one k fs NotThere) otherwise ≡ Named level f → IsFoundFrom db (sources ∷ outer) k level f
qualified_by db sources outer k level f fs true otherwise all more e = only_found db sources outer k level f fs NotThere all (λ n. absurd cc) e
qualified_by db sources outer k level f fs false otherwise all more e = outward db sources outer k level f (more e)

qualified_found : (db : Database) (froms : List (List Source)) (k : ℕ) (qualifier name : Name) (level : ℕ) (f : Found) → resolve_qualified k (map (scope_of db) froms) qualifier name ≡ Named level f → IsFoundFrom db froms k level f
qualified_found db [] k qualifier name level f e = absurd cc
qualified_found db (sources ∷ outer) k qualifier name level f e =
    qualified_by db sources outer k level f (with_name name (columns_where (is_called qualifier) 0 (scope_of db sources))) (list_any (is_called qualifier) (scope_of db sources))
    (resolve_qualified (k + 1) (map (scope_of db) outer) qualifier name) (name_in db (numbers (scope_of db sources)) name _ (columns_in db (is_called qualifier) sources)) (qualified_found db outer (k + 1) qualifier name level f) e

reference_found : (db : Database) (froms : List (List Source)) (qualifier : Option Name) (name : Name) (level : ℕ) (f : Found) → resolve_by (map (scope_of db) froms) qualifier name ≡ Named level f → IsFoundFrom db froms 0 level f
reference_found db froms None name level f e = name_found db froms 0 name level f e
reference_found db froms (Some qualifier) name level f e = qualified_found db froms 0 qualifier name level f e

pub resolved_in : (db : Database) (froms : List (List Source)) (reference : ColumnReference) (level : ℕ) (f : Found) → resolve (map (scope_of db) froms) reference ≡ Named level f → IsFound db froms level f
resolved_in db froms reference level f e =
    let found = reference_found db froms reference.qualifier reference.name level f e in
    let same : found.0 ≡ level = omega (arith, found.1) in
    rw same at found.2

-- ---- the numbers of tables that are there

both : (a b : Bool) → (a && b) ≡ true → (a ≡ true) × (b ≡ true)
both true b h = (refl, h)
both false b h = absurd cc

is_within : (db : Database) (n : ℕ) (t : Option Table) → t ≡ slice_get db n → is_some t ≡ true → n < length db
is_within db n None e h = absurd cc
is_within db n (Some t) e h = slice_get_within db n t (sym e)

within : (db : Database) (sources : List Source) → list_all (λ (t : NamedTable). is_some t.table) (scope_of db sources) ≡ true → AllByRecursion (λ n. n < length db) (numbers (scope_of db sources))
within db [] h = tt
within db (s ∷ sources) h =
    let (first, others) = both (is_some (named_table db s).table) _ h in
    (is_within db (named_table db s).number (named_table db s).table (numbered db s) first, within db sources others)

pub numbers_within : (db : Database) (sources : List Source) → IsTrue (are_there (scope_of db sources ∷ [])) → AllByRecursion (λ n. n < length db) (numbers (scope_of db sources))
numbers_within db sources h = within db sources (both (list_all (λ (t : NamedTable). is_some t.table) (scope_of db sources)) _ (both (is_whole (scope_of db sources)) true h).0).0
