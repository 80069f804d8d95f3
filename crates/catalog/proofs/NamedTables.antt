-- The table of a name in a database, and changes to it.
use Rattle.std.proofs.Common.{◌≡◌, ◌∙◌, refl, sym, ap, ℕ, zero, suc, ◌+◌, ◌-◌, ◌≤◌, List, [], ◌∷◌, Option, Some, None, Bool, true, false, cond, get_or, set, Bor, arith}
use Rattle.std.specs.Prelude.{◌||◌, bytes_eq, is_some}
use Rattle.std.specs.Option.{option_copied}
use Rattle.std.specs.List.{list_any, position_from}
use Rattle.definitions.specs.Statement.{Name}
use Rattle.definitions.specs.Table.{Table, Database, table_named}
use Rattle.definitions.specs.Change.{changed}
use Rattle.catalog.specs.Databases.{table_names}
use Rattle.catalog.proofs.NamesInOrder.{same_way}

-- a search that finds no place
no_first : (t : Table) (ts : Database) (name : Name) (i : ℕ) (b : Bool) → (position_from (λ (u : Table). bytes_eq u.name name) (i + 1) ts ≡ None → table_named ts name ≡ None)
    → cond b (Some i) (position_from (λ (u : Table). bytes_eq u.name name) (i + 1) ts) ≡ None → cond b (Some t) (table_named ts name) ≡ None
no_first t ts name i true m e = absurd cc
no_first t ts name i false m e = m e

pub named_none : (db : Database) (name : Name) (i : ℕ) → position_from (λ (t : Table). bytes_eq t.name name) i db ≡ None → table_named db name ≡ None
named_none [] name i h = refl
named_none (t ∷ ts) name i h = no_first t ts name i (bytes_eq t.name name) (named_none ts name (i + 1)) h

-- the k-th table is the one of a name, and a change of it changes the k-th
pub record IsPlace (db : Database) (name : Name) (k : ℕ) : Type 0 where
  pub is : (d : Table) → table_named db name ≡ Some (get_or db k d)
  pub change : (f : Table → Table) (t d : Table) → t ≡ f (get_or db k d) → changed f db name ≡ set db k t

placed_here : (t : Table) (ts : Database) (name : Name) → bytes_eq t.name name ≡ true → IsPlace (t ∷ ts) name 0
placed_here t ts name e = record {
  is = λ d. rw e refl;
  change = λ f u d h. rw (e, h) refl;
}

placed_later : (t : Table) (ts : Database) (name : Name) (k : ℕ) → bytes_eq t.name name ≡ false → IsPlace ts name k → IsPlace (t ∷ ts) name (suc k)
placed_later t ts name k e p = record {
  is = λ d. rw e (p.is d);
  change = λ f u d h. rw e (ap (λ us. t ∷ us) (p.change f u d h));
}

-- the place that a search finds, where it begins at i
found_by : (t : Table) (ts : Database) (name : Name) (i k : ℕ) (b : Bool) → bytes_eq t.name name ≡ b → cond b (Some i) (position_from (λ (u : Table). bytes_eq u.name name) (i + 1) ts) ≡ Some k
    → (position_from (λ (u : Table). bytes_eq u.name name) (i + 1) ts ≡ Some k → (i + 1 ≤ k) × IsPlace ts name (k - (i + 1))) → (i ≤ k) × IsPlace (t ∷ ts) name (k - i)
found_by t ts name i k true e h later =
    let same : i ≡ k = cc in
    let first : k - i ≡ 0 = omega arith in
    (omega arith, rw first (placed_here t ts name e))
found_by t ts name i k false e h later =
    let (least, place) = later h in
    let next : k - i ≡ suc (k - (i + 1)) = omega (arith, least) in
    (omega (arith, least), rw next (placed_later t ts name (k - (i + 1)) e place))

placed : (db : Database) (name : Name) (i k : ℕ) → position_from (λ (t : Table). bytes_eq t.name name) i db ≡ Some k → (i ≤ k) × IsPlace db name (k - i)
placed [] name i k h = absurd cc
placed (t ∷ ts) name i k h = found_by t ts name i k (bytes_eq t.name name) refl h (placed ts name (i + 1) k)

pub named_some : (db : Database) (name : Name) (k : ℕ) → Some k ≡ position_from (λ (t : Table). bytes_eq t.name name) 0 db → IsPlace db name k
named_some db name k h = let same : k - 0 ≡ k = omega arith in rw same at (placed db name 0 k (sym h)).1

-- the test whether there is a table of a name
pub taken : (db : Database) (name : Name) (o : Option (Bor Table)) → option_copied o ≡ table_named db name → is_some o ≡ true → (t : Table) × (table_named db name ≡ Some t)
taken db name None e h = absurd cc
taken db name (Some t) e h = (t.now, sym e)

pub not_taken : (db : Database) (name : Name) (o : Option (Bor Table)) → option_copied o ≡ table_named db name → is_some o ≡ false → table_named db name ≡ None
not_taken db name None e h = sym e
not_taken db name (Some t) e h = absurd cc

-- ---- the tables' names

-- a name without a table is none of them
none_by : (b : Bool) (t : Table) (o : Option Table) (rest : Bool) → cond b (Some t) o ≡ None → (o ≡ None → rest ≡ false) → (b || rest) ≡ false
none_by true t o rest e m = absurd cc
none_by false t o rest e m = m e

not_among : (db : Database) (name : Name) → table_named db name ≡ None → list_any (bytes_eq name) (table_names db) ≡ false
not_among [] name h = refl
not_among (t ∷ ts) name h =
    ap (λ b. b || list_any (bytes_eq name) (table_names ts)) (same_way name t.name) ∙ none_by (bytes_eq t.name name) t (table_named ts name) (list_any (bytes_eq name) (table_names ts)) h (not_among ts name)

pub new_name : (names : List Name) (items db : Database) (name : Name) → names ≡ table_names items → items ≡ db → table_named db name ≡ None → list_any (bytes_eq name) names ≡ false
new_name names items db name n v h = ap (list_any (bytes_eq name)) (n ∙ ap table_names v) ∙ not_among db name h

-- they stay where a table keeps its name
pub names_stay : (db : Database) (k : ℕ) (t new : Table) → t ≡ get_or db k t → new.name ≡ t.name → table_names (set db k new) ≡ table_names db
names_stay [] k t new e h = refl
names_stay (x ∷ xs) zero t new e h = ap (λ n. n ∷ table_names xs) (h ∙ ap (λ (u : Table). u.name) e)
names_stay (x ∷ xs) (suc k) t new e h = ap (λ ns. x.name ∷ ns) (names_stay xs k t new e h)
