-- The tables of a block, and of the blocks around it.
use Rattle.std.proofs.Common.{◌≡◌, refl, sym, ap, subst, ℕ, ◌≤◌, length, arith, List, [], ◌∷◌, Some, Bool, true, false, map}
use Rattle.std.specs.Prelude.{◌&&◌, IsTrue, is_some, nat_le, slice_get}
use Rattle.std.proofs.lemmas.List.{length-map}
use Rattle.std.proofs.lemmas.Bool.Decides.{nat_tests}
use Rattle.std.specs.Global.{Vec}
use Rattle.std.specs.List.{list_all}
use Rattle.definitions.specs.Limits.{most_from_tables}
use Rattle.definitions.specs.Statement.{Source}
use Rattle.definitions.specs.Table.{Database}
use Rattle.definitions.specs.Binding.Scopes.{NamedTable, Scope, Scopes, is_whole, are_there, own_scope, scope_of}
use Rattle.query_rules.specs.declared.named_table.NamedTable as code
use Rattle.query_rules.specs.ScopeRules.{named_of, tables_of, scopes_of, AreFew}

pub own_is : {A : Type 0} (view : A → Scope) (xs : List A) (x : A) → Some x ≡ slice_get xs 0 → own_scope (map view xs) ≡ view x
own_is view [] x h = absurd cc
own_is view (y ∷ xs) x h = let same : y ≡ x = cc in ap view same

pub numbers_seen : (ts : List code.NamedTable) → map (λ (t : code.NamedTable). t.number) ts ≡ map (λ (t : NamedTable). t.number) (map named_of ts)
numbers_seen [] = refl
numbers_seen (t ∷ ts) = ap (λ ns. t.number ∷ ns) (numbers_seen ts)

-- ---- all tables that are named are there

tables_there : (ts : List code.NamedTable) → list_all (λ (t : NamedTable). is_some t.table) (map named_of ts) ≡ true
tables_there [] = refl
tables_there (t ∷ ts) = tables_there ts

both_true : (a b : Bool) → a ≡ true → b ≡ true → (a && b) ≡ true
both_true a b e f = rw (e, f) refl

first_true : (a b : Bool) → (a && b) ≡ true → (a && true) ≡ true
first_true true b h = refl
first_true false b h = h

is_few : (n : ℕ) → n ≤ most_from_tables → nat_le n most_from_tables ≡ true
is_few n h = grind (arith, nat_tests, h)

pub scopes_there : (xs : List (Vec code.NamedTable)) → AreFew (scopes_of xs) → IsTrue (are_there (scopes_of xs))
scopes_there [] few = refl
scopes_there (x ∷ xs) few =
    both_true (is_whole (tables_of x)) (are_there (scopes_of xs)) (both_true (list_all (λ (t : NamedTable). is_some t.table) (tables_of x)) _ (tables_there x.items) (is_few (length (tables_of x)) few.0)) (scopes_there xs few.1)

pub first_there : (xs : List (Vec code.NamedTable)) (scope : Scope) (outer : Scopes) → AreFew (scopes_of xs) → scopes_of xs ≡ scope ∷ outer → IsTrue (are_there (scope ∷ []))
first_there xs scope outer few e = first_true _ (are_there outer) (rw e at (scopes_there xs few))

-- the tables of a FROM within its limit, and those around it
pub few_inside : (db : Database) (sources : List Source) (outer : Scopes) → length sources ≤ most_from_tables → AreFew outer → (scopes : Scopes) → scopes ≡ scope_of db sources ∷ outer → AreFew scopes
few_inside db sources outer few around scopes e =
    let n : length (scope_of db sources) ≡ length sources = length-map sources _ in
    subst AreFew (sym e) (omega (arith, n, few), around)
