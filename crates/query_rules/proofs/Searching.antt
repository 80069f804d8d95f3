-- A name that is sought in the tables of one FROM after another.
use Rattle.std.proofs.Common.{◌≡◌, ◌∙◌, refl, sym, ap, ℕ, ◌+◌, ◌<◌, ◌≤◌, List, [], ◌∷◌, ◌++◌, Bool, true, false, length, map, drop, get_or}
use Rattle.std.specs.List.{list_any}
use Rattle.std.proofs.lemmas.List.{append-nil, append_assoc}
use Rattle.std.proofs.lemmas.List.Elements.{filter-append}
use Rattle.definitions.specs.Statement.{Name}
use Rattle.definitions.specs.Binding.Scopes.{NamedTable, Scope, Found, Resolution, NotThere, Ambiguous, table_columns, columns_of, columns_where, with_name, all_columns, only_one, is_called, resolve_name, resolve_qualified}
use Rattle.query_rules.specs.Search.{with_one, with_all, is_there}
use Rattle.query_rules.proofs.Views.{seen_next, seen_behind}

-- ---- the tables of one FROM

with_both : (level : ℕ) (r : Resolution) (xs ys : List Found) → with_all level r (xs ++ ys) ≡ with_all level (with_all level r xs) ys
with_both level r [] ys = refl
with_both level r (x ∷ xs) ys = with_both level (with_one level r x) xs ys

with_tables : (level : ℕ) (r : Resolution) (name : Name) (xs ys : List Found) → with_all level r (with_name name (xs ++ ys)) ≡ with_all level (with_all level r (with_name name xs)) (with_name name ys)
with_tables level r name xs ys = ap (with_all level r) (filter-append _ xs ys) ∙ with_both level r (with_name name xs) (with_name name ys)

pub meant_here : {A : Type 0} (view : A → NamedTable) (test : NamedTable → Bool) (level : ℕ) (r s t : Resolution) (name : Name) (xs : List A) (i : ℕ) (x : A) → i < length xs → x ≡ get_or xs i x
    → test (view x) ≡ true → s ≡ with_all level r (with_name name (table_columns i 0 (columns_of (view x).table)))
    → with_all level r (with_name name (columns_where test i (map view (drop i xs)))) ≡ t → with_all level s (with_name name (columns_where test (i + 1) (map view (drop (i + 1) xs)))) ≡ t
meant_here view test level r s t name xs i x l e h w all =
    rw w (sym (with_tables level r name (table_columns i 0 (columns_of (view x).table)) (columns_where test (i + 1) (map view (drop (i + 1) xs)))) ∙ (rw (seen_next view xs i x l e, h) at all))

pub not_meant : {A : Type 0} (view : A → NamedTable) (test : NamedTable → Bool) (level : ℕ) (r s t : Resolution) (name : Name) (xs : List A) (i : ℕ) (x : A) → i < length xs → x ≡ get_or xs i x
    → test (view x) ≡ false → s ≡ r
    → with_all level r (with_name name (columns_where test i (map view (drop i xs)))) ≡ t → with_all level s (with_name name (columns_where test (i + 1) (map view (drop (i + 1) xs)))) ≡ t
not_meant view test level r s t name xs i x l e h w all = rw w (rw (seen_next view xs i x l e, h) at all)

ambiguous : (level : ℕ) (fs : List Found) → with_all level Ambiguous fs ≡ Ambiguous
ambiguous level [] = refl
ambiguous level (f ∷ fs) = ambiguous level fs

only_with_all : (level : ℕ) (fs : List Found) → with_all level NotThere fs ≡ only_one level fs NotThere
only_with_all level [] = refl
only_with_all level (f ∷ []) = refl
only_with_all level (f ∷ g ∷ fs) = ambiguous level fs

pub only_all : {A : Type 0} (view : A → NamedTable) (test : NamedTable → Bool) (level : ℕ) (r : Resolution) (name : Name) (xs : List A) (i : ℕ) → length xs ≤ i
    → with_all level r (with_name name (columns_where test i (map view (drop i xs)))) ≡ with_all level NotThere (with_name name (columns_where test 0 (map view xs))) → r ≡ only_one level (with_name name (columns_where test 0 (map view xs))) NotThere
only_all view test level r name xs i h all = (rw (seen_behind view xs i h) at all) ∙ only_with_all level (with_name name (columns_where test 0 (map view xs)))

-- ---- the columns of the tables, one table after another

pub tables_added : {A : Type 0} (view : A → NamedTable) (all fs gs : List Found) (xs : List A) (i : ℕ) (x : A) → i < length xs → x ≡ get_or xs i x → gs ≡ fs ++ table_columns i 0 (columns_of (view x).table)
    → fs ++ columns_where (λ t. true) i (map view (drop i xs)) ≡ all → gs ++ columns_where (λ t. true) (i + 1) (map view (drop (i + 1) xs)) ≡ all
tables_added view all fs gs xs i x l e h a =
    rw (h, append_assoc fs (table_columns i 0 (columns_of (view x).table)) (columns_where (λ t. true) (i + 1) (map view (drop (i + 1) xs)))) (rw (seen_next view xs i x l e) at a)

pub tables_all : {A : Type 0} (view : A → NamedTable) (all fs : List Found) (xs : List A) (i : ℕ) → length xs ≤ i → fs ++ columns_where (λ t. true) i (map view (drop i xs)) ≡ all → fs ≡ all
tables_all view all fs xs i h a = sym (append-nil fs) ∙ (rw (seen_behind view xs i h) at a)

-- ---- one FROM after another

found_here : (level : ℕ) (fs : List Found) (otherwise : Resolution) → is_there (only_one level fs NotThere) ≡ true → only_one level fs otherwise ≡ only_one level fs NotThere
found_here level [] otherwise h = absurd cc
found_here level (f ∷ []) otherwise h = refl
found_here level (f ∷ g ∷ fs) otherwise h = refl

not_here : (level : ℕ) (fs : List Found) (otherwise : Resolution) → is_there (only_one level fs NotThere) ≡ false → only_one level fs otherwise ≡ otherwise
not_here level [] otherwise h = refl
not_here level (f ∷ []) otherwise h = absurd cc
not_here level (f ∷ g ∷ fs) otherwise h = absurd cc

pub name_here : {A : Type 0} (view : A → Scope) (r t : Resolution) (name : Name) (xs : List A) (i : ℕ) (x : A) → i < length xs → x ≡ get_or xs i x
    → r ≡ only_one i (with_name name (all_columns (view x))) NotThere → is_there r ≡ true → resolve_name i (map view (drop i xs)) name ≡ t → r ≡ t
name_here view r t name xs i x l e h there all =
    h ∙ sym (found_here i (with_name name (all_columns (view x))) _ (ap is_there (sym h) ∙ there)) ∙ (rw (seen_next view xs i x l e) at all)

pub name_outward : {A : Type 0} (view : A → Scope) (r t : Resolution) (name : Name) (xs : List A) (i : ℕ) (x : A) → i < length xs → x ≡ get_or xs i x
    → r ≡ only_one i (with_name name (all_columns (view x))) NotThere → is_there r ≡ false → resolve_name i (map view (drop i xs)) name ≡ t → resolve_name (i + 1) (map view (drop (i + 1) xs)) name ≡ t
name_outward view r t name xs i x l e h there all =
    sym (not_here i (with_name name (all_columns (view x))) _ (ap is_there (sym h) ∙ there)) ∙ (rw (seen_next view xs i x l e) at all)

pub qualifier_here : {A : Type 0} (view : A → Scope) (r t : Resolution) (qualifier name : Name) (xs : List A) (i : ℕ) (x : A) → i < length xs → x ≡ get_or xs i x
    → list_any (is_called qualifier) (view x) ≡ true → r ≡ only_one i (with_name name (columns_where (is_called qualifier) 0 (view x))) NotThere → resolve_qualified i (map view (drop i xs)) qualifier name ≡ t → r ≡ t
qualifier_here view r t qualifier name xs i x l e h only all = only ∙ (rw (seen_next view xs i x l e, h) at all)

pub qualifier_outward : {A : Type 0} (view : A → Scope) (t : Resolution) (qualifier name : Name) (xs : List A) (i : ℕ) (x : A) → i < length xs → x ≡ get_or xs i x
    → list_any (is_called qualifier) (view x) ≡ false → resolve_qualified i (map view (drop i xs)) qualifier name ≡ t → resolve_qualified (i + 1) (map view (drop (i + 1) xs)) qualifier name ≡ t
qualifier_outward view t qualifier name xs i x l e h all = rw (seen_next view xs i x l e, h) at all

pub name_nowhere : {A : Type 0} (view : A → Scope) (t : Resolution) (name : Name) (xs : List A) (i : ℕ) → length xs ≤ i → resolve_name i (map view (drop i xs)) name ≡ t → NotThere ≡ t
name_nowhere view t name xs i h all = rw (seen_behind view xs i h) at all

pub qualifier_nowhere : {A : Type 0} (view : A → Scope) (t : Resolution) (qualifier name : Name) (xs : List A) (i : ℕ) → length xs ≤ i → resolve_qualified i (map view (drop i xs)) qualifier name ≡ t → NotThere ≡ t
qualifier_nowhere view t qualifier name xs i h all = rw (seen_behind view xs i h) at all
