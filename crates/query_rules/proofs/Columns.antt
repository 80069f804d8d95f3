-- The columns of a table, one after another.
use Rattle.std.proofs.Common.{◌≡◌, ◌∙◌, refl, sym, ap, ℕ, zero, suc, ◌+◌, ◌≤◌, List, [], ◌∷◌, ◌++◌, Some, true, false, length, map, drop, option_map, arith}
use Rattle.std.specs.Prelude.{slice_get, bytes_eq}
use Rattle.std.proofs.lemmas.List.{append-nil, append_assoc, drop_more, map-append}
use Rattle.std.proofs.lemmas.Option.{slice_get_within, get_or_from_slice_get}
use Rattle.definitions.specs.Value.{SqlType}
use Rattle.definitions.specs.Statement.{Name}
use Rattle.definitions.specs.Table.{Column}
use Rattle.definitions.specs.Binding.Scopes.{Found, Resolution, table_columns, with_name}
use Rattle.query_rules.specs.Search.{with_one, with_all}

abbrev found : (table number : ℕ) → SqlType → Name → Found
found table number type name = record { column = record { table = table; number = number }; type = type; name = name }

found_same : (t m n : ℕ) (a b : SqlType) (x y : Name) → m ≡ n → a ≡ b → x ≡ y → Some (found t m a x) ≡ Some (found t n b y)
found_same t m n a b x y e f h = rw (e, f, h) refl

-- the column of a number, counted from n on
at_number : (t n i : ℕ) (cs : List Column) (a : SqlType) (x : Name) → option_map (λ (c : Column). c.type) (slice_get cs i) ≡ Some a → option_map (λ (c : Column). c.name) (slice_get cs i) ≡ Some x
    → slice_get (table_columns t n cs) i ≡ Some (found t (n + i) a x)
at_number t n i [] a x e f = absurd cc
at_number t n zero (c ∷ cs) a x e f = found_same t n (n + 0) c.type a c.name x (omega arith) (cc) (cc)
at_number t n (suc i) (c ∷ cs) a x e f = at_number t (n + 1) i cs a x e f ∙ found_same t (n + 1 + i) (n + suc i) a a x x (omega arith) refl refl

pub column_at : (t i : ℕ) (cs : List Column) (a : SqlType) (x : Name) → option_map (λ (c : Column). c.type) (slice_get cs i) ≡ Some a → option_map (λ (c : Column). c.name) (slice_get cs i) ≡ Some x
    → slice_get (table_columns t 0 cs) i ≡ Some (found t i a x)
column_at t i cs a x e f = at_number t 0 i cs a x e f ∙ found_same t (0 + i) i a a x x (omega arith) refl refl

pub length_columns : (t n : ℕ) (cs : List Column) → length (table_columns t n cs) ≡ length cs
length_columns t n [] = refl
length_columns t n (c ∷ cs) = ap suc (length_columns t (n + 1) cs)

pub drop_found : {X : Type 0} (xs : List X) (i : ℕ) (x : X) → slice_get xs i ≡ Some x → drop i xs ≡ x ∷ drop (i + 1) xs
drop_found xs i x e = drop_more xs i x (slice_get_within xs i x e) ∙ ap (λ y. y ∷ drop (i + 1) xs) (get_or_from_slice_get xs i x x e)

pub drop_behind : {X : Type 0} (xs : List X) (i : ℕ) → length xs ≤ i → drop i xs ≡ []
drop_behind [] zero h = refl
drop_behind [] (suc i) h = refl
drop_behind (x ∷ xs) zero h = absurd (omega (arith, h))
drop_behind (x ∷ xs) (suc i) h = drop_behind xs i (omega (arith, h))

-- ---- a name that is sought in columns from a number on

pub search_here : (level : ℕ) (r s t : Resolution) (name : Name) (fs : List Found) (i : ℕ) (f : Found) → slice_get fs i ≡ Some f → bytes_eq f.name name ≡ true → s ≡ with_one level r f
    → with_all level r (with_name name (drop i fs)) ≡ t → with_all level s (with_name name (drop (i + 1) fs)) ≡ t
search_here level r s t name fs i f e h w all = rw w (rw (drop_found fs i f e, h) at all)

pub search_on : (level : ℕ) (r s t : Resolution) (name : Name) (fs : List Found) (i : ℕ) (f : Found) → slice_get fs i ≡ Some f → bytes_eq f.name name ≡ false → s ≡ r
    → with_all level r (with_name name (drop i fs)) ≡ t → with_all level s (with_name name (drop (i + 1) fs)) ≡ t
search_on level r s t name fs i f e h w all = rw w (rw (drop_found fs i f e, h) at all)

pub search_end : (level : ℕ) (r t : Resolution) (name : Name) (place i : ℕ) (cs : List Column) → length cs ≤ i → with_all level r (with_name name (drop i (table_columns place 0 cs))) ≡ t → r ≡ t
search_end level r t name place i cs h all = rw (drop_behind (table_columns place 0 cs) i (omega (arith, h, length_columns place 0 cs))) at all

-- ---- columns that are added one after another

pub added : {X : Type 0} (named : X → Found) (xs ys : List X) (x : X) (all fs : List Found) (i : ℕ) → slice_get fs i ≡ Some (named x) → ys ≡ xs ++ x ∷ []
    → map named xs ++ drop i fs ≡ all → map named ys ++ drop (i + 1) fs ≡ all
added named xs ys x all fs i e p h =
    rw (p, map-append named xs (x ∷ []), append_assoc (map named xs) (named x ∷ []) (drop (i + 1) fs)) (rw (drop_found fs i (named x) e) at h)

pub added_all : {X : Type 0} (named : X → Found) (xs : List X) (all : List Found) (place i : ℕ) (cs : List Column) → length cs ≤ i → map named xs ++ drop i (table_columns place 0 cs) ≡ all → map named xs ≡ all
added_all named xs all place i cs h e = sym (append-nil (map named xs)) ∙ (rw (drop_behind (table_columns place 0 cs) i (omega (arith, h, length_columns place 0 cs))) at e)
