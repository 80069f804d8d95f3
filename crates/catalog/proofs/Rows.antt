-- A table's rows are those across its columns.
use Rattle.std.proofs.Common.{◌≡◌, ◌∙◌, refl, sym, ap, ℕ, zero, suc, ◌+◌, ◌<◌, ◌≤◌, List, [], ◌∷◌, Option, Some, None, Bool, true, false, cond, length, map, drop, get_or, slice_get, IfSome, arith}
use Rattle.std.specs.List.{AllByRecursion, position_from}
use Rattle.std.proofs.lemmas.List.{length-map, drop_more, drop_all}
use Rattle.definitions.specs.Value.{Null, IsType}
use Rattle.definitions.specs.Statement.{Name}
use Rattle.definitions.specs.Table.{Column, Table, TableStatistics}
use Rattle.definitions.specs.Scanning.{part_of}
use Rattle.loading.specs.Stored.{StoredColumn, AreFilled, headers}
use Rattle.loading.proofs.Rows.{length-rows_of, filled_at, cell_in_rows, column_values, rows_as_long}
use Rattle.indexes.specs.Indexes.{StoredIndex}
use Rattle.catalog.specs.Meaning.{cell_at, cells_in}
use Rattle.catalog.specs.Growth.{IsOf}
use Rattle.catalog.specs.Tables.{table_of}

pub of_view : (name : Name) (cs : List StoredColumn) (is : List StoredIndex) (n : ℕ) (f : TableStatistics) (t : Table) → table_of name cs is n f ≡ t → IsOf cs is n t
of_view name cs is n f t e = record {
  columns = ap (λ (u : Table). u.columns) (sym e);
  indexes = ap (λ (u : Table). u.indexes) (sym e);
  rows = ap (λ (u : Table). u.rows) (sym e);
}

pub rows_many : (cs : List StoredColumn) (is : List StoredIndex) (n : ℕ) (t : Table) → IsOf cs is n t → length t.rows ≡ n
rows_many cs is n t o = ap length o.rows ∙ length-rows_of n cs

pub columns_many : (cs : List StoredColumn) (is : List StoredIndex) (n : ℕ) (t : Table) → IsOf cs is n t → length t.columns ≡ length cs
columns_many cs is n t o = ap length o.columns ∙ length-map cs (λ (c : StoredColumn). c.header)

pub indexes_many : (cs : List StoredColumn) (is : List StoredIndex) (n : ℕ) (t : Table) → IsOf cs is n t → length t.indexes ≡ length is
indexes_many cs is n t o = ap length o.indexes ∙ length-map is (λ (i : StoredIndex). i.index)

pub cell_in_table : (cs : List StoredColumn) (is : List StoredIndex) (n : ℕ) (t : Table) (k j : ℕ) (c : StoredColumn) → IsOf cs is n t → k < length t.rows → j < length t.columns → c ≡ get_or cs j c
    → get_or c.values k Null ≡ cell_at t k j
cell_in_table cs is n t k j c o h l e =
    cell_in_rows n cs k j c (omega (arith, h, rows_many cs is n t o)) (omega (arith, l, columns_many cs is n t o)) e ∙ ap (λ rows. get_or (get_or rows k []) j Null) (sym o.rows)

pub value_in_table : (cs : List StoredColumn) (is : List StoredIndex) (n : ℕ) (t : Table) (k j : ℕ) (c : StoredColumn) → IsOf cs is n t → AreFilled n cs → k < length t.rows → j < length t.columns → c ≡ get_or cs j c → k < length c.values
value_in_table cs is n t k j c o f h l e = omega (arith, h, rows_many cs is n t o, filled_at n cs j c f (omega (arith, l, columns_many cs is n t o)) e)

pub part_in_table : (cs : List StoredColumn) (is : List StoredIndex) (n : ℕ) (t : Table) (j : ℕ) (c : StoredColumn) (first rows : ℕ) → IsOf cs is n t → AreFilled n cs → j < length t.columns → c ≡ get_or cs j c
    → part_of first rows c.values ≡ cells_in t j first rows
part_in_table cs is n t j c first rows o f l e =
    ap (part_of first rows) (sym (column_values n cs j c f (omega (arith, l, columns_many cs is n t o)) e)) ∙ ap (λ rs. part_of first rows (map (λ row. get_or row j Null) rs)) (sym o.rows)

pub cells_in_table : (cs : List StoredColumn) (is : List StoredIndex) (n : ℕ) (t : Table) (j : ℕ) (c : StoredColumn) → IsOf cs is n t → AreFilled n cs → j < length t.columns → c ≡ get_or cs j c
    → c.values ≡ map (λ row. get_or row j Null) t.rows
cells_in_table cs is n t j c o f l e =
    sym (column_values n cs j c f (omega (arith, l, columns_many cs is n t o)) e) ∙ ap (map (λ row. get_or row j Null)) (sym o.rows)

pub rows_in_column : (cs : List StoredColumn) (is : List StoredIndex) (n : ℕ) (t : Table) (j : ℕ) (c : StoredColumn) (last : ℕ) → IsOf cs is n t → AreFilled n cs → j < length t.columns → c ≡ get_or cs j c → last ≤ length t.rows
    → last ≤ length c.values
rows_in_column cs is n t j c last o f l e h = omega (arith, h, rows_many cs is n t o, filled_at n cs j c f (omega (arith, l, columns_many cs is n t o)) e)

pub whole_in_table : (cs : List StoredColumn) (is : List StoredIndex) (n : ℕ) (t : Table) → IsOf cs is n t → AllByRecursion (λ row. length row ≡ length t.columns) t.rows
whole_in_table cs is n t o = rw (o.columns, o.rows) (rows_as_long n cs)

-- the type of each column is one that columns may have
pub header_holds : (P : Column → Type 0) (cs : List StoredColumn) (i : ℕ) (x : StoredColumn) → i < length cs → x ≡ get_or cs i x → P x.header → IfSome (slice_get (headers cs) i) P
header_holds P [] i x l e p = absurd (omega (arith, l))
header_holds P (c ∷ cs) zero x l e p = let own = rw e at p in own
header_holds P (c ∷ cs) (suc i) x l e p = header_holds P cs i x (omega (arith, l)) e p

pub type_at : (cs : List StoredColumn) (i : ℕ) (x : StoredColumn) → AllByRecursion (λ (c : Column). IsType c.type) (headers cs) → i < length cs → x ≡ get_or cs i x → IsType x.header.type
type_at [] i x h l e = absurd (omega (arith, l))
type_at (c ∷ cs) zero x h l e = rw e h.0
type_at (c ∷ cs) (suc i) x h l e = type_at cs i x h.1 (omega (arith, l)) e

-- ---- a search for the first place: found, or one place further

pub position_found : {X : Type 0} (p : X → Bool) (xs : List X) (i : ℕ) (x : X) (o : Option ℕ) → i < length xs → x ≡ get_or xs i x → p x ≡ true → position_from p i (drop i xs) ≡ o → Some i ≡ o
position_found p xs i x o h e t s =
    let here : drop i xs ≡ x ∷ drop (i + 1) xs = drop_more xs i x h ∙ ap (λ y. y ∷ drop (i + 1) xs) (sym e) in
    let found : position_from p i (x ∷ drop (i + 1) xs) ≡ Some i = rw t refl in
    sym found ∙ ap (position_from p i) (sym here) ∙ s

pub position_further : {X : Type 0} (p : X → Bool) (xs : List X) (i : ℕ) (x : X) (o : Option ℕ) → i < length xs → x ≡ get_or xs i x → p x ≡ false → position_from p i (drop i xs) ≡ o
    → position_from p (i + 1) (drop (i + 1) xs) ≡ o
position_further p xs i x o h e t s =
    let here : drop i xs ≡ x ∷ drop (i + 1) xs = drop_more xs i x h ∙ ap (λ y. y ∷ drop (i + 1) xs) (sym e) in
    let passed : position_from p i (x ∷ drop (i + 1) xs) ≡ position_from p (i + 1) (drop (i + 1) xs) = rw t refl in
    sym passed ∙ ap (position_from p i) (sym here) ∙ s

pub position_none : {X : Type 0} (p : X → Bool) (xs : List X) (i : ℕ) (o : Option ℕ) → length xs ≤ i → position_from p i (drop i xs) ≡ o → None ≡ o
position_none p xs i o h s = let none : drop i xs ≡ [] = drop_all i xs h in ap (position_from p i) (sym none) ∙ s

pub position-map : {X Y : Type 0} (f : X → Y) (p : Y → Bool) (i : ℕ) (xs : List X) → position_from p i (map f xs) ≡ position_from (λ x. p (f x)) i xs
position-map f p i [] = refl
position-map f p i (x ∷ xs) = ap (λ o. cond (p (f x)) (Some i) o) (position-map f p (i + 1) xs)
