-- The key columns of old rows, as the table's columns have them.
use Rattle.std.proofs.Common.{◌≡◌, ◌∙◌, refl, sym, ap, subst, ℕ, zero, suc, ◌+◌, ◌<◌, List, [], ◌∷◌, length, map, get_or, Option, Some, None, Bor, arith}
use Rattle.std.specs.Prelude.{IfSome}
use Rattle.std.specs.Slice.{IsItemAt}
use Rattle.std.proofs.lemmas.List.{get_or-map, length-map, ext_get_or}
use Rattle.std.proofs.lemmas.List.Sorted.{length_permutation}
use Rattle.definitions.specs.Value.{Null}
use Rattle.definitions.specs.Key.{Key, AreUnique}
use Rattle.definitions.specs.IndexRun.{Entry, IsRun, entries_from, entry_rows}
use Rattle.columns.specs.Cells.{CellList}
use Rattle.columns.specs.Starts.{value_in}
use Rattle.columns.specs.Columns.{cells_of}
use Rattle.columns.specs.declared.column.Column.{Column}
use Rattle.indexes.specs.Keys.{key_in, entry_in, columns_of, AreOfHeight}
use Rattle.indexes.specs.Merging.{ArePlaces, AreWoven, IsCarried, woven}
use Rattle.indexes.specs.Runs.{entries_at}
use Rattle.indexes.specs.declared.merging.KeyedRows.{KeyedRows}
use Rattle.indexes.proofs.Entries.{rows_of_entries}
use Rattle.indexes.proofs.KeyStretches.{height_at}
use Rattle.indexes.proofs.Weaving.{woven-map}

-- the keys of old rows are those of the table
keys_kept : (kept columns : List CellList) (place : ℕ) (rows : List ℕ) (k : ℕ) → entries_at kept place rows ≡ map (entry_in columns) rows → k < length rows → key_in kept (place + k) ≡ key_in columns (get_or rows k 0)
keys_kept kept columns place [] k e h = absurd (omega (arith, h))
keys_kept kept columns place (row ∷ rows) zero e h =
    let z : place + 0 ≡ place = omega arith in
    ap (key_in kept) z ∙ first (record { row = row; key = key_in kept place }) (entry_in columns row) (entries_at kept (suc place) rows) (map (entry_in columns) rows) e
  where
    first : (x y : Entry) (xs ys : List Entry) → x ∷ xs ≡ y ∷ ys → x.key ≡ y.key
    first x y xs ys g = ap (λ (z : Entry). z.key) (heads x y xs ys g)
      where
        heads : (x y : Entry) (xs ys : List Entry) → x ∷ xs ≡ y ∷ ys → x ≡ y
        heads x y xs ys g = cc
keys_kept kept columns place (row ∷ rows) (suc k) e h =
    let s : suc place + k ≡ place + suc k = omega arith in
    ap (key_in kept) (sym s) ∙ keys_kept kept columns (suc place) rows k (rest (record { row = row; key = key_in kept place }) (entry_in columns row) (entries_at kept (suc place) rows) (map (entry_in columns) rows) e) (omega (arith, h))
  where
    rest : (x y : Entry) (xs ys : List Entry) → x ∷ xs ≡ y ∷ ys → xs ≡ ys
    rest x y xs ys g = cc

module _ (kept columns : List CellList) (rows : List ℕ) (entries : List Entry) (keyed : KeyedRows) (view : entries_at kept 0 rows ≡ entries) (old : map (entry_in columns) (entry_rows entries) ≡ entries) (w : AreWoven (entry_rows entries) keyed) (high : AreOfHeight (length rows) kept) where
  own_rows : entry_rows entries ≡ rows
  own_rows = ap entry_rows (sym view) ∙ rows_of_entries kept 0 rows

  same_entries : entries_at kept 0 rows ≡ map (entry_in columns) rows
  same_entries = view ∙ sym old ∙ ap (map (entry_in columns)) own_rows

  module _ (i : ℕ) (column own : CellList) (there : i < length kept) (there' : i < length columns) (is : own ≡ get_or kept i own) (is' : column ≡ get_or columns i column) where
    long : length own.values ≡ length rows
    long = ap (λ (c : CellList). length c.values) is ∙ height_at kept i own high there

    value_kept : (k : ℕ) → k < length rows → value_in own k ≡ value_in column (get_or rows k 0)
    value_kept k h =
        let z : 0 + k ≡ k = omega arith in
        let row = get_or rows k 0 in
        ap (λ (c : CellList). value_in c k) is ∙ sym (get_or-map (λ (c : CellList). value_in c k) kept i own Null there)
        ∙ ap (λ key. get_or key i Null) (ap (key_in kept) (sym z) ∙ keys_kept kept columns 0 rows k same_entries h)
        ∙ get_or-map (λ (c : CellList). value_in c row) columns i column Null there' ∙ ap (λ (c : CellList). value_in c row) (sym is')

    values_kept : own.values ≡ map (value_in column) rows
    values_kept = ext_get_or Null own.values (map (value_in column) rows) (long ∙ sym (length-map rows (value_in column)))
        (λ k h. let l : k < length rows = omega (arith, h, long) in value_kept k l ∙ sym (get_or-map (value_in column) rows k 0 Null l))

    pub carried : IsCarried keyed column own
    carried = record {
      values = ap (map (value_in column)) w.rows ∙ woven-map (value_in column) (entry_rows entries) 0 keyed.further.items keyed.places.items
          ∙ ap (λ vs. woven vs 0 (map (value_in column) keyed.further.items) keyed.places.items) (ap (map (value_in column)) own_rows ∙ sym values_kept);
      places = let n : length (entry_rows entries) ≡ length own.values = ap length own_rows ∙ sym long in subst (λ m. ArePlaces 0 m keyed.places.items) n w.places;
      each = w.each;
    }

pub if_carried : (kept columns : List CellList) (rows : List ℕ) (entries : List Entry) (keyed : KeyedRows) → entries_at kept 0 rows ≡ entries → map (entry_in columns) (entry_rows entries) ≡ entries → AreWoven (entry_rows entries) keyed → AreOfHeight (length rows) kept
    → (i : ℕ) (column : CellList) → i < length columns → column ≡ get_or columns i column → (own : Option (Bor CellList)) → IsItemAt kept i own → IfSome own (λ x. IsCarried keyed column x.now)
if_carried kept columns rows entries keyed view old w high i column there is None at = tt
if_carried kept columns rows entries keyed view old w high i column there is (Some x) at = carried kept columns rows entries keyed view old w high i column x.now at.3.0 there at.1 is

pub carried_so : (keyed : KeyedRows) (column old : CellList) (given : Option (Bor CellList)) (own : Bor CellList) → given ≡ Some own → IfSome given (λ x. IsCarried keyed column x.now) → old ≡ own.now → IsCarried keyed column old
carried_so keyed column old given own e kept view = rw view (rw e at kept)

pub key_at_place : (keys : List (Bor Column)) (i : ℕ) (key : Bor Column) → i < length keys → key ≡ get_or keys i key → cells_of key.now ≡ get_or (columns_of keys) i (cells_of key.now)
key_at_place keys i key h e = ap (λ (k : Bor Column). cells_of k.now) e ∙ sym (get_or-map (λ (k : Bor Column). cells_of k.now) keys i key (cells_of key.now) h)

-- ---- no rows

pub no_run : IsRun [] []
no_run = (record { moves = []; below = tt; is = refl }, tt)

pub once_of_none : (keys : List Key) → IsRun keys [] → AreUnique keys
once_of_none [] run = tt
once_of_none (k ∷ ks) run = let n = length_permutation (entries_from 0 (k ∷ ks)) [] run.0 in absurd (omega (arith, n))
