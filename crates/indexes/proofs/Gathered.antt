-- Columns of keys, taken from a table's columns.
use Rattle.std.proofs.Common.{◌≡◌, ◌∙◌, refl, sym, ap, ap₂, ℕ, suc, ◌+◌, ◌<◌, ◌≤◌, List, [], ◌∷◌, ◌++◌, length, map, drop, get_or, Bor, arith}
use Rattle.std.proofs.lemmas.List.{get_or-map, length-map, append-nil, drop_all}
use Rattle.definitions.specs.Value.{Null, SqlType}
use Rattle.columns.specs.Cells.{CellList}
use Rattle.columns.specs.Starts.{value_in}
use Rattle.indexes.specs.Keys.{gathered, key_in, entry_in, types_of, AreOfHeight, columns_of}
use Rattle.columns.specs.declared.column.Column.{Column}
use Rattle.indexes.specs.Runs.{entries_at}

pub types_gathered : (rows : List ℕ) (columns : List CellList) → types_of (map (gathered rows) columns) ≡ types_of columns
types_gathered rows [] = refl
types_gathered rows (column ∷ columns) = ap (λ ts. column.type ∷ ts) (types_gathered rows columns)

pub height_gathered : (rows : List ℕ) (columns : List CellList) → AreOfHeight (length rows) (map (gathered rows) columns)
height_gathered rows [] = tt
height_gathered rows (column ∷ columns) = (length-map rows (value_in column), height_gathered rows columns)

key_gathered : (rows : List ℕ) (columns : List CellList) (place : ℕ) → place < length rows → key_in (map (gathered rows) columns) place ≡ key_in columns (get_or rows place 0)
key_gathered rows [] place h = refl
key_gathered rows (column ∷ columns) place h = ap₂ ◌∷◌ (get_or-map (value_in column) rows place 0 Null h) (key_gathered rows columns place h)

entries_like : (kept columns : List CellList) (place : ℕ) (rows : List ℕ) → ((i : ℕ) → i < length rows → key_in kept (place + i) ≡ key_in columns (get_or rows i 0)) → entries_at kept place rows ≡ map (entry_in columns) rows
entries_like kept columns place [] h = refl
entries_like kept columns place (row ∷ rows) h =
    let e : place + 0 ≡ place = omega arith in
    ap₂ ◌∷◌ (ap (λ k. record { row = row; key = k }) (ap (key_in kept) (sym e) ∙ h 0 (omega arith)))
    (entries_like kept columns (suc place) rows (λ i l. let f : suc place + i ≡ place + suc i = omega arith in ap (key_in kept) f ∙ h (suc i) (omega (arith, l))))

pub entries_gathered : (rows : List ℕ) (columns : List CellList) → entries_at (map (gathered rows) columns) 0 rows ≡ map (entry_in columns) rows
entries_gathered rows columns = entries_like (map (gathered rows) columns) columns 0 rows (λ i l. let z : 0 + i ≡ i = omega arith in ap (key_in (map (gathered rows) columns)) z ∙ key_gathered rows columns i l)

pub all_gathered : (items : List CellList) (rows : List ℕ) (keys : List (Bor Column)) (i : ℕ) → length keys ≤ i → items ++ map (gathered rows) (columns_of (drop i keys)) ≡ map (gathered rows) (columns_of keys)
    → items ≡ map (gathered rows) (columns_of keys)
all_gathered items rows keys i h e =
    let d : drop i keys ≡ [] = drop_all i keys h in
    sym (append-nil items) ∙ ap (λ ks. items ++ map (gathered rows) (columns_of ks)) (sym d) ∙ e

pub widths : (columns : List CellList) (types : List SqlType) → types_of columns ≡ types → length columns ≡ length types
widths columns types e = sym (length-map columns (λ (c : CellList). c.type)) ∙ ap length e
