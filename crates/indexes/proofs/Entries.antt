-- Entries whose keys stand in columns.
use Rattle.std.proofs.Common.{◌≡◌, ◌∙◌, refl, sym, ap, ℕ, zero, suc, ◌+◌, ◌<◌, List, [], ◌∷◌, length, get_or, arith}
use Rattle.definitions.specs.IndexRun.{Entry, entry_rows, keys_of}
use Rattle.columns.specs.Cells.{CellList}
use Rattle.indexes.specs.Keys.{key_in}
use Rattle.indexes.specs.Runs.{entries_at}
use Rattle.indexes.specs.Stretches.{key_at}

pub length-entries_at : (columns : List CellList) (place : ℕ) (rows : List ℕ) → length (entries_at columns place rows) ≡ length rows
length-entries_at columns place [] = refl
length-entries_at columns place (row ∷ rows) = ap suc (length-entries_at columns (suc place) rows)

pub rows_of_entries : (columns : List CellList) (place : ℕ) (rows : List ℕ) → entry_rows (entries_at columns place rows) ≡ rows
rows_of_entries columns place [] = refl
rows_of_entries columns place (row ∷ rows) = ap (λ rs. row ∷ rs) (rows_of_entries columns (suc place) rows)

pub key_of_entry : (columns : List CellList) (start : ℕ) (rows : List ℕ) (place : ℕ) → place < length rows → get_or (keys_of (entries_at columns start rows)) place [] ≡ key_in columns (start + place)
key_of_entry columns start [] place h = absurd (omega (arith, h))
key_of_entry columns start (row ∷ rows) zero h = let e : start + 0 ≡ start = omega arith in ap (key_in columns) (sym e)
key_of_entry columns start (row ∷ rows) (suc place) h =
    let e : suc start + place ≡ start + suc place = omega arith in
    key_of_entry columns (suc start) rows place (omega (arith, h)) ∙ ap (key_in columns) e

pub key_there : (columns : List CellList) (rows : List ℕ) (entries : List Entry) (place : ℕ) → entries_at columns 0 rows ≡ entries → place < length entries → key_at entries place ≡ key_in columns place
key_there columns rows entries place e h =
    let n : length entries ≡ length rows = ap length (sym e) ∙ length-entries_at columns 0 rows in
    let z : 0 + place ≡ place = omega arith in
    ap (λ es. key_at es place) (sym e) ∙ key_of_entry columns 0 rows place (omega (arith, h, n)) ∙ ap (key_in columns) z
