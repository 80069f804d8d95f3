-- The rows of a table as the run of their keys.
use Rattle.std.proofs.Common.{◌≡◌, ◌∙◌, refl, sym, ap, ap₂, ℕ, zero, suc, ◌+◌, ◌≤◌, List, [], ◌∷◌, length, map, take, arith}
use Rattle.std.specs.Prelude.{IsPermutation}
use Rattle.std.specs.List.{AllByRecursion, range_with_len}
use Rattle.std.proofs.lemmas.List.Elements.{All-from_recursion, recursion_from_All}
use Rattle.std.proofs.lemmas.List.{length-map, length-take}
use Rattle.std.proofs.lemmas.List.Sorted.{IsPermutation-map, All-permutation, length_permutation}
use Rattle.std.proofs.lemmas.List.FromFn.{length-map-range_with_len}
use Rattle.definitions.specs.Key.{Key, distinct_keys, full_keys}
use Rattle.definitions.specs.IndexRun.{Entry, entries_from, entry_rows, keys_of, AreRising, IsRun}
use Rattle.columns.specs.Cells.{CellList}
use Rattle.indexes.specs.Keys.{count_keys, key_in, keys_in, entry_in, height}

entries_are : (columns : List CellList) (start count : ℕ) → entries_from start (map (key_in columns) (range_with_len start count)) ≡ map (entry_in columns) (range_with_len start count)
entries_are columns start zero = refl
entries_are columns start (suc count) = ap (λ es. entry_in columns start ∷ es) (entries_are columns (start + 1) count)

-- rows in the order of their keys are the run
pub run_of_rows : (columns : List CellList) (rows : List ℕ) (entries : List Entry) → IsPermutation (range_with_len 0 (height columns)) rows → AreRising (map (entry_in columns) rows) → entries ≡ map (entry_in columns) rows → IsRun (keys_in columns) entries
run_of_rows columns rows entries p r e =
    rw (e, entries_are columns 0 (height columns)) (IsPermutation-map (entry_in columns) (range_with_len 0 (height columns)) rows p, r)

-- the rows of a run are all those whose keys it has
length-entries_from : (start : ℕ) (keys : List Key) → length (entries_from start keys) ≡ length keys
length-entries_from start [] = refl
length-entries_from start (k ∷ ks) = ap suc (length-entries_from (start + 1) ks)

rows_from : (start : ℕ) (keys : List Key) → entry_rows (entries_from start keys) ≡ range_with_len start (length keys)
rows_from start [] = refl
rows_from start (k ∷ ks) = ap (λ rs. start ∷ rs) (rows_from (start + 1) ks)

pub keys_entered : (columns : List CellList) (rows : List ℕ) → keys_of (map (entry_in columns) rows) ≡ map (key_in columns) rows
keys_entered columns [] = refl
keys_entered columns (row ∷ rows) = ap (λ ks. key_in columns row ∷ ks) (keys_entered columns rows)

module _ (columns : List CellList) (entries : List Entry) (run : IsRun (take (length entries) (keys_in columns)) entries) where
  keys_taken : length (take (length entries) (keys_in columns)) ≡ length entries
  keys_taken = sym (length-entries_from 0 (take (length entries) (keys_in columns))) ∙ sym (length_permutation (entries_from 0 (take (length entries) (keys_in columns))) entries run.0)

  pub rows_within : (rows : List ℕ) → rows ≡ entry_rows entries → length rows ≤ height columns
  rows_within rows e =
      let a = length-take (length entries) (keys_in columns) in
      let b = length-map-range_with_len (key_in columns) 0 (height columns) in
      let n : length rows ≡ length entries = ap length e ∙ length-map entries (λ (x : Entry). x.row) in
      omega (arith, keys_taken, a, b, n)

  pub rows_same : (rows : List ℕ) → rows ≡ entry_rows entries → IsPermutation (range_with_len 0 (length rows)) rows
  rows_same rows e =
      let n : length rows ≡ length entries = ap length e ∙ length-map entries (λ (x : Entry). x.row) in
      rw (n, ← keys_taken, ← rows_from 0 (take (length entries) (keys_in columns)), e) (IsPermutation-map (λ (x : Entry). x.row) (entries_from 0 (take (length entries) (keys_in columns))) entries run.0)

  -- each entry is that of its row
  own_from : (start count n : ℕ) → AllByRecursion (λ e. entry_in columns e.row ≡ e) (entries_from start (take n (map (key_in columns) (range_with_len start count))))
  own_from start count zero = tt
  own_from start zero (suc n) = tt
  own_from start (suc count) (suc n) = (refl, own_from (start + 1) count n)

  own_entries : (es : List Entry) → AllByRecursion (λ e. entry_in columns e.row ≡ e) es → map (entry_in columns) (entry_rows es) ≡ es
  own_entries [] all = refl
  own_entries (e ∷ es) all = ap₂ ◌∷◌ all.0 (own_entries es all.1)

  pub entries_own : map (entry_in columns) (entry_rows entries) ≡ entries
  entries_own =
      let P : Entry → Type 0 = λ x. entry_in columns x.row ≡ x in
      own_entries entries (recursion_from_All P entries (All-permutation P (entries_from 0 (take (length entries) (keys_in columns))) entries run.0 (All-from_recursion P (entries_from 0 (take (length entries) (keys_in columns))) (own_from 0 (height columns) (length entries)))))

  pub rows_rising : (rows : List ℕ) → rows ≡ entry_rows entries → AreRising (map (entry_in columns) rows)
  rows_rising rows e = rw (e, entries_own) run.1

  pub rows_counted : (rows : List ℕ) (count : ℕ) → rows ≡ entry_rows entries → count ≡ length (distinct_keys (full_keys (keys_of entries))) → count ≡ count_keys columns rows
  rows_counted rows count e f = f ∙ ap (λ ks. length (distinct_keys (full_keys ks))) (ap keys_of (sym entries_own) ∙ keys_entered columns (entry_rows entries)) ∙ ap (count_keys columns) (sym e)
