-- Columns that are null.
use Rattle.std.proofs.Common.{◌≡◌, ◌∙◌, refl, sym, ap, ap₂, ℕ, ◌-◌, ◌<◌, ◌≤◌, ◌^◌, List, [], ◌∷◌, Bool, true, false, not, length, map, get_or, set, arith}
use Rattle.std.specs.Prelude.{◌&&◌, is_none, bit_and}
use Rattle.std.specs.List.{range_with_len}
use Rattle.std.proofs.lemmas.List.{get_or-set_same}
use Rattle.std.proofs.lemmas.List.FromFn.{length-map-range_with_len}
use Rattle.definitions.specs.Plans.Order.{BlockColumn}
use Rattle.definitions.specs.Scanning.{word_of}
use Rattle.definitions.specs.Statement.{Equals}
use Rattle.definitions.specs.Truth.{is_true, known, truth_of, unless}
use Rattle.definitions.specs.Value.{SqlType, Value, Null, Number, Text, is_null}
use Rattle.definitions.specs.Queries.BoundBlock.{Column, IsNull}
use Rattle.definitions.specs.Queries.Evaluation.{Combination, cell}
use Rattle.columns.proofs.WordFlags.{word_of-and, word_of-below, word_of-not}
use Rattle.definitions_execution.specs.OfBlock.{combination_of}
use Rattle.definitions_execution.specs.Stored.{Composite}
use Rattle.filters.specs.JoinFilters.{true_with}
use Rattle.filters.specs.SearchArguments.{is_null_in, is_unknown_in, value_in}
use Rattle.filters.specs.Sources.{BlockSource, block_in}
use Rattle.filters.specs.Words.{word_by}
use Rattle.filters.proofs.Cells.{cell_there}
use Rattle.filters.proofs.Coming.{word_alike}

-- a value that compares neither with a number nor with a text is null
compares_with_none : (v : Value) (units : _) (scale : ℕ) (codes : List ℕ) → (is_none (truth_of Equals v (Number units scale)) && is_none (truth_of Equals v (Text codes))) ≡ is_null v
compares_with_none Null units scale codes = refl
compares_with_none (Number a m) units scale codes = refl
compares_with_none (Text a) units scale codes = refl

pub both_unknown : (source : BlockSource) (table column first count by_number by_text : ℕ) (units : _) (scale : ℕ) (codes : List ℕ) → by_number ≡ word_by (is_unknown_in source table column (Number units scale)) first count → by_text ≡ word_by (is_unknown_in source table column (Text codes)) first count
    → bit_and by_number by_text ≡ word_by (is_null_in source table column) first count
both_unknown source table column first count by_number by_text units scale codes number text =
    ap₂ bit_and number text
    ∙ word_of-and (is_unknown_in source table column (Number units scale)) (is_unknown_in source table column (Text codes)) (range_with_len first count)
    ∙ word_alike (λ row. is_unknown_in source table column (Number units scale) row && is_unknown_in source table column (Text codes) row) (is_null_in source table column) first count
    (λ row. compares_with_none (value_in source table column row) units scale codes)

-- ---- the rows in which it isn't

map_map : {X Y Z : Type 0} (f : Y → Z) (g : X → Y) (xs : List X) → map f (map g xs) ≡ map (λ x. f (g x)) xs
map_map f g [] = refl
map_map f g (x ∷ xs) = ap (λ ys. f (g x) ∷ ys) (map_map f g xs)

others : (test : ℕ → Bool) (first count : ℕ) → 2 ^ count - 1 - word_by test first count ≡ word_by (λ row. not (test row)) first count
others test first count =
    ap (λ n. 2 ^ n - 1 - word_by test first count) (sym (length-map-range_with_len test first count))
    ∙ word_of-not (map test (range_with_len first count))
    ∙ ap word_of (map_map not test (range_with_len first count))

pub among_all : (test : ℕ → Bool) (first count word all : ℕ) → word ≡ word_by test first count → all ≡ 2 ^ count - 1 → word ≤ all
among_all test first count word all is whole =
    let below = word_of-below (map test (range_with_len first count)) in
    let long = ap (λ n. 2 ^ n) (length-map-range_with_len test first count) in
    omega (arith, below, long, is, whole)

-- ---- what a condition asks

known_true : (b : Bool) → is_true (unless false (known b)) ≡ b
known_true true = refl
known_true false = refl

known_false : (b : Bool) → is_true (unless true (known b)) ≡ not b
known_false true = refl
known_false false = refl

module _ (source : BlockSource) (outer : List Combination) (from : Composite) (table : ℕ) (column : BlockColumn) (type : SqlType) (same : column.table ≡ table) (wide : table < length from) where
  own_value : (row : ℕ) → cell (combination_of source.database (block_in source) (set from table row)) column ≡ value_in source table column.number row
  own_value row =
      cell_there source.database (block_in source) (set from table row) column
      ∙ ap₂ (λ t n. value_in source t column.number n) same (ap (λ t. get_or (set from table row) t 0) same ∙ get_or-set_same from table row 0 wide)

  pub nulls_met : (nulls first count : ℕ) → nulls ≡ word_by (is_null_in source table column.number) first count → nulls ≡ word_by (true_with source outer from table (IsNull false (Column column type))) first count
  nulls_met nulls first count is =
      is ∙ word_alike (is_null_in source table column.number) (true_with source outer from table (IsNull false (Column column type))) first count
      (λ row. ap is_null (sym (own_value row)) ∙ sym (known_true (is_null (cell (combination_of source.database (block_in source) (set from table row)) column))))

  pub others_met : (nulls all first count : ℕ) → nulls ≡ word_by (is_null_in source table column.number) first count → all ≡ 2 ^ count - 1 → all - nulls ≡ word_by (true_with source outer from table (IsNull true (Column column type))) first count
  others_met nulls all first count is whole =
      ap₂ (λ m n. m - n) whole is
      ∙ others (is_null_in source table column.number) first count
      ∙ word_alike (λ row. not (is_null_in source table column.number row)) (true_with source outer from table (IsNull true (Column column type))) first count
      (λ row. ap (λ v. not (is_null v)) (sym (own_value row)) ∙ sym (known_false (is_null (cell (combination_of source.database (block_in source) (set from table row)) column))))
