-- A comparison with a number on composites whose rows follow one another.
use Rattle.std.proofs.Common.{◌≡◌, ◌∙◌, refl, sym, ap, ℕ, ◌+◌, ◌<◌, List, [], length, map, get_or, arith}
use Rattle.std.specs.List.{range_with_len}
use Rattle.std.proofs.lemmas.List.{length-map}
use Rattle.std.proofs.lemmas.List.FromFn.{get_or-range_with_len}
use Rattle.definitions.specs.Truth.{compared, is_true}
use Rattle.definitions_execution.specs.Stored.{row_number, Composite}
use Rattle.sqlvalue.specs.Meaning.{number_of, op_of}
use Rattle.sqlvalue.specs.declared.number.Num.{Num}
use Rattle.sqlvalue.specs.declared.op.ComparisonOperator.{ComparisonOperator}
use Rattle.query_tree.specs.Bound.{column_of}
use Rattle.query_tree.specs.declared.leaf.BlockColumn.{BlockColumn}
use Rattle.filters.specs.Sources.{BlockSource}
use Rattle.filters.specs.SearchArguments.{value_in}
use Rattle.told_tests.specs.RunScans.{is_met_at, is_met_in}
use Rattle.told_tests.proofs.ToldNumbers.{value_at_place}

module _ (source : BlockSource) (column : BlockColumn) (op : ComparisonOperator) (number : Num) (items : List Composite) (rows : List ℕ) (first : ℕ)
    (are : rows ≡ map (λ composite. row_number composite column.table) items) (run : rows ≡ range_with_len first (length rows)) where
  pub as_many : length rows ≡ length items
  as_many = ap length are ∙ length-map items (λ (k : Composite). row_number k column.table)

  pub met_by_place : (place : ℕ) → place < length items → is_met_in source column op number (first + place) ≡ is_met_at source column op number (get_or items place [])
  met_by_place place within =
      let row : get_or rows place 0 ≡ first + place = ap (λ rs. get_or rs place 0) run ∙ get_or-range_with_len first (length rows) place 0 (omega (arith, within, as_many)) in
      let own = value_in source column.table column.number (get_or rows place 0) in
      let value = value_at_place source (column_of column) items place within rows are own refl in
      ap (is_met_in source column op number) (sym row) ∙ ap (λ v. is_true (compared (op_of op) v (number_of number))) (sym value)
