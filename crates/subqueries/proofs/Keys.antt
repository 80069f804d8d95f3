-- Keys, one value after another.
use Rattle.std.proofs.Common.{◌≡◌, ◌∙◌, sym, ap, subst, ℕ, ◌<◌, List, length, map, get_or}
use Rattle.std.proofs.lemmas.List.{get_or-map, length-map}
use Rattle.definitions.specs.Value.{Value, Null}
use Rattle.definitions.specs.Queries.Evaluation.{Combination}
use Rattle.definitions_answers.specs.Parameters.{outer_value, outer_values}
use Rattle.sqlvalue.specs.Owned.{owned_value}
use Rattle.sqlvalue.specs.declared.owned_value.OwnedValue.{OwnedValue}
use Rattle.subqueries.specs.OuterColumns.{outer_column_of, outer_columns_of}
use Rattle.subqueries.specs.declared.parameters.OuterColumn.{OuterColumn}

module _ (outer : List Combination) where
  abbrev pub values_at : List OuterColumn → List Value
  values_at columns = outer_values outer (outer_columns_of columns)

  abbrev pub value_there : OuterColumn → Value
  value_there column = outer_value outer (outer_column_of column)

  module _ (key : List OwnedValue) (columns : List OuterColumn) (i : ℕ) (own : OwnedValue) (column : OuterColumn) (there : i < length key) (here : i < length columns) (is : own ≡ get_or key i own) (at : column ≡ get_or columns i column) where
    key_at : get_or (map owned_value key) i Null ≡ owned_value own
    key_at = get_or-map owned_value key i own Null there ∙ ap owned_value (sym is)

    value_at : get_or (values_at columns) i Null ≡ value_there column
    value_at =
        get_or-map (outer_value outer) (outer_columns_of columns) i (outer_column_of column) Null (subst (λ n. i < n) (sym (length-map columns outer_column_of)) here)
        ∙ ap (outer_value outer) (get_or-map outer_column_of columns i column (outer_column_of column) here ∙ ap outer_column_of (sym at))

    pub one_differs : (owned_value own ≡ value_there column → ⊥) → map owned_value key ≡ values_at columns → ⊥
    one_differs n e = n (sym key_at ∙ ap (λ vs. get_or vs i Null) e ∙ value_at)
