-- What a term bounds of its column.
use Rattle.std.specs.Prelude.{ℕ, Bool, true, false, if◌then◌else◌, Option, Some, None, option_map}
use Rattle.std.specs.Prelude.{option_and_then}
use Rattle.definitions.specs.Statement.{ComparisonOperator, Equals, NotEquals}
use Rattle.definitions.specs.Plans.TableSet.{TableSet}
use Rattle.definitions.specs.Plans.Order.{BlockColumn}
use Rattle.definitions.specs.Queries.BoundBlock.{Condition}
use Rattle.definitions.specs.Estimates.BlockTables.{has}
use Rattle.definitions.specs.Estimates.Paths.{ColumnTerm, ByComparison, ByBounds, column_term}
use Rattle.predicates.specs.Terms.{term_tables}

-- whether it says what the column equals, and the tables whose rows the values are made of that the column is compared
-- with
pub record SargableTerm : Type 0 where
  pub equals : Bool
  pub required_outer : TableSet

-- every operator but `<>` bounds a column; whether it says what the column equals
abbrev pub equality_by : ComparisonOperator → Option Bool
equality_by Equals = Some true
equality_by NotEquals = None
equality_by _ = Some false

abbrev pub equality : ColumnTerm → Option Bool
equality (ByComparison op value) = equality_by op
equality (ByBounds low high) = Some false

-- unless it is made of rows of the table itself
abbrev pub bound_by : ℕ → ColumnTerm → Option SargableTerm
bound_by table term =
    if has (term_tables term) table then None
    else option_map (λ equals. record { equals = equals; required_outer = term_tables term }) (equality term)

abbrev pub sargable_term : BlockColumn → Condition → Option SargableTerm
sargable_term column c = option_and_then (bound_by column.table) (column_term column c)
