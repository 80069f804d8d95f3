-- What a condition says of the columns that stand alone on its sides (Selinger et al. 1979, section 4: sargable
-- predicates).
use Rattle.std.specs.Prelude.{ℕ, false, if◌then◌else◌, bit_or, List, [], ◌∷◌, ◌++◌, Option, Some, None, option_map}
use Rattle.definitions.specs.Value.{scale_of}
use Rattle.definitions.specs.Plans.Order.{BlockColumn}
use Rattle.definitions.specs.Plans.TableSet.{TableSet}
use Rattle.definitions.specs.Queries.BoundBlock.{ValueExpr, Column, Condition, Compare, Between}
use Rattle.definitions.specs.Estimates.Paths.{ColumnTerm, ByComparison, ByBounds, is_same_column, turned}
use Rattle.definitions.specs.Estimates.Sides.{column_of}
use Rattle.definitions.specs.Queries.Conjuncts.{tables_named}

-- a column, the scale of its numbers, and what is said of it
pub record SidedTerm : Type 0 where
  pub column : BlockColumn
  pub scale : ℕ
  pub term : ColumnTerm

abbrev pub column_scale : ValueExpr → ℕ
column_scale (Column column type) = scale_of type
column_scale _ = 0

-- the tables that the values name that it is compared with
abbrev pub term_tables : ColumnTerm → TableSet
term_tables (ByComparison op value) = tables_named value
term_tables (ByBounds low high) = bit_or (tables_named low) (tables_named high)

-- what is said of a side, where it is a column
abbrev pub side_term : ValueExpr → ColumnTerm → Option SidedTerm
side_term e term =
    option_map (λ column. record { column = column; scale = column_scale e; term = term }) (column_of e)

abbrev pub listed : Option SidedTerm → List SidedTerm
listed None = []
listed (Some sided) = sided ∷ []

-- `a op b` says `op b` of a, and of b what it says once the sides change places
abbrev pub terms_of : Condition → List SidedTerm
terms_of (Compare op a b) = listed (side_term a (ByComparison op b)) ++ listed (side_term b (ByComparison (turned op) a))
terms_of (Between false e low high) = listed (side_term e (ByBounds low high))
terms_of _ = []

-- the first that is said of a column
abbrev pub first_term : BlockColumn → List SidedTerm → Option ColumnTerm
first_term column [] = None
first_term column (sided ∷ others) =
    if is_same_column column sided.column then Some sided.term else first_term column others

-- the first that is said
abbrev pub first_of : List SidedTerm → Option SidedTerm
first_of [] = None
first_of (sided ∷ others) = Some sided
