-- What is said of a column is what the definitions say of it.
use Rattle.std.proofs.Common.{◌≡◌, ◌∙◌, refl, ap, Bool, true, false, List, [], ◌∷◌, ◌++◌, Option, Some, None, if◌then◌else◌}
use Rattle.std.specs.Prelude.{IfSome, option_map, unwrap_or}
use Rattle.std.specs.List.{AllByRecursion}
use Rattle.definitions.specs.Plans.Order.{BlockColumn}
use Rattle.definitions.specs.Queries.BoundBlock.{ValueExpr, Condition, Compare, Quantified, IsNull, Between, Like, InList, InQuery, Exists, Not, And, Or}
use Rattle.definitions.specs.Queries.Conjuncts.{tables_in, tables_named, values_of}
use Rattle.definitions.specs.Estimates.Paths.{ColumnTerm, ByComparison, ByBounds, column_term, is_column, is_same_column, turned}
use Rattle.definitions.specs.Estimates.Sides.{column_of}
use Rattle.predicates.specs.Naming.{AreFew}
use Rattle.predicates.specs.Terms.{SidedTerm, column_scale, first_term, listed, side_term, terms_of}
use Rattle.predicates.proofs.Naming.{left_few, right_few}

module _ (column : BlockColumn) where
  alone : (e : ValueExpr) (t : ColumnTerm) → first_term column (listed (side_term e t)) ≡ (if is_column column e then Some t else None)
  alone e t = of_column (column_of e)
    where
      of_column : (o : Option BlockColumn)
          → first_term column (listed (option_map (λ c. record { column = c; scale = column_scale e; term = t }) o)) ≡ (if unwrap_or (option_map (is_same_column column) o) false then Some t else None)
      of_column None = refl
      of_column (Some c) = refl

  before : (e : ValueExpr) (t : ColumnTerm) (others : List SidedTerm)
      → first_term column (listed (side_term e t) ++ others) ≡ (if is_column column e then Some t else first_term column others)
  before e t others = of_column (column_of e)
    where
      of_column : (o : Option BlockColumn)
          → first_term column (listed (option_map (λ c. record { column = c; scale = column_scale e; term = t }) o) ++ others)
          ≡ (if unwrap_or (option_map (is_same_column column) o) false then Some t else first_term column others)
      of_column None = refl
      of_column (Some c) = refl

  pub first_is_term : (c : Condition) → first_term column (terms_of c) ≡ column_term column c
  first_is_term (Compare op a b) =
      before a (ByComparison op b) (listed (side_term b (ByComparison (turned op) a)))
      ∙ ap (λ x. if is_column column a then Some (ByComparison op b) else x) (alone b (ByComparison (turned op) a))
  first_is_term (Quantified op q e n) = refl
  first_is_term (IsNull negated e) = refl
  first_is_term (Between false e low high) = alone e (ByBounds low high)
  first_is_term (Between true e low high) = refl
  first_is_term (Like negated e pattern) = refl
  first_is_term (InList negated e members) = refl
  first_is_term (InQuery negated e n) = refl
  first_is_term (Exists n) = refl
  first_is_term (Not e) = refl
  first_is_term (And parts) = refl
  first_is_term (Or parts) = refl

-- ---- what holds of all values of a condition holds of those that a column is compared with

module _ (P : ValueExpr → Type 0) where
  abbrev pub HoldsOf : ColumnTerm → Type 0
  HoldsOf (ByComparison op e) = P e
  HoldsOf (ByBounds low high) = P low × P high

  module _ (column : BlockColumn) where
    pub term_holds : (c : Condition) → AllByRecursion P (values_of c) → IfSome (column_term column c) HoldsOf
    term_holds (Compare op a b) h = by_tests (is_column column a) (is_column column b)
      where
        by_tests : (x y : Bool) → IfSome (if x then Some (ByComparison op b) else (if y then Some (ByComparison (turned op) a) else None)) HoldsOf
        by_tests true y = h.1.0
        by_tests false true = h.0
        by_tests false false = tt
    term_holds (Between false e low high) h = by_test (is_column column e)
      where
        by_test : (x : Bool) → IfSome (if x then Some (ByBounds low high) else None) HoldsOf
        by_test true = (h.1.0, h.1.1.0)
        by_test false = tt
    term_holds (Quantified op q e n) h = tt
    term_holds (IsNull negated e) h = tt
    term_holds (Between true e low high) h = tt
    term_holds (Like negated e pattern) h = tt
    term_holds (InList negated e members) h = tt
    term_holds (InQuery negated e n) h = tt
    term_holds (Exists n) h = tt
    term_holds (Not e) h = tt
    term_holds (And parts) h = tt
    term_holds (Or parts) h = tt

-- each names few tables, where all do
abbrev pub NamesFewTables : ValueExpr → Type 0
NamesFewTables e = AreFew (tables_named e)

pub each_few : (es : List ValueExpr) → AreFew (tables_in es) → AllByRecursion NamesFewTables es
each_few [] h = tt
each_few (e ∷ es) h = (left_few (tables_named e) (tables_in es) h, each_few es (right_few (tables_named e) (tables_in es) h))
