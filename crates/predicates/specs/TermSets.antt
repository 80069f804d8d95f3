-- Two lists of terms are equal in one way at most: values are trees of numbers.
use mathlib.Core.Path.{◌≡◌, refl, sym, ◌∙◌, ap}
use mathlib.Core.HLevel.{collapsible→set}
use Rattle.std.specs.Prelude.{ℕ, zero, suc, Bool, List, [], ◌∷◌}
use Rattle.std.proofs.Math.Bool.{Bool-set}
use Rattle.std.proofs.Math.Nat.{ℕ_set}
use mathlib.Core.List.{is_set}
use Rattle.definitions.specs.Value.{SqlType, Smallint, Integer, Numeric, Char}
use Rattle.definitions.specs.ValueType.{ValueType, NumberType, TextType}
use Rattle.definitions.specs.Statement.{ComparisonOperator, Equals, NotEquals, LessThan, GreaterThan, LessOrEquals, GreaterOrEquals}
use Rattle.definitions.specs.Queries.BoundBlock.{Operator, Plus, Minus, Times, Over, ValueExpr, Column, Parameter, Numeral, String, Signed, Chain, AggregateValue, Subquery, Operands, NoOperand, Operand}
use Rattle.definitions.specs.Estimates.Paths.{ColumnTerm, ByComparison, ByBounds}
use Rattle.predicates.specs.Terms.{SidedTerm}

retract_set : {A B : Type 0} (f : A → B) (g : B → A) → ((a : A) → g (f a) ≡ a) → IsSet B → IsSet A
retract_set f g h Bs = collapsible→set (λ x y p. sym (h x) ∙ ap g (ap f p) ∙ h y) (λ x y p q. ap (λ (r : f x ≡ f y). sym (h x) ∙ ap g r ∙ h y) (Bs (f x) (f y) (ap f p) (ap f q)))

-- ---- a copy of a value, of the operands behind another, and of a term: operators and types go by number

data Tree : Type 0 where
  column : (table number : ℕ) (type : List ℕ) → Tree
  parameter : (between table number : ℕ) (type : List ℕ) → Tree
  numeral : (units digits scale : ℕ) → Tree
  text : (codes : List ℕ) → Tree
  signed : (minus : Bool) (operand : Tree) → Tree
  both : (first second : Tree) → Tree
  aggregate : (number : ℕ) (type : List ℕ) → Tree
  subquery : (block : ℕ) (type : List ℕ) → Tree
  operand : (operator : ℕ) (first others : Tree) → Tree
  deriving IsSet as Tree_set

abbrev of_type : SqlType → List ℕ
of_type Smallint = 0 ∷ []
of_type Integer = 1 ∷ []
of_type (Numeric p s) = 2 ∷ (p ∷ (s ∷ []))
of_type (Char n) = 3 ∷ (n ∷ [])

abbrev to_type : List ℕ → SqlType
to_type (zero ∷ _) = Smallint
to_type (suc (suc zero) ∷ (p ∷ (s ∷ _))) = Numeric p s
to_type (suc (suc (suc zero)) ∷ (n ∷ _)) = Char n
to_type _ = Integer

type_back : (t : SqlType) → to_type (of_type t) ≡ t
type_back Smallint = refl
type_back Integer = refl
type_back (Numeric p s) = refl
type_back (Char n) = refl

abbrev of_value_type : ValueType → List ℕ
of_value_type (NumberType s) = s ∷ []
of_value_type TextType = []

abbrev to_value_type : List ℕ → ValueType
to_value_type (s ∷ _) = NumberType s
to_value_type [] = TextType

value_type_back : (t : ValueType) → to_value_type (of_value_type t) ≡ t
value_type_back (NumberType s) = refl
value_type_back TextType = refl

abbrev of_operator : Operator → ℕ
of_operator Plus = 0
of_operator Minus = 1
of_operator Times = 2
of_operator Over = 3

abbrev to_operator : ℕ → Operator
to_operator zero = Plus
to_operator (suc zero) = Minus
to_operator (suc (suc zero)) = Times
to_operator _ = Over

operator_back : (o : Operator) → to_operator (of_operator o) ≡ o
operator_back Plus = refl
operator_back Minus = refl
operator_back Times = refl
operator_back Over = refl

abbrev of_comparison : ComparisonOperator → ℕ
of_comparison Equals = 0
of_comparison NotEquals = 1
of_comparison LessThan = 2
of_comparison GreaterThan = 3
of_comparison LessOrEquals = 4
of_comparison GreaterOrEquals = 5

abbrev to_comparison : ℕ → ComparisonOperator
to_comparison zero = Equals
to_comparison (suc zero) = NotEquals
to_comparison (suc (suc zero)) = LessThan
to_comparison (suc (suc (suc zero))) = GreaterThan
to_comparison (suc (suc (suc (suc zero)))) = LessOrEquals
to_comparison _ = GreaterOrEquals

comparison_back : (o : ComparisonOperator) → to_comparison (of_comparison o) ≡ o
comparison_back Equals = refl
comparison_back NotEquals = refl
comparison_back LessThan = refl
comparison_back GreaterThan = refl
comparison_back LessOrEquals = refl
comparison_back GreaterOrEquals = refl

abbrev mutual
  of_value : ValueExpr → Tree
  of_value (Column c type) = column c.table c.number (of_type type)
  of_value (Parameter between c type) = parameter between c.table c.number (of_type type)
  of_value (Numeral units digits scale) = numeral units digits scale
  of_value (String codes) = text codes
  of_value (Signed minus e) = signed minus (of_value e)
  of_value (Chain first others) = both (of_value first) (of_operands others)
  of_value (AggregateValue number type) = aggregate number (of_value_type type)
  of_value (Subquery block type) = subquery block (of_value_type type)

  of_operands : Operands → Tree
  of_operands NoOperand = text []
  of_operands (Operand o e others) = operand (of_operator o) (of_value e) (of_operands others)

-- the value that it is a copy of, and the operands
abbrev back : Tree → ValueExpr × Operands
back (column t n type) = (Column (record { table = t; number = n }) (to_type type), NoOperand)
back (parameter between t n type) = (Parameter between (record { table = t; number = n }) (to_type type), NoOperand)
back (numeral units digits scale) = (Numeral units digits scale, NoOperand)
back (text codes) = (String codes, NoOperand)
back (signed minus e) = (Signed minus (back e).0, NoOperand)
back (both first others) = (Chain (back first).0 (back others).1, NoOperand)
back (aggregate number type) = (AggregateValue number (to_value_type type), NoOperand)
back (subquery block type) = (Subquery block (to_value_type type), NoOperand)
back (operand o e others) = (String [], Operand (to_operator o) (back e).0 (back others).1)

abbrev mutual
  value_back : (e : ValueExpr) → (back (of_value e)).0 ≡ e
  value_back (Column c type) = ap (Column c) (type_back type)
  value_back (Parameter between c type) = ap (Parameter between c) (type_back type)
  value_back (Numeral units digits scale) = refl
  value_back (String codes) = refl
  value_back (Signed minus e) = ap (Signed minus) (value_back e)
  value_back (Chain first others) = λ i. Chain (value_back first i) (operands_back others i)
  value_back (AggregateValue number type) = ap (AggregateValue number) (value_type_back type)
  value_back (Subquery block type) = ap (Subquery block) (value_type_back type)

  operands_back : (es : Operands) → (back (of_operands es)).1 ≡ es
  operands_back NoOperand = refl
  operands_back (Operand o e others) = λ i. Operand (operator_back o i) (value_back e i) (operands_back others i)

abbrev of_term : ColumnTerm → Tree
of_term (ByComparison op e) = operand (of_comparison op) (of_value e) (text [])
of_term (ByBounds low high) = both (of_value low) (of_value high)

abbrev to_term : Tree → ColumnTerm
to_term (operand op e _) = ByComparison (to_comparison op) (back e).0
to_term (both low high) = ByBounds (back low).0 (back high).0
to_term _ = ByBounds (String []) (String [])

term_back : (t : ColumnTerm) → to_term (of_term t) ≡ t
term_back (ByComparison op e) = λ i. ByComparison (comparison_back op i) (value_back e i)
term_back (ByBounds low high) = λ i. ByBounds (value_back low i) (value_back high i)

abbrev of_sided : SidedTerm → Tree
of_sided x = both (numeral x.column.table x.column.number x.scale) (of_term x.term)

abbrev to_sided : Tree → SidedTerm
to_sided (both (numeral t n scale) term) = record { column = record { table = t; number = n }; scale = scale; term = to_term term }
to_sided _ = record { column = record { table = 0; number = 0 }; scale = 0; term = to_term (text []) }

sided_back : (x : SidedTerm) → to_sided (of_sided x) ≡ x
sided_back x = ap (λ (t : ColumnTerm). record { column = x.column; scale = x.scale; term = t }) (term_back x.term)

pub terms_set : IsSet (List SidedTerm)
terms_set = is_set (retract_set of_sided to_sided sided_back (Tree_set ℕ_set (is_set ℕ_set) Bool-set))
