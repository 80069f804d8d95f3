-- What evaluations answer.
use Rattle.std.specs.Prelude.{◌+◌, ◌≡◌, Some, ◌≤◌, ⊤, List, Result, Ok, Err, map}
use Rattle.std.specs.Borrow.{Bor}
use Rattle.definitions.specs.Limits.{greatest_scale}
use Rattle.definitions.specs.Value as spec
use Rattle.definitions.specs.Value.{Number}
use Rattle.definitions.specs.Arithmetic as a
use Rattle.sqlvalue.specs.Meaning.{value_of}
use Rattle.sqlvalue.specs.Owned.{owned_value}
use Rattle.sqlvalue.specs.declared.owned_value.OwnedValue.{OwnedValue}
use Rattle.sqlvalue.specs.Raises.{raise_of}
use Rattle.sqlvalue.specs.Truths.{truth_of}
use Rattle.sqlvalue.specs.declared.truth.Tri.{Tri}
use Rattle.definitions.specs.Truth.{Truth}
use Rattle.sqlvalue.specs.declared.value.Value.{Value}
use Rattle.sqlvalue.specs.declared.raise.Raise.{Raise}
use Rattle.definitions.specs.ValueType.{ValueType}
use Rattle.definitions.specs.Queries.BoundBlock as b
use Rattle.definitions.specs.Queries.BoundTypes.{value_type}

abbrev pub answer_of : Result Value Raise → Result spec.Value a.Raise
answer_of (Ok v) = Ok (value_of v)
answer_of (Err r) = Err (raise_of r)

abbrev pub values_answer_of : Result (Bor (List OwnedValue)) Raise → Result (List spec.Value) a.Raise
values_answer_of (Ok vs) = Ok (map owned_value vs.now)
values_answer_of (Err r) = Err (raise_of r)

-- two values that an operator may stand between: the scale of a product is bounded (own)
abbrev pub FitsOperator : b.Operator → spec.Value → spec.Value → Type 0
FitsOperator b.Times (Number u m) (Number v n) = m + n ≤ greatest_scale
FitsOperator _ v w = ⊤

abbrev pub FitsBoth : b.Operator → Result spec.Value a.Raise → Result spec.Value a.Raise → Type 0
FitsBoth operator (Ok v) (Ok w) = FitsOperator operator v w
FitsBoth operator _ _ = ⊤

abbrev pub truth_answer_of : Result Tri Raise → Result Truth a.Raise
truth_answer_of (Ok t) = Ok (truth_of t)
truth_answer_of (Err r) = Err (raise_of r)

-- a value that has a type
abbrev pub IsTyped : b.ValueExpr → Type 0
IsTyped e = (type : ValueType) × (value_type e ≡ Some type)
