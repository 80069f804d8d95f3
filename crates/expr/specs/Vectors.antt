-- The values of an expression on many rows.
use Rattle.std.specs.Prelude.{ℕ, ℤ, pos, ◌+◌, ◌-◌, ◌^◌, ◌<◌, ◌≡◌, max, List, Option, Some, None, get_or}
use Rattle.definitions.specs.Arithmetic.{Is}
use Rattle.definitions.specs.Value.{Value, Null, Number}
use Rattle.definitions.specs.Queries.BoundBlock.{ValueExpr}
use Rattle.definitions.specs.Queries.Evaluation.{Environment, value}
use Rattle.query_tree.specs.declared.leaf.Operator.{Operator}
use Rattle.query_tree.specs.declared.leaf.Operator.TheVariants.{Plus, Minus, Times, Over}
use Rattle.expr.specs.declared.vectors.Scaling.{Scaling}

-- the number of so many units at a scale; none is null
abbrev pub of_units : (scale : ℕ) → Option ℤ → Value
of_units scale None = Null
of_units scale (Some units) = Number units scale

abbrev pub value_at : (scale : ℕ) → List (Option ℤ) → (place : ℕ) → Value
value_at scale units place = of_units scale (get_or units place None)

-- the values of an expression on so many rows from one on, by their units and their scale
abbrev pub AreValues : (ℕ → Environment) → ValueExpr → (first count : ℕ) → List (Option ℤ) → (scale : ℕ) → Type 0
AreValues on expr first count units scale =
    (place : ℕ) → place < count → value (on (first + place)) expr ≡ Is (value_at scale units place)

-- both come to the greater scale
abbrev pub IsCommon : (left right : ℕ) → Scaling → Type 0
IsCommon left right s =
    (s.times_left ≡ pos (10 ^ (right - left))) × (s.times_right ≡ pos (10 ^ (left - right))) × (s.scale ≡ max left right)

-- what operands' units are multiplied by for an operator, and at which scale its result stands
abbrev pub IsScaling : Operator → (left right : ℕ) → Scaling → Type 0
IsScaling Plus left right s = IsCommon left right s
IsScaling Minus left right s = IsCommon left right s
IsScaling Times left right s = (s.times_left ≡ pos 1) × (s.times_right ≡ pos 1) × (s.scale ≡ left + right)
IsScaling Over left right s = ⊥
