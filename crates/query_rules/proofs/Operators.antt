-- Products.
use Rattle.std.proofs.Common.{◌≡◌, refl, ℕ, ◌+◌, ◌<◌, Some}
use Rattle.definitions.specs.Limits.{greatest_scale}
use Rattle.definitions.specs.Statement as t
use Rattle.definitions.specs.ValueType.{NumberType}
use Rattle.definitions.specs.Queries.BoundBlock as b
use Rattle.definitions.specs.Binding.BoundForm.{operator_of}
use Rattle.definitions.specs.Binding.Types.{joined_type}

pub great_product : (o : t.LineOperator) (m n : ℕ) → b.Times ≡ operator_of o → greatest_scale < m + n → (x : ℕ) × (joined_type o (Some (NumberType m)) (Some (NumberType n)) ≡ Some (NumberType x)) × (greatest_scale < x)
great_product t.Times m n e h = (m + n, refl, h)
great_product t.Plus m n e h = absurd cc
great_product t.Minus m n e h = absurd cc
great_product t.Divided m n e h = absurd cc
great_product t.And m n e h = absurd cc
great_product t.Or m n e h = absurd cc
