-- A value compared with values of a list.
use Rattle.std.specs.Prelude.{ℕ, ◌≡◌, List, Option, Some, Contains, map, slice_get, true}
use Rattle.std.specs.declared.cmp.Ordering.{Ordering}
use Rattle.definitions.specs.Statement.{ComparisonOperator}
use Rattle.definitions.specs.Truth.{agrees}
use Rattle.definitions.specs.Value.{Value, compare}

-- how it compares with each
abbrev pub orders : Value → List Value → List (Option Ordering)
orders v values = map (compare v) values

-- it compares so with one of them, and with the one in a place
abbrev pub HasOrder : Ordering → Value → List Value → Type 0
HasOrder order v values = Contains (orders v values) (Some order)

abbrev pub HasOrderAt : ℕ → Ordering → Value → List Value → Type 0
HasOrderAt place order v values = slice_get (orders v values) place ≡ Some (Some order)

-- an operator asks for an order, and it compares so with one of them
abbrev pub HasAgreeing : ComparisonOperator → Ordering → Value → List Value → Type 0
HasAgreeing op order v values = (agrees op order ≡ true) × HasOrder order v values
