-- Costs of states, and which of them are settled.
use Rattle.std.specs.Prelude.{ℕ, zero, suc, ◌+◌, ◌-◌, ◌^◌, ◌≡◌, ◌≢◌, ◌⊎◌, Bool, true, if◌then◌else◌}
use Rattle.definitions.specs.Plans.TableSet.{TableSet}
use Rattle.definitions.specs.Plans.Order.{OrderNumber}

-- the cost of a state that is not found, above every other
abbrev pub unknown : ℕ
unknown = 2 ^ 64 - 1

-- of so many sets of tables and orders
pub record Costs : Type 0 where
  pub sets : ℕ
  pub orders : ℕ
  pub cost : TableSet → OrderNumber → ℕ
  pub settled : TableSet → OrderNumber → Bool

-- a state is found at a cost
pub record IsFoundAt (tables : TableSet) (order : OrderNumber) (cost : ℕ) (old new : Costs) : Type 0 where
  pub sets : new.sets ≡ old.sets
  pub orders : new.orders ≡ old.orders
  pub here : new.cost tables order ≡ cost
  pub others : (s : TableSet) (k : OrderNumber) → (s ≢ tables) ⊎ (k ≢ order) → new.cost s k ≡ old.cost s k
  pub settled : (s : TableSet) (k : OrderNumber) → new.settled s k ≡ old.settled s k

-- a state is settled
pub record IsSettledAt (tables : TableSet) (order : OrderNumber) (old new : Costs) : Type 0 where
  pub sets : new.sets ≡ old.sets
  pub orders : new.orders ≡ old.orders
  pub costs : (s : TableSet) (k : OrderNumber) → new.cost s k ≡ old.cost s k
  pub here : new.settled tables order ≡ true
  pub others : (s : TableSet) (k : OrderNumber) → (s ≢ tables) ⊎ (k ≢ order) → new.settled s k ≡ old.settled s k

-- how many of the first orders of a set are settled, and of the first sets
abbrev pub settled_of : (OrderNumber → Bool) → ℕ → ℕ
settled_of settled zero = 0
settled_of settled (suc order) = settled_of settled order + (if settled order then 1 else 0)

abbrev pub settled_among : (TableSet → OrderNumber → Bool) → ℕ → ℕ → ℕ
settled_among settled orders zero = 0
settled_among settled orders (suc tables) = settled_among settled orders tables + settled_of (settled tables) orders

abbrev pub settled_count : Costs → ℕ
settled_count costs = settled_among costs.settled costs.orders costs.sets
