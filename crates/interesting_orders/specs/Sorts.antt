-- The orders that rows of a set of tables can be sorted into.
use Rattle.std.specs.Prelude.{ℕ, ◌+◌, if◌then◌else◌, List, [], ◌∷◌, Option, Contains, option_map}
use Rattle.std.specs.List.{AllByRecursion}
use Rattle.std.specs.List.Sorted.{IsStrictlyIncreasing}
use Rattle.definitions.specs.Plans.TableSet.{TableSet}
use Rattle.definitions.specs.Plans.Space.{Space}
use Rattle.definitions.specs.Plans.PlanSpace.{CanSort}
use Rattle.plan_tree.specs.Sets.{set_of}
use Rattle.interesting_orders.specs.Reach.{is_reached}
use Rattle.interesting_orders.specs.declared.order_use.OrderUse.{OrderUse}

abbrev pub tables_of_use : OrderUse → Option TableSet
tables_of_use u = option_map set_of u.tables

-- of orders that count on from a number, those whose tables are all in a set
abbrev pub open_orders : TableSet → ℕ → List (Option TableSet) → List ℕ
open_orders set number [] = []
open_orders set number (tables ∷ rest) = if is_reached tables set then number
    ∷ open_orders set (number + 1) rest else open_orders set (number + 1) rest

-- all orders that rows of the set can be sorted into, each once
pub record AreSorts (space : Space) (set : TableSet) (orders : List ℕ) : Type 0 where
  pub each : AllByRecursion (CanSort space set) orders
  pub all : (order : ℕ) → CanSort space set order → Contains orders order
  pub rising : IsStrictlyIncreasing orders
