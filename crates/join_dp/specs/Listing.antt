-- The settled states, by their sets of tables and orders.
use Rattle.std.specs.Prelude.{ℕ, zero, suc, List, [], ◌∷◌, ◌++◌, if◌then◌else◌}
use Rattle.definitions.specs.Plans.TableSet.{TableSet}
use Rattle.definitions.specs.Plans.Certificate.{StateCost}
use Rattle.join_dp.specs.Costs.{Costs}

module _ (costs : Costs) where
  -- those of a set, of its first orders
  abbrev pub states_of : TableSet → ℕ → List StateCost
  states_of tables zero = []
  states_of tables (suc order) = states_of tables order
      ++ (if costs.settled tables order then record { tables = tables; order = order; cost = costs.cost tables order } ∷ [] else [])

  -- those of the sets from the first that isn't empty up to one
  abbrev pub states_up_to : TableSet → List StateCost
  states_up_to zero = []
  states_up_to (suc tables) = states_up_to tables ++ states_of (suc tables) costs.orders
