-- A search that settles states in the order of their costs (Dijkstra 1959).
use Rattle.std.specs.Prelude.{ℕ, ◌+◌, ◌^◌, ◌<◌, ◌≤◌, ◌≡◌, List, true, false, Contains, length}
use Rattle.definitions.specs.Plans.TableSet.{TableSet}
use Rattle.definitions.specs.Plans.Order.{OrderNumber}
use Rattle.definitions.specs.Plans.Space.{Space}
use Rattle.definitions.specs.Plans.Cost.{limit}
use Rattle.join_dp.specs.Costs.{Costs, IsSettledAt, settled_count, unknown}
use Rattle.join_dp.specs.StatePlans.{StatePlan, told, at, IsMade, AllMade}
use Rattle.join_dp.specs.Steps.{Candidate}
use Rattle.join_dp.specs.Waiting.{Waiting}

-- plans of states, in the order in which they were found; the states' costs; what waits to be settled; the steps looked at
pub record Search : Type 0 where
  pub states : List StatePlan
  pub costs : Costs
  pub waiting : List Waiting
  pub steps : ℕ

abbrev pub cost_at : Search → TableSet → OrderNumber → ℕ
cost_at s tables order = s.costs.cost tables order

abbrev pub IsSettled : Search → TableSet → OrderNumber → Type 0
IsSettled s tables order = s.costs.settled tables order ≡ true

-- the state at a place
abbrev pub IsAt : Search → ℕ → TableSet → OrderNumber → ℕ → Type 0
IsAt s place tables order cost =
    (place < length s.states) × (told (at s.states place) ≡ record { tables = tables; order = order; cost = cost })

-- a plan that waits stands at its place, at a level or above, and the cost of its state is no more than its own
pub record Waits (level : ℕ) (s : Search) (cost place : ℕ) : Type 0 where
  pub within : place < length s.states
  pub stands : (at s.states place).found.cost ≡ cost
  pub high : level ≤ cost
  pub low : cost_at s (at s.states place).tables (at s.states place).order ≤ cost

-- each state that is found has a plan of its cost, which waits if it is not settled; what waits costs no less than a
-- level, and what is settled no more
pub record IsOpen (space : Space) (level : ℕ) (s : Search) : Type 0 where
  pub sets : s.costs.sets ≡ 2 ^ space.table_count
  pub orders : s.costs.orders ≡ length space.orders
  pub made : AllMade space s.states
  pub inside : (place : ℕ) → place < length s.states → (at s.states place).tables < 2 ^ space.table_count
  pub found : (tables : TableSet) (order : OrderNumber) → cost_at s tables order ≤ limit
      → (place : ℕ) × IsAt s place tables order (cost_at s tables order)
      × (s.costs.settled tables order ≡ false → Contains s.waiting (cost_at s tables order, place))
  pub waits : (cost place : ℕ) → Contains s.waiting (cost, place) → Waits level s cost place
  pub low : (tables : TableSet) (order : OrderNumber) → IsSettled s tables order
      → (cost_at s tables order ≤ level) × (cost_at s tables order ≤ limit)
  pub counted : settled_count s.costs + length s.waiting ≤ length s.states
  pub stepped : length s.states ≤ s.steps

-- a plan of a state, at a level or above
pub record IsOffer (space : Space) (level : ℕ) (s : Search) (tables : TableSet) (order : OrderNumber) (candidate : Candidate) : Type 0 where
  pub is_open : IsOpen space level s
  pub made : IsMade space s.states tables order candidate
  pub inside : tables < 2 ^ space.table_count
  pub numbered : order < length space.orders
  pub high : level ≤ candidate.cost

-- more plans were found: no cost has risen, those of settled states are the same, and plans found before stand where they
-- did
pub record AreMore (old new : Search) : Type 0 where
  pub lower : (tables : TableSet) (order : OrderNumber) → cost_at new tables order ≤ cost_at old tables order
  pub settled : (tables : TableSet) (order : OrderNumber) → new.costs.settled tables order ≡ old.costs.settled tables order
  pub same : (tables : TableSet) (order : OrderNumber) → IsSettled old tables order → cost_at new tables order ≡ cost_at old tables order
  pub longer : length old.states ≤ length new.states
  pub kept : (place : ℕ) → place < length old.states → at new.states place ≡ at old.states place

-- what waits stands at places, whose states are found and have slots
pub record AreSlotted (s : Search) : Type 0 where
  pub within : (cost place : ℕ) → Contains s.waiting (cost, place) → place < length s.states
  pub sets : (cost place : ℕ) → Contains s.waiting (cost, place) → (at s.states place).tables < s.costs.sets
  pub orders : (cost place : ℕ) → Contains s.waiting (cost, place) → (at s.states place).order < s.costs.orders
  pub found : (cost place : ℕ) → Contains s.waiting (cost, place)
      → cost_at s (at s.states place).tables (at s.states place).order < unknown

-- the cheapest state that waits is settled, whose plan is at a place
pub record IsNext (space : Space) (level place : ℕ) (old new : Search) : Type 0 where
  pub is_open : IsOpen space (at new.states place).found.cost new
  pub states : new.states ≡ old.states
  pub within : place < length new.states
  pub rises : level ≤ (at new.states place).found.cost
  pub cost : cost_at new (at new.states place).tables (at new.states place).order ≡ (at new.states place).found.cost
  pub was_not : old.costs.settled (at new.states place).tables (at new.states place).order ≡ false
  pub settled : IsSettledAt (at new.states place).tables (at new.states place).order old.costs new.costs
  pub steps : new.steps ≡ old.steps
