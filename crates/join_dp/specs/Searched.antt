-- What a search knows of the steps from the states that it has settled.
use Rattle.std.specs.Prelude.{ℕ, ◌+◌, ◌<◌, ◌≤◌, ◌≡◌, ◌⊎◌, length}
use Rattle.definitions.specs.Plans.TableSet.{TableSet, no_tables, only, with_table}
use Rattle.definitions.specs.Plans.Order.{OrderNumber}
use Rattle.definitions.specs.Plans.Path.{Path, table_of}
use Rattle.definitions.specs.Plans.Space.{Space}
use Rattle.definitions.specs.Plans.PlanSpace.{IsPath, CanSort}
use Rattle.definitions.specs.Plans.Folding.{Folds}
use Rattle.definitions.specs.Plans.Cost.{limit, saturated}
use Rattle.join_dp.specs.Final.{IsFinal}
use Rattle.join_dp.specs.Joining.{CanJoin, join_cost, GoesWith}
use Rattle.join_dp.specs.Searching.{Search, IsSettled, cost_at, IsOpen}
use Rattle.join_dp.specs.StatePlans.{StatePlan, at}
use Rattle.join_dp.specs.Steps.{Join, table_in, Step, AccessOf, JoinOn, SortOn}
use Rattle.join_dp.specs.Views.{Added}

module _ (space : Space) (cost : TableSet → OrderNumber → ℕ) where
  -- no access of a table leads below the cost of a state
  abbrev pub LowByAccesses : ℕ → Type 0
  LowByAccesses table = (path : Path) (folded : OrderNumber) → table_of path ≡ table → IsPath space no_tables path
      → Folds space (only table) (space.path_order path) folded → cost (only table) folded ≤ space.path_cost no_tables path

  -- no join from a state at a cost does
  abbrev pub LowByJoins : TableSet → OrderNumber → ℕ → Type 0
  LowByJoins tables order from = (join : Join) (folded : OrderNumber) → CanJoin space tables order join
      → Folds space (with_table tables (table_in join)) order folded
      → cost (with_table tables (table_in join)) folded ≤ saturated (from + join_cost space tables join)

  -- no sort does
  abbrev pub LowBySorts : TableSet → ℕ → Type 0
  LowBySorts tables from = (into folded : OrderNumber) → CanSort space tables into → Folds space tables into folded
      → cost tables folded ≤ saturated (from + space.sort_cost tables)

  -- an added join from a state, if the state's order allows it, doesn't
  abbrev pub LowByAdded : StatePlan → Added → Type 0
  LowByAdded state added = (folded : OrderNumber) → GoesWith space state.tables state.order added.table added.join
      → Folds space (with_table state.tables added.table) state.order folded
      → cost (with_table state.tables added.table) folded ≤ saturated (state.found.cost + added.cost)

  pub record IsLowFrom (tables : TableSet) (order : OrderNumber) (from : ℕ) : Type 0 where
    pub joins : LowByJoins tables order from
    pub sorts : LowBySorts tables from

-- what a state's plan costs when it is sorted: one that is sorted already is sorted otherwise, in place of that sort
abbrev pub cost_sorted_by : Space → Step → TableSet → ℕ → ℕ
cost_sorted_by space (AccessOf path) tables cost = saturated (cost + space.sort_cost tables)
cost_sorted_by space (JoinOn from join) tables cost = saturated (cost + space.sort_cost tables)
cost_sorted_by space (SortOn from into) tables cost = cost

abbrev pub cost_sorted : Space → StatePlan → ℕ
cost_sorted space state = cost_sorted_by space state.found.step state.tables state.found.cost

-- and the place of the plan that is sorted then
abbrev pub sorted_from_by : ℕ → Step → ℕ
sorted_from_by place (AccessOf path) = place
sorted_from_by place (JoinOn from join) = place
sorted_from_by place (SortOn from into) = from

abbrev pub sorted_from : ℕ → StatePlan → ℕ
sorted_from place state = sorted_from_by place state.found.step

-- of the sets that are listed now, but were not, the sorts are taken from the state
abbrev pub AreSortsTaken : Space → StatePlan → (TableSet → Type 0) → (TableSet → Type 0) → (TableSet → OrderNumber → ℕ) → Type 0
AreSortsTaken space state WasListed IsListed new = (tables : TableSet) → IsListed tables
    → WasListed tables ⊎ ((tables ≡ state.tables) × LowBySorts space new tables state.found.cost)

-- states are settled up to a level, and no step leads below the costs of states: no access, and none from a settled
-- state, but for one state; the sorts of listed sets of tables are taken from a state at the level or below; no state
-- that is settled, but for that one, gives an answer
pub record IsSearched (space : Space) (level : ℕ) (IsBut : TableSet → OrderNumber → Type 0) (IsListed : TableSet → Type 0) (s : Search) : Type 0 where
  pub is_open : IsOpen space level s
  pub small : level ≤ limit
  pub accesses : (table : ℕ) → table < space.table_count → LowByAccesses space (cost_at s) table
  pub steps : (tables : TableSet) (order : OrderNumber) → IsSettled s tables order
      → IsBut tables order ⊎ IsLowFrom space (cost_at s) tables order (cost_at s tables order)
  pub sorts : (tables : TableSet) → IsListed tables → (from : ℕ) × (from ≤ level) × LowBySorts space (cost_at s) tables from
  pub never : (tables : TableSet) (order : OrderNumber) → IsSettled s tables order → IsFinal space tables order → IsBut tables order

-- the state alone, or none
abbrev pub IsSame : StatePlan → TableSet → OrderNumber → Type 0
IsSame state tables order = (tables ≡ state.tables) × (order ≡ state.order)

abbrev pub IsNone : TableSet → OrderNumber → Type 0
IsNone tables order = ⊥

-- a search ends at the first state that gives an answer
pub record IsEnd (space : Space) (place : ℕ) (s : Search) : Type 0 where
  pub within : place < length s.states
  pub settled : IsSettled s (at s.states place).tables (at s.states place).order
  pub cost : cost_at s (at s.states place).tables (at s.states place).order ≡ (at s.states place).found.cost
  pub final : IsFinal space (at s.states place).tables (at s.states place).order
  pub searched : IsSearched space (at s.states place).found.cost (IsSame (at s.states place)) (λ tables. ⊥) s
