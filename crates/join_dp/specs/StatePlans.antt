-- States, each with the last step of a plan.
use Rattle.std.specs.Prelude.{ℕ, ◌+◌, ◌<◌, ◌≤◌, ◌≡◌, List, length, get_or}
use Rattle.definitions.specs.Plans.TableSet.{TableSet, no_tables, only, with_table}
use Rattle.definitions.specs.Plans.Order.{OrderNumber}
use Rattle.definitions.specs.Plans.Path.{SegmentScan, table_of}
use Rattle.definitions.specs.Plans.Space.{Space}
use Rattle.definitions.specs.Plans.PlanSpace.{IsPath, CanSort}
use Rattle.definitions.specs.Plans.Folding.{Folds}
use Rattle.definitions.specs.Plans.Cost.{limit, saturated}
use Rattle.definitions.specs.Plans.Certificate.{StateCost}
use Rattle.join_dp.specs.Steps.{Step, AccessOf, JoinOn, SortOn, table_in, Candidate, IsUnsorted}
use Rattle.join_dp.specs.Joining.{CanJoin, join_cost}

pub record StatePlan : Type 0 where
  pub tables : TableSet
  pub order : OrderNumber
  pub found : Candidate

abbrev pub told : StatePlan → StateCost
told state = record { tables = state.tables; order = state.order; cost = state.found.cost }

-- the state at a place
abbrev pub at : List StatePlan → ℕ → StatePlan
at states place =
    get_or states place
    (record {
      tables = no_tables;
      order = 0;
      found = record { step = AccessOf (SegmentScan 0); cost = 0 };
    })

module _ (space : Space) (states : List StatePlan) where
  -- the step leads to the state at that cost, a join or a sort from one of the first states; no sort is behind another
  abbrev pub StepMakes : ℕ → TableSet → OrderNumber → ℕ → Step → Type 0
  StepMakes first tables order cost (AccessOf path) = (table_of path < space.table_count) × IsPath space no_tables path
      × (tables ≡ only (table_of path))
      × Folds space tables (space.path_order path) order × (cost ≡ space.path_cost no_tables path)
  StepMakes first tables order cost (JoinOn from join) = (from < first)
      × CanJoin space (at states from).tables (at states from).order join
      × (tables ≡ with_table (at states from).tables (table_in join))
      × Folds space tables (at states from).order order
      × (cost ≡ saturated ((at states from).found.cost + join_cost space (at states from).tables join))
  StepMakes first tables order cost (SortOn from into) = (from < first) × IsUnsorted (at states from).found.step
      × (tables ≡ (at states from).tables)
      × CanSort space tables into × Folds space tables into order
      × (cost ≡ saturated ((at states from).found.cost + space.sort_cost tables))

  pub record IsMade (tables : TableSet) (order : OrderNumber) (candidate : Candidate) : Type 0 where
    pub small : candidate.cost ≤ limit
    pub made : StepMakes (length states) tables order candidate.cost candidate.step

  -- a state is made by its step, from a state before it
  pub record IsMadeAt (place : ℕ) : Type 0 where
    pub small : (at states place).found.cost ≤ limit
    pub numbered : (at states place).order < length space.orders
    pub made : StepMakes place (at states place).tables (at states place).order (at states place).found.cost
        (at states place).found.step

  abbrev pub AllMade : Type 0
  AllMade = (place : ℕ) → place < length states → IsMadeAt place
