-- How many steps a search may take (own).
use Rattle.std.specs.Prelude.{ℕ, zero, suc, ◌+◌, ◌-◌, ◌*◌, ◌^◌, ◌≤◌, if◌then◌else◌, ◌==◌, List, length}
use Rattle.definitions.specs.Estimates.BlockTables.{has}
use Rattle.definitions.specs.Plans.TableSet.{TableSet, no_tables}
use Rattle.definitions.specs.Plans.Order.{OrderNumber}
use Rattle.definitions.specs.Plans.Space.{Space, whole}
use Rattle.definitions.specs.Plans.PlanSpace.{MayFollow}
use Rattle.plan_space.specs.Merge.{Merge as CostedMerge, AreMerges}
use Rattle.plan_space.specs.InterestingOrders.Sorts.{AreSorts}

-- the accesses of the first tables
abbrev pub most_accesses : Space → ℕ → ℕ
most_accesses space zero = 0
most_accesses space (suc table) = most_accesses space table + length (space.paths no_tables table)

module _ (space : Space) (sorts : TableSet → ℕ) (joins : TableSet → ℕ → ℕ) where
  -- no more sorts of a set, and joins of it with a table that may follow, than so many
  pub record AreCounts : Type 0 where
    pub of_sorts : (tables : TableSet) (orders : List OrderNumber) → AreSorts space tables orders
        → length orders ≤ sorts tables
    pub of_joins : (tables : TableSet) (table : ℕ) (merges : List CostedMerge) → MayFollow space tables table
        → AreMerges space tables table merges
        → length (space.paths tables table) + length merges ≤ joins tables table

  -- the joins on top of plans of a set with any of the first tables
  abbrev pub most_joins : TableSet → ℕ → ℕ
  most_joins tables zero = 0
  most_joins tables (suc table) = most_joins tables table + (if has tables table then 0 else joins tables table)

  -- the steps by which a table comes last to a set: its accesses, or its joins on top of each state of the set without
  -- it
  abbrev pub most_last : TableSet → ℕ → ℕ
  most_last tables table =
      if has tables table then (if tables - 2 ^ table ==
      no_tables then length (space.paths no_tables table) else length space.orders * joins (tables - 2 ^ table)
      table)
      else 0

  -- of the first tables
  abbrev pub most_lasts : TableSet → ℕ → ℕ
  most_lasts tables zero = 0
  most_lasts tables (suc table) = most_lasts tables table + most_last tables table

  -- to a set, and to all sets up to one
  abbrev pub most_to : TableSet → ℕ
  most_to tables = most_lasts tables space.table_count + sorts tables

  abbrev pub most_up_to : TableSet → ℕ
  most_up_to zero = 0
  most_up_to (suc tables) = most_up_to tables + most_to (suc tables)

  abbrev pub most_steps : ℕ
  most_steps = most_up_to (whole space)
