-- The merges that may bring a table, for every set of tables.
use Rattle.std.specs.Prelude.{ℕ, ◌≡◌, List, Option, Some, None, Contains, slice_get}
use Rattle.std.specs.List.{AllByRecursion}
use Rattle.definitions.specs.Plans.TableSet.{only}
use Rattle.definitions.specs.Plans.Order.{BlockColumn}
use Rattle.definitions.specs.Plans.Path.{table_of}
use Rattle.definitions.specs.Plans.Plan.{Inner}
use Rattle.definitions.specs.Plans.Space.{Space}
use Rattle.definitions.specs.Plans.PlanSpace.{IsInner}
use Rattle.definitions.specs.Plans.Cost.{selectivity_of}
use Rattle.plan_tree.specs.Plans.{path_of}
use Rattle.plan_space.specs.Merge.{FoundMerge, AreDistinct, MergesBy, IsFound, found}
use Rattle.plan_space.specs.declared.listed.MergeJoinPath.{MergeJoinPath}
use Rattle.plan_space.specs.declared.listed.MergeClause.{MergeClause}

abbrev pub found_merge_of : MergeJoinPath → FoundMerge
found_merge_of x =
    record {
      conjunct = x.conjunct;
      other = x.other;
      inner = record { path = path_of x.path; sorted = x.sorted };
      cost =
          x.cost.number;
      selectivity = x.selectivity;
    }

module _ (space : Space) where
  -- how a conjunct may merge a table, if it does
  abbrev pub IsWay : ℕ → ℕ → Option MergeClause → Type 0
  IsWay table number None = (x y : BlockColumn) → MergesBy space table number x y → ⊥
  IsWay table number (Some clause) = (clause.table ≡ table) × (clause.conjunct ≡ number)
      × ((x : BlockColumn) × (y : BlockColumn) × MergesBy space table number x y × (x.table ≡ clause.other))
      × (clause.selectivity ≡ selectivity_of (slice_get space.conjuncts number))
      × (clause.sort_cost.number ≡ space.sort_cost (only table))

  -- each is one that brings the table, those of all conjuncts are there, and none twice
  pub record AreMergesOf (table : ℕ) (xs : List FoundMerge) : Type 0 where
    pub each : AllByRecursion (IsFound space table) xs
    pub all : (number : ℕ) (inner : Inner) (x y : BlockColumn) → MergesBy space table number x y
        → table_of inner.path ≡ table → IsInner space y inner
        → Contains xs (found space number x.table inner)
    pub distinct : AreDistinct xs
