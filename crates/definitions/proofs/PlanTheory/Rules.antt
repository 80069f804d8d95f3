-- The comparisons of a certificate, by the kinds of their steps.
use Rattle.std.proofs.Common.{ℕ, ◌+◌, ◌<◌, ◌≤◌, refl}
use Rattle.definitions.specs.Plans.TableSet.{TableSet, no_tables, only, with_table}
use Rattle.definitions.specs.Plans.Order.{OrderNumber}
use Rattle.definitions.specs.Plans.Path.{Path, table_of}
use Rattle.definitions.specs.Plans.Plan.{Inner}
use Rattle.definitions.specs.Plans.Space.{Space}
use Rattle.definitions.specs.Plans.PlanSpace.{IsPath, CanLoop, CanMerge, CanSort}
use Rattle.definitions.specs.Plans.Cost.{saturated, loop_cost, merge_cost}
use Rattle.definitions.specs.Plans.Folding.{Folds}
use Rattle.definitions.specs.Plans.Certificate.{Certificate, IsListed, bound}
use Rattle.definitions.specs.Plans.Comparisons.{AccessStep, LoopStep, MergeStep, SortStep, by_access, by_loop, by_merge, by_sort, ComparisonsHold}
use Rattle.definitions.specs.Plans.Checking.{Rule, Accesses, Joins, Sorts, RuleHolds}

module _ (space : Space) (certificate : Certificate) where
  abbrev pub AccessesHold : Type 0
  AccessesHold = (path : Path) (folded : OrderNumber) → table_of path < space.table_count → IsPath space no_tables path → Folds space (only (table_of path)) (space.path_order path) folded
      → bound certificate (only (table_of path)) folded ≤ space.path_cost no_tables path

  abbrev pub LoopsHold : Type 0
  LoopsHold = (tables : TableSet) (order : OrderNumber) (path : Path) (folded : OrderNumber) → IsListed certificate tables order → CanLoop space tables path
      → Folds space (with_table tables (table_of path)) order folded
      → bound certificate (with_table tables (table_of path)) folded ≤ saturated (bound certificate tables order + loop_cost space tables path)

  abbrev pub MergesHold : Type 0
  MergesHold = (tables : TableSet) (order : OrderNumber) (number : ℕ) (inner : Inner) (folded : OrderNumber) → IsListed certificate tables order → CanMerge space tables order number inner
      → Folds space (with_table tables (table_of inner.path)) order folded
      → bound certificate (with_table tables (table_of inner.path)) folded ≤ saturated (bound certificate tables order + merge_cost space tables number inner)

  abbrev pub SortsHold : Type 0
  SortsHold = (tables : TableSet) (order into folded : OrderNumber) → IsListed certificate tables order → CanSort space tables into → Folds space tables into folded
      → bound certificate tables folded ≤ saturated (bound certificate tables order + space.sort_cost tables)

  pub together : AccessesHold → LoopsHold → MergesHold → SortsHold → ComparisonsHold space certificate
  together accesses loops merges sorts tables reached order folded step cost (by_access path f below is_path folds) = accesses path f below is_path folds
  together accesses loops merges sorts tables reached order folded step cost (by_loop s k path f listed can folds) = loops s k path f listed can folds
  together accesses loops merges sorts tables reached order folded step cost (by_merge s k number inner f listed can folds) = merges s k number inner f listed can folds
  together accesses loops merges sorts tables reached order folded step cost (by_sort s k into f listed can folds) = sorts s k into f listed can folds

  module _ (all : ComparisonsHold space certificate) where
    pub each_rule : (rule : Rule) → RuleHolds space certificate rule
    each_rule rule tables reached order folded step cost compares is = all tables reached order folded step cost compares

    pub accesses_of : AccessesHold
    accesses_of path folded below is_path folds = all _ _ _ _ _ _ (by_access path folded below is_path folds)

    pub loops_of : LoopsHold
    loops_of tables order path folded listed can folds = all _ _ _ _ _ _ (by_loop tables order path folded listed can folds)

    pub merges_of : MergesHold
    merges_of tables order number inner folded listed can folds = all _ _ _ _ _ _ (by_merge tables order number inner folded listed can folds)

    pub sorts_of : SortsHold
    sorts_of tables order into folded listed can folds = all _ _ _ _ _ _ (by_sort tables order into folded listed can folds)

  pub all_rules : RuleHolds space certificate Accesses → RuleHolds space certificate Joins → RuleHolds space certificate Sorts → ComparisonsHold space certificate
  all_rules accesses joins sorts tables reached order folded (AccessStep path) cost compares = accesses tables reached order folded (AccessStep path) cost compares refl
  all_rules accesses joins sorts tables reached order folded (LoopStep path) cost compares = joins tables reached order folded (LoopStep path) cost compares refl
  all_rules accesses joins sorts tables reached order folded (MergeStep number inner) cost compares = joins tables reached order folded (MergeStep number inner) cost compares refl
  all_rules accesses joins sorts tables reached order folded (SortStep into) cost compares = sorts tables reached order folded (SortStep into) cost compares refl

  -- ---- rule by rule

  pub accesses_rule : AccessesHold → RuleHolds space certificate Accesses
  accesses_rule accesses tables reached order folded step cost (by_access path f below is_path folds) is = accesses path f below is_path folds
  accesses_rule accesses tables reached order folded step cost (by_loop s k path f listed can folds) is = absurd cc
  accesses_rule accesses tables reached order folded step cost (by_merge s k number inner f listed can folds) is = absurd cc
  accesses_rule accesses tables reached order folded step cost (by_sort s k into f listed can folds) is = absurd cc

  pub joins_rule : LoopsHold → MergesHold → RuleHolds space certificate Joins
  joins_rule loops merges tables reached order folded step cost (by_access path f below is_path folds) is = absurd cc
  joins_rule loops merges tables reached order folded step cost (by_loop s k path f listed can folds) is = loops s k path f listed can folds
  joins_rule loops merges tables reached order folded step cost (by_merge s k number inner f listed can folds) is = merges s k number inner f listed can folds
  joins_rule loops merges tables reached order folded step cost (by_sort s k into f listed can folds) is = absurd cc

  pub sorts_rule : SortsHold → RuleHolds space certificate Sorts
  sorts_rule sorts tables reached order folded step cost (by_access path f below is_path folds) is = absurd cc
  sorts_rule sorts tables reached order folded step cost (by_loop s k path f listed can folds) is = absurd cc
  sorts_rule sorts tables reached order folded step cost (by_merge s k number inner f listed can folds) is = absurd cc
  sorts_rule sorts tables reached order folded step cost (by_sort s k into f listed can folds) is = sorts s k into f listed can folds
