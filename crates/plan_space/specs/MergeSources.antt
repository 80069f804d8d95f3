-- What the merges of a block are listed from.
use Rattle.std.specs.Prelude.{ℕ, ◌≡◌, List, Some, map}
use Rattle.std.specs.Global.{Vec}
use Rattle.definitions.specs.Plans.Space.{Space}
use Rattle.definitions.specs.Plans.TableSet.{only}
use Rattle.definitions.specs.Estimates.BlockSpace.{space_of}
use Rattle.definitions.specs.Estimates.PlanConjuncts.{plan_conjuncts}
use Rattle.definitions.specs.Estimates.Version.{Version}
use Rattle.query_tree.specs.Bound.{block_of}
use Rattle.estimate.specs.Estimated.{Estimated}
use Rattle.interesting_orders.specs.Uses.{AreClassesIn, AreUses}
use Rattle.interesting_orders.specs.declared.interesting_orders.InterestingOrders.{InterestingOrders}
use Rattle.interesting_orders.specs.declared.equivalence_classes.EquivalenceClasses.{EquivalenceClasses}
use Rattle.plan_space.specs.Merge.{FoundMerge}
use Rattle.plan_space.specs.MergeListed.{found_merge_of, IsWay}
use Rattle.plan_space.specs.PathLists.{AreBlockPaths}
use Rattle.plan_space.specs.declared.listed.MergeClause.{MergeClause}
use Rattle.plan_space.specs.declared.listed.MergeJoinPath.{MergeJoinPath}
use Rattle.plan_space.specs.declared.path_lists.BlockPaths.{BlockPaths}

abbrev pub merges_in : Vec MergeJoinPath → List FoundMerge
merges_in merges = map found_merge_of merges.items

-- the plan space of a block that is estimated
abbrev pub estimated_space : Version → Estimated → Space
estimated_space version e = space_of version e.database (block_of e.block)

-- the paths of the block's tables, and what its orders serve for
pub record AreOfBlock (version : Version) (e : Estimated) (p : BlockPaths) (u : InterestingOrders) : Type 0 where
  pub paths : AreBlockPaths version e.database (block_of e.block) p
  pub uses : AreUses (estimated_space version e) u

-- a space of the block's conjuncts, in which a sort of the table's rows costs so much
pub record HasFigures (space : Space) (e : Estimated) (table cost : ℕ) : Type 0 where
  pub conjuncts : space.conjuncts ≡ plan_conjuncts e.database (block_of e.block)
  pub sort_cost : cost ≡ space.sort_cost (only table)

-- a conjunct that merges its table, and the classes of columns under that table alone
pub record CanMergeBy (space : Space) (clause : MergeClause) (u : InterestingOrders) (c : EquivalenceClasses) : Type 0 where
  pub uses : AreUses space u
  pub classes : AreClassesIn space (only clause.table) u c
  pub way : IsWay space clause.table clause.conjunct (Some clause)
