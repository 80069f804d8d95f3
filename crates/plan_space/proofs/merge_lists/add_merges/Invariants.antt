use Rattle.std.proofs.Common.{map}
use Rattle.definitions.specs.Plans.Space.{Space}
use Rattle.definitions.specs.Plans.TableSet.{no_tables}
use Rattle.plan_space.specs.Item.{AreItems}
use Rattle.plan_space.specs.Merge.{ListsPathsOnce}
use Rattle.plan_space.specs.MergeListed.{found_merge_of}
use Rattle.plan_space.specs.MergeSources.{CanMergeBy}
use Rattle.plan_space.proofs.Walking.{AddsBut}
use Rattle.plan_space.proofs.merge_lists.add_merges.Given as goal

abbrev pub invariant-paths : goal.invariant-paths
invariant-paths l = (space : Space) → CanMergeBy space l.clause l.uses l.classes → AreItems space no_tables l.clause.table l.fn.paths → ListsPathsOnce space l.clause.table
    → AddsBut space l.clause.table l.clause.conjunct l.rest (map found_merge_of l.fn.merges.items) (map found_merge_of l.merges.items)
