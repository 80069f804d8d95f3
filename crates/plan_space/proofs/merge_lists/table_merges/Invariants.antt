use Rattle.std.proofs.Common.{map}
use Rattle.definitions.specs.Estimates.Version.{Version}
use Rattle.plan_space.specs.MergeListed.{found_merge_of}
use Rattle.plan_space.specs.MergeSources.{estimated_space, AreOfBlock}
use Rattle.plan_space.proofs.Walking.{AreFirst}
use Rattle.plan_space.proofs.merge_lists.table_merges.Given as goal

abbrev pub invariant-conjuncts : goal.invariant-conjuncts
invariant-conjuncts l = (version : Version) → AreOfBlock version l.estimate l.paths l.uses
    → AreFirst (estimated_space version l.estimate) l.table l.conjunct (map found_merge_of l.merges.items)
