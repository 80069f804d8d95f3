use Rattle.std.proofs.Common.{◌≡◌, length, map}
use Rattle.plan_tree.specs.Sets.{set_of}
use Rattle.plan_space.specs.Merge.{open_merges}
use Rattle.plan_space.specs.MergeListed.{found_merge_of}
use Rattle.plan_space.proofs.merge_joins.MergesIterator.next.Given as goal

abbrev pub invariant-merges : goal.invariant-merges
invariant-merges l = open_merges (set_of l.self-inside.tables) l.self-inside.pairs (map found_merge_of l.self-inside.rest.now) ≡ l.fn.self

abbrev pub decreases-merges : goal.decreases-merges
decreases-merges l = length l.self-inside.rest.now
