use Rattle.plan_space.specs.Planned.{space_in}
use Rattle.std.proofs.Common.{◌+◌, ◌≤◌, List, length, map, option_map}
use Rattle.plan_space.specs.Merge.{Merge as CostedMerge, AreMerges}
use Rattle.plan_space.specs.Merges.{merge_of}
use Rattle.plan_tree.specs.Sets.{set_of}
use Rattle.join_dp.specs.JoinLists.{known_cost}
use Rattle.join_dp.specs.Views.{added_of}
use Rattle.join_dp.proofs.JoinsListed.{Merged, one_kept}
use Rattle.join_dp.proofs.join_lists.push_merges.Given as goal

abbrev pub invariant-merges : goal.invariant-merges
invariant-merges l = Merged (space_in l.space) (set_of l.outer.tables) l.table (known_cost l.known) (map added_of l.fn.joins.items) (map added_of l.joins.items) (option_map merge_of l.best) l.item-iterator
    × ((merges : List CostedMerge) × AreMerges (space_in l.space) (set_of l.outer.tables) l.table merges
    × (length (map added_of l.joins.items) + one_kept (option_map merge_of l.best) + length l.item-iterator ≤ length (map added_of l.fn.joins.items) + length merges))
