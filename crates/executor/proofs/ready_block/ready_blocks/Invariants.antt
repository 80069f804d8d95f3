use Rattle.std.proofs.Common.{◌≡◌, ℕ, Some, length, map, take, drop}
use Rattle.std.specs.Prelude.{slice_get}
use Rattle.std.specs.List.{AllByRecursion}
use Rattle.query_tree.specs.Bound.{block_of}
use Rattle.plan_space.specs.BlockPlans.{AreLeastOf}
use Rattle.executor.specs.declared.ready_block.ReadyBlock.{ReadyBlock}
use Rattle.executor.specs.ReadyBlocks.{blocks_in, HasLeast, IsReadyIn}
use Rattle.executor.proofs.ready_block.ready_blocks.Given as goal

-- those of the plans that are taken are ready, and the others are of the blocks that are left
abbrev pub invariant-taking : goal.invariant-taking
invariant-taking l = record {
  blocks : blocks_in l.query.items ≡ take (length l.query.items) (map block_of l.blocks);
  ready : (number : ℕ) (r : ReadyBlock) → slice_get l.query.items number ≡ Some r → IsReadyIn l.database (map block_of l.blocks) number r;
  least : AllByRecursion (HasLeast l.database) l.query.items;
  left : AreLeastOf l.database (drop (length l.query.items) (map block_of l.blocks)) l.rest.rest.items;
}

abbrev pub decreases-taking : goal.decreases-taking
decreases-taking l = length l.rest.rest.items
