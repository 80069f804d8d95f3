use Rattle.std.proofs.Common.{◌≡◌, ℕ, Some, length, map}
use Rattle.std.specs.Prelude.{slice_get}
use Rattle.query_tree.specs.Bound.{block_of}
use Rattle.executor.specs.declared.ready_block.ReadyBlock.{ReadyBlock}
use Rattle.executor.specs.ReadyBlocks.{blocks_in, IsReadyIn}
use Rattle.cases_plans.proofs.selecting.add_planned.Given as goal

-- all are ready, with the plans that were given so far
abbrev pub invariant-numbers : goal.invariant-numbers
invariant-numbers l = record {
  count : length l.query.items ≡ length l.blocks;
  blocks : blocks_in l.query.items ≡ map block_of l.blocks;
  ready : (number : ℕ) (r : ReadyBlock) → slice_get l.query.items number ≡ Some r → IsReadyIn l.database (map block_of l.blocks) number r;
}
