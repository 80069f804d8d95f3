use Rattle.std.proofs.Common.{◌≡◌, ℕ, length, map, drop}
use Rattle.definitions_answers.specs.Parameters.{parameters_from}
use Rattle.query_tree.specs.Bound.{block_of}
use Rattle.subqueries.specs.OuterColumns.{parameters_at}
use Rattle.subqueries.proofs.parameters.block_parameters.Given as goal

-- those of the blocks from a number on are there, and of those before it none
abbrev pub invariant-numbers : goal.invariant-numbers
invariant-numbers l = record {
  count : length l.all.items ≡ length l.blocks;
  behind : (k : ℕ) → parameters_at l.all.items k ≡ parameters_from l.number (map block_of (drop l.number l.blocks)) k;
}
