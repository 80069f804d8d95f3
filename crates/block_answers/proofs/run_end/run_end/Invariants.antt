use Rattle.std.proofs.Common.{ℕ, ◌≡◌, ◌≤◌, ◌<◌, [], get_or, length, map, drop}
use Rattle.definitions_answers.specs.Groups.{in_one_group}
use Rattle.query_tree.specs.Bound.{column_of}
use Rattle.block_answers.specs.Groups.{seen}
use Rattle.block_answers.specs.Runs.{combination_at}
use Rattle.block_answers.proofs.run_end.run_end.Given as goal

-- the columns so far tell the rows not apart from the first
abbrev pub invariant-columns : goal.invariant-columns
invariant-columns g l = record {
  forward : l.place ≤ l.end;
  within : l.end ≤ length l.batch.items;
  run :
      (at : ℕ) → l.place ≤ at → at < l.end
      → in_one_group (map column_of (drop l.column-index l.columns)) (seen l.source (g.A.OuterRows.combinations l.around) l.row) (combination_at l.source (g.A.OuterRows.combinations l.around) (get_or l.batch.items at []))
      ≡ in_one_group (map column_of l.columns) (seen l.source (g.A.OuterRows.combinations l.around) l.row) (combination_at l.source (g.A.OuterRows.combinations l.around) (get_or l.batch.items at []));
}
