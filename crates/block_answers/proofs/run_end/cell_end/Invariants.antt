use Rattle.std.proofs.Common.{ℕ, ◌≡◌, ◌≤◌, ◌<◌, [], get_or, true}
use Rattle.std.specs.Ordering.{is_eq}
use Rattle.definitions.specs.Value.{rank, Null}
use Rattle.definitions_execution.specs.OfBlock.{rows_in}
use Rattle.sqlvalue.specs.Meaning.{value_of}
use Rattle.filters.specs.Sources.{block_in}
use Rattle.block_answers.proofs.run_end.cell_end.Given as goal

-- those so far have it
abbrev pub invariant-places : goal.invariant-places
invariant-places l =
    (at : ℕ) → l.place ≤ at → at < l.at
    → is_eq (rank (value_of l.value) (get_or (get_or (rows_in l.source.database (block_in l.source) l.column.table) (get_or l.rows at 0) []) l.column.number Null)) ≡ true
