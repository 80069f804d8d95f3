use Rattle.std.proofs.Common.{◌≡◌, ◌++◌, map}
use Rattle.query_tree.specs.Bound.{block_of, column_of}
use Rattle.access_paths.specs.Matches.{column_matches}
use Rattle.access_paths.specs.Views.{matching_term_of}
use Rattle.access_paths.proofs.Early.{matches_from}
use Rattle.access_paths.proofs.matching_terms.column_matches.Given as goal

abbrev pub invariant-numbers : goal.invariant-numbers
invariant-numbers l =
    map matching_term_of l.matches.items ++ matches_from (block_of l.estimate.block) (column_of l.column) l.number l.number-end ≡ column_matches (block_of l.estimate.block) (column_of l.column)
