use Rattle.std.proofs.Common.{◌≡◌, ◌++◌, map, drop}
use Rattle.access_paths.specs.Matches.{with_column}
use Rattle.access_paths.specs.Views.{index_match_of, matching_term_of}
use Rattle.access_paths.proofs.index_matches.with_column.Given as goal

abbrev pub invariant-matches : goal.invariant-matches
invariant-matches l =
    map index_match_of l.chains.items ++ with_column (map index_match_of l.others) (map matching_term_of (drop l.found-index l.matches)) ≡ with_column (map index_match_of l.others) (map matching_term_of l.matches)
