use Rattle.std.proofs.Common.{◌≡◌, ◌++◌, map, drop}
use Rattle.access_paths.specs.Matches.{before}
use Rattle.access_paths.specs.Views.{index_match_of, matching_term_of}
use Rattle.access_paths.proofs.index_matches.push_before.Given as goal

abbrev pub invariant-others : goal.invariant-others
invariant-others l =
    map index_match_of l.chains.items ++ map (before (matching_term_of l.found)) (map index_match_of (drop l.other-index l.others)) ≡ map index_match_of l.initial.chains.items ++ map (before (matching_term_of l.found)) (map index_match_of l.others)
