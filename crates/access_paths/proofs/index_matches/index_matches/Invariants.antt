use Rattle.std.proofs.Common.{◌≡◌, length, map}
use Rattle.query_tree.specs.Bound.{block_of}
use Rattle.access_paths.specs.Matches.{index_matches}
use Rattle.access_paths.specs.Views.{index_match_of}
use Rattle.access_paths.proofs.Rooms.{onto, AreWithinDone}
use Rattle.access_paths.proofs.index_matches.index_matches.Given as goal

abbrev pub invariant-columns : goal.invariant-columns
invariant-columns l = record {
  exact : onto (block_of l.estimate.block) l.table l.rest (map index_match_of l.chains.items) ≡ index_matches (block_of l.estimate.block) l.table l.columns;
  within : AreWithinDone l.columns l.rest (map index_match_of l.chains.items);
}

abbrev pub decreases-columns : goal.decreases-columns
decreases-columns l = length l.rest
