use Rattle.std.proofs.Common.{◌≡◌, ◌++◌, map, drop}
use Rattle.definitions.specs.Table.{Index}
use Rattle.query_tree.specs.Bound.{block_of}
use Rattle.access_paths.specs.Found.{found_path_of}
use Rattle.access_paths.specs.Listing.{matching_found, scans_found}
use Rattle.access_paths.specs.Scans.{IsSizeOf}
use Rattle.access_paths.specs.Views.{index_match_of}
use Rattle.access_paths.proofs.paths.IndexScan.push_all.Given as goal

abbrev pub invariant-chains : goal.invariant-chains
invariant-chains l = (i : Index) → IsSizeOf l.estimate.database (block_of l.estimate.block) l.self.table i l.self.size
    → map found_path_of l.paths.items ++ map (matching_found l.estimate.database (block_of l.estimate.block) l.self.table l.self.number i l.backward) (map index_match_of (drop l.index_match-index l.chains)) ≡ map found_path_of l.fn.paths.items ++ scans_found l.estimate.database (block_of l.estimate.block) l.self.table l.self.number i (map index_match_of l.chains) l.backward
