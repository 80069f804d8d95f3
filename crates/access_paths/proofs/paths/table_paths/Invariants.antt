use Rattle.std.proofs.Common.{◌≡◌, ◌++◌, map, drop}
use Rattle.std.specs.Prelude.{flat_map}
use Rattle.query_tree.specs.Bound.{block_of}
use Rattle.access_paths.specs.Found.{found_path_of, directions_with}
use Rattle.access_paths.specs.Listing.{number_found, table_found}
use Rattle.access_paths.proofs.paths.table_paths.Given as goal

abbrev pub invariant-indexes : goal.invariant-indexes
invariant-indexes l =
    map found_path_of l.paths.items ++ flat_map (number_found l.estimate.database (block_of l.estimate.block) l.table (directions_with l.backward)) (drop l.number-index l.indexes) ≡ table_found l.estimate.database (block_of l.estimate.block) l.table l.indexes (directions_with l.backward)
