use Rattle.std.proofs.Common.{◌≡◌, ◌++◌, length, map}
use Rattle.std.specs.List.{AllByRecursion}
use Rattle.query_tree.specs.Bound.{block_of}
use Rattle.access_paths.specs.Found.{FoundPath, found_path_of, Reads}
use Rattle.plan_space.specs.PathListed.{listed_path_of, with_number}
use Rattle.plan_space.proofs.path_lists.with_orders.Given as goal

abbrev pub invariant-paths : goal.invariant-paths
invariant-paths l = record {
  exact : map listed_path_of l.paths.items ++ map (with_number l.estimate.database (block_of l.estimate.block) l.orders) (map found_path_of l.rest.rest.items)
      ≡ map (with_number l.estimate.database (block_of l.estimate.block) l.orders) (map found_path_of l.fn.found.items);
  reads : AllByRecursion (λ (x : FoundPath). Reads l.estimate.database (block_of l.estimate.block) l.table x.path) (map found_path_of l.rest.rest.items);
}

abbrev pub decreases-paths : goal.decreases-paths
decreases-paths l = length l.rest.rest.items
