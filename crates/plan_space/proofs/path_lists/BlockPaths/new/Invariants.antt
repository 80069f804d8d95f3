use Rattle.std.proofs.Common.{◌≡◌, length, map}
use Rattle.std.specs.Global.{Vec}
use Rattle.query_tree.specs.Bound.{block_of}
use Rattle.plan_tree.specs.Versions.{version_of}
use Rattle.plan_space.specs.PathListed.{AreListed, listed_path_of}
use Rattle.plan_space.specs.declared.path_lists.NumberedPath.{NumberedPath}
use Rattle.plan_space.proofs.Listing.{AreFirst}
use Rattle.plan_space.proofs.path_lists.BlockPaths.new.Given as goal

abbrev pub invariant-tables : goal.invariant-tables
invariant-tables l = record {
  len : length l.tables.items ≡ l.table;
  each : AreFirst (AreListed (version_of l.version) l.estimate.database (block_of l.estimate.block)) (λ (v : Vec NumberedPath). map listed_path_of v.items) l.tables.items l.table;
}
