use Rattle.std.proofs.Common.{◌≡◌, drop}
use Rattle.definitions.specs.Estimates.PathCost.{shares}
use Rattle.query_tree.specs.Bound.{block_of}
use Rattle.access_paths.proofs.scans.shares.Given as goal

abbrev pub invariant-conjuncts : goal.invariant-conjuncts
invariant-conjuncts l =
    shares l.estimate.database (block_of l.estimate.block) (drop l.conjunct-index l.conjuncts) l.left ≡ shares l.estimate.database (block_of l.estimate.block) l.conjuncts l.pages
