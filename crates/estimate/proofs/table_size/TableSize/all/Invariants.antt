use Rattle.std.proofs.Common.{◌≡◌, ◌++◌, drop, map}
use Rattle.estimate.specs.Sizes.{size_in, sizes_of}
use Rattle.estimate.proofs.table_size.TableSize.all.Given as goal

abbrev pub invariant-tables : goal.invariant-tables
invariant-tables l = map size_in l.sizes.items ++ sizes_of (drop l.table-index l.tables) ≡ sizes_of l.tables
