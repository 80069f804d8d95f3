use Rattle.std.proofs.Common.{map, drop}
use Rattle.definitions.specs.Table.{AreDistinct}
use Rattle.catalog.proofs.naming.second_twin.Given as goal

-- the names are distinct where those that are left are
abbrev pub invariant-loop-i : goal.invariant-loop-i
invariant-loop-i g l = record {
  down : AreDistinct (map g.T.Named.named l.items) → AreDistinct (map g.T.Named.named (drop l.i l.items));
  up : AreDistinct (map g.T.Named.named (drop l.i l.items)) → AreDistinct (map g.T.Named.named l.items);
}
