use Rattle.std.proofs.Common.{◌≡◌, map, drop}
use Rattle.std.specs.Prelude.{bytes_eq}
use Rattle.std.specs.List.{list_any}
use Rattle.catalog.proofs.naming.has_name.Given as goal

-- the items that are left answer as all do
abbrev pub invariant-loop-item : goal.invariant-loop-item
invariant-loop-item g l = list_any (bytes_eq l.name) (map g.T.Named.named (drop l.item-index l.items)) ≡ list_any (bytes_eq l.name) (map g.T.Named.named l.items)
