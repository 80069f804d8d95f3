use Rattle.std.proofs.Common.{drop}
use Rattle.std.specs.Prelude.{◌↔◌}
use Rattle.definitions.specs.Plans.ColumnClass.{Satisfies}
use Rattle.definitions.specs.Plans.Space.{Space}
use Rattle.definitions.specs.Plans.TableSet.{TableSet}
use Rattle.plan_tree.specs.Plans.{order_of}
use Rattle.interesting_orders.specs.Equated.{AreClassesOf, AreEquated}
use Rattle.interesting_orders.proofs.equated.EquatedColumns.satisfies.Given as goal

abbrev pub invariant-keys : goal.invariant-keys
invariant-keys l = (space : Space) (tables : TableSet) → AreEquated space l.self → AreClassesOf space tables l.self l.classes
    → Satisfies space tables (order_of (drop l.place l.order)) (order_of (drop l.place l.wanted)) ↔ Satisfies space tables (order_of l.order) (order_of l.wanted)
