use Rattle.std.specs.Prelude.{option_map}
use Rattle.definitions.specs.Plans.Space.{Space}
use Rattle.definitions.specs.Plans.TableSet.{TableSet}
use Rattle.plan_tree.specs.Sets.{set_of}
use Rattle.interesting_orders.specs.Equated.{column_in, columns_of, AreClassesOf, AreEquated}
use Rattle.interesting_orders.specs.Reach.{AreThose}
use Rattle.interesting_orders.proofs.Opening.{IsOpenedBefore}
use Rattle.interesting_orders.proofs.equated.EquatedColumns.partners.Given as goal

abbrev pub invariant-equations : goal.invariant-equations
invariant-equations l = (space : Space) (tables : TableSet) → AreEquated space l.self → AreClassesOf space tables l.self l.classes
    → AreThose (IsOpenedBefore space tables (columns_of l.self) (column_in l.self l.lead) l.self.equations.items l.equation-index) (option_map set_of l.partners)
