use Rattle.std.specs.Prelude.{option_map}
use Rattle.plan_tree.specs.Sets.{set_of}
use Rattle.interesting_orders.specs.Equated.{column_in, columns_of}
use Rattle.interesting_orders.proofs.Opening.{all_opened, next_opened, nothing_opened}
use Rattle.interesting_orders.proofs.equated.EquatedColumns.partners.Goals as goal
use Rattle.interesting_orders.proofs.equated.EquatedColumns.partners.Goals.{in-Some, in_default}

pub equations-preserved : goal.equations-preserved
equations-preserved c = λ space tables e classes. elim c.match-equation.branch [
  | in-Some w ↦ rw w.partners-is (next_opened space tables (column_in c.args.self.now c.args.lead) (columns_of c.args.self.now) c.args.self.now.equations.items c.equations.equation-index w.in-Some.equation
      (rw c.deref-equation-items.ensures.value at w.in-Some.is) (option_map set_of c.equations.partners) (option_map set_of w.with_side-partners.result) (option_map set_of w.with_side-partners-in-Some.result)
      (c.equations.invariant space tables e classes) (w.with_side-partners.ensures space tables classes) (w.with_side-partners-in-Some.ensures space tables classes))
  | in_default w ↦ rw w.partners-is (nothing_opened space tables (column_in c.args.self.now c.args.lead) (columns_of c.args.self.now) c.args.self.now.equations.items c.equations.equation-index
      (rw c.deref-equation-items.ensures.value at w.in_default.is) (option_map set_of c.equations.partners) (c.equations.invariant space tables e classes))
]

pub returns : goal.returns
returns c = λ space tables e classes.
    all_opened space tables (column_in c.args.self.now c.args.lead) (columns_of c.args.self.now) c.args.self.now.equations.items e.has e.stated c.equations.equation-index (option_map set_of c.equations.partners)
    (rw c.deref-equation-items.ensures.value at c.equations-test.false) (c.equations.invariant space tables e classes)
