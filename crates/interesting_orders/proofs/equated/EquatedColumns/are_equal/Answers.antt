use Rattle.std.proofs.Common.{◌≡◌, refl, subst}
use Rattle.definitions.specs.Plans.ColumnClass.{SameClass, itself}
use Rattle.query_tree.specs.Bound.{column_of}
use Rattle.interesting_orders.specs.Equated.{columns_of}
use Rattle.interesting_orders.proofs.Serving.{apart_left, apart_right}
use Rattle.interesting_orders.proofs.equated.EquatedColumns.are_equal.Goals as goal

pub returns-then-are_equal : goal.returns-then-are_equal
returns-then-are_equal c = λ space tables e classes.
    ((λ h. subst (λ x. SameClass space tables (column_of c.args.a) x) (c.are_equal.ensures.0 c.if-are_equal.true) (itself (column_of c.args.a))), λ h. refl)

pub returns-in_default : goal.returns-in_default
returns-in_default c = λ space tables e classes.
    let differ : column_of c.args.a ≡ column_of c.args.b → ⊥ = λ same. let yes = c.are_equal.ensures.1 same in absurd cc in
    let not_there = rw c.deref-2.ensures.value at c.in_default.ensures' in
    ((λ h. absurd cc), λ same. absurd (apart_right space tables (columns_of c.args.self.now) e.has (column_of c.args.a) (column_of c.args.b) differ not_there same))

pub returns-in_default-2 : goal.returns-in_default-2
returns-in_default-2 c = λ space tables e classes.
    let differ : column_of c.args.a ≡ column_of c.args.b → ⊥ = λ same. let yes = c.are_equal.ensures.1 same in absurd cc in
    let not_there = rw (c.deref.ensures.value, c.in_default.is-0) at c.place_of.ensures in
    ((λ h. absurd cc), λ same. absurd (apart_left space tables (columns_of c.args.self.now) e.has (column_of c.args.a) (column_of c.args.b) differ not_there same))
