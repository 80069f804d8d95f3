use Rattle.std.proofs.Common.{◌≡◌, ◌≢◌, ◌∙◌, sym}
use Rattle.definitions.specs.Plans.Order.{BlockColumn}
use Rattle.definitions.specs.Plans.PlanSpace.{IsMergeConjunct}
use Rattle.interesting_orders.specs.Equated.{column_in, columns_of}
use Rattle.interesting_orders.proofs.Merging.{no_equation_no_merge, equates, equates_turned, inside_one_table, brings_right, brings_left, brings_none}
use Rattle.interesting_orders.proofs.equated.EquatedColumns.sides.Goals as goal

pub returns-in_err-equation-clause-exact : goal.returns-in_err-equation-clause-exact
returns-in_err-equation-clause-exact c = λ space e.
    let none = sym c.equation.ensures.exact ∙ c.in_err-equation.was in
    let not_merged : (x y : BlockColumn) → IsMergeConjunct space c.args.conjunct x y → y.table ≡ c.args.table → ⊥ =
    λ x y merge at. no_equation_no_merge space (columns_of c.args.self.now) c.args.self.now.equations.items e.has e.stated c.args.conjunct none x y merge in
    rw c.from_residual.ensures not_merged

pub returns-then-left-right-clause-exact : goal.returns-then-left-right-clause-exact
returns-then-left-right-clause-exact c = λ space e x y merge at.
    let is = sym c.equation.ensures.exact ∙ c.in_ok-equation.was in
    inside_one_table space (columns_of c.args.self.now) c.args.self.now.equations.items e.has e.stated c.args.conjunct c.in_ok-equation.equation is
    (sym c.table-left.ensures ∙ c.if-left-right.true ∙ c.table-right.ensures) x y merge

pub returns-then-right-table-clause-exact : goal.returns-then-right-table-clause-exact
returns-then-right-table-clause-exact c = λ space e.
    let is = sym c.equation.ensures.exact ∙ c.in_ok-equation.was in
    let columns = columns_of c.args.self.now in
    let es = c.args.self.now.equations.items in
    let eq = c.in_ok-equation.equation in
    let differ : (column_in c.args.self.now eq.left).table ≢ (column_in c.args.self.now eq.right).table = λ same. c.if-left-right.false (c.table-left.ensures ∙ same ∙ sym c.table-right.ensures) in
    let here = sym c.table-right.ensures ∙ c.if-right-table.true in (
      (equates space columns es e.has e.stated c.args.conjunct eq is, differ),
      here,
      λ x y merge at. brings_right space columns es e.has e.stated c.args.conjunct eq is differ x y merge (at ∙ sym here),
    )

pub returns-then-left-table-clause-exact : goal.returns-then-left-table-clause-exact
returns-then-left-table-clause-exact c = λ space e.
    let is = sym c.equation.ensures.exact ∙ c.in_ok-equation.was in
    let columns = columns_of c.args.self.now in
    let es = c.args.self.now.equations.items in
    let eq = c.in_ok-equation.equation in
    let differ : (column_in c.args.self.now eq.left).table ≢ (column_in c.args.self.now eq.right).table = λ same. c.if-left-right.false (c.table-left.ensures ∙ same ∙ sym c.table-right.ensures) in
    let here = sym c.table-left.ensures ∙ c.if-left-table.true in (
      (equates_turned space columns es e.has e.stated c.args.conjunct eq is, λ same. differ (sym same)),
      here,
      λ x y merge at. brings_left space columns es e.has e.stated c.args.conjunct eq is differ x y merge (at ∙ sym here),
    )

pub returns-else-left-table-clause-exact : goal.returns-else-left-table-clause-exact
returns-else-left-table-clause-exact c = λ space e.
    let is = sym c.equation.ensures.exact ∙ c.in_ok-equation.was in
    brings_none space (columns_of c.args.self.now) c.args.self.now.equations.items e.has e.stated c.args.conjunct c.in_ok-equation.equation is c.args.table
    (λ same. c.if-left-table.false (c.table-left.ensures ∙ same)) (λ same. c.if-right-table.false (c.table-right.ensures ∙ same))
