use Rattle.std.proofs.Common.{◌≡◌, ◌∙◌, All, sym, ap, subst, map, length, arith}
use Rattle.std.proofs.lemmas.List.{length-map}
use Rattle.query_tree.specs.Bound.{column_of}
use Rattle.estimate.specs.PlanConjuncts.{conjunct_of}
use Rattle.interesting_orders.specs.Places.{given, AreBetween, AreStated}
use Rattle.interesting_orders.proofs.Stated.{all_between, stated_between, are_equations}
use Rattle.interesting_orders.proofs.equated.EquatedColumns.new.Goals as goal

pub returns : goal.returns
returns c = λ space e.
    let columns = map column_of c.in_ok-columns.columns.items in
    let es = c.in_ok-equations.equations.items in
    let has = rw (sym e) at c.in_ok-columns.ensures.whole in
    let stated : AreStated columns space.conjuncts es = rw (c.deref.ensures.value, sym e) at c.in_ok-equations.ensures in
    let given_is : c.in_ok-given.given.items ≡ given es = c.in_ok-given.ensures ∙ ap given c.deref-2.ensures.value in
    record { has = has; stated = stated; equations = rw given_is (are_equations space columns es has stated) }

pub invariant_of-result : goal.invariant_of-result
invariant_of-result c =
    let columns = c.in_ok-columns.columns.items in
    let es = c.in_ok-equations.equations.items in
    let stated : AreStated (map column_of columns) (map conjunct_of c.args.conjuncts.now) es = rw c.deref.ensures.value at c.in_ok-equations.ensures in
    let between : All (AreBetween (length columns)) es = subst (λ n. All (AreBetween n) es) (length-map columns column_of) (stated_between (map column_of columns) (map conjunct_of c.args.conjuncts.now) es stated) in
    let given_is : c.in_ok-given.given.items ≡ given es = c.in_ok-given.ensures ∙ ap given c.deref-2.ensures.value in
    record {
      few = omega (arith, c.in_ok-columns.ensures.few, c.requires);
      distinct = c.in_ok-columns.ensures.distinct;
      between = between;
      within = rw given_is (all_between (length columns) es between);
    }
