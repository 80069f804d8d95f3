use Rattle.std.proofs.Common.{Option, subst, map, arith}
use Rattle.std.proofs.lemmas.List.{length-map}
use Rattle.definitions.specs.Plans.Conjunct.{Conjunct}
use Rattle.query_tree.specs.Bound.{column_of}
use Rattle.interesting_orders.specs.declared.equivalence_classes.Equality.{Equality}
use Rattle.estimate.specs.PlanConjuncts.{conjunct_of}
use Rattle.interesting_orders.specs.Places.{sides_of, IsEquation}
use Rattle.interesting_orders.proofs.Each.{one_more, all_of_them, mapped_at}
use Rattle.interesting_orders.proofs.places.equations_of.Goals as goal

pub conjuncts-preserved : goal.conjuncts-preserved
conjuncts-preserved c =
    let columns = map column_of c.args.columns.now in
    let conjuncts = c.args.conjuncts.now in
    let here = c.conjunct-item.result in
    let says = subst (λ s. IsEquation columns s c.equation_of.result) c.sides.ensures c.equation_of.ensures in
    rw c.in_ok-push.ensures.items (one_more (λ (x : Conjunct) (e : Option Equality). IsEquation columns (sides_of x) e) (map conjunct_of conjuncts) c.conjuncts.equations.items c.conjuncts.conjunct-index
    (conjunct_of here) c.equation_of.result c.conjuncts.invariant (mapped_at conjunct_of conjuncts c.conjuncts.conjunct-index here c.conjuncts-test.true c.conjunct-item.is) says)

pub returns : goal.returns
returns c =
    all_of_them (λ (x : Conjunct) (e : Option Equality). IsEquation (map column_of c.args.columns.now) (sides_of x) e) (map conjunct_of c.args.conjuncts.now) c.conjuncts.equations.items c.conjuncts.conjunct-index
    (omega (arith, c.conjuncts-test.false, c.conjuncts.auto.conjunct-index-end, length-map c.args.conjuncts.now conjunct_of)) c.conjuncts.invariant
