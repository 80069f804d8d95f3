use Rattle.std.proofs.Common.{◌≡◌, ◌∙◌, ◌≤◌, map, length, refl, sym, true, false, arith}
use Rattle.plan_tree.specs.Sets.{set_of}
use Rattle.estimate.specs.PlanConjuncts.{conjunct_of}
use Rattle.plan_space.proofs.Linking.{none_at_first, none_at_last, none_more, links_here}
use Rattle.plan_space.proofs.join_graph.is_linked.Goals as goal

pub conjuncts-init : goal.conjuncts-init
conjuncts-init c = none_at_first (map conjunct_of c.args.conjuncts.now) (set_of c.args.set) c.args.table

pub returns-then-links : goal.returns-then-links
returns-then-links c = λ space e. (
  λ yes. links_here c.args.conjuncts.now (set_of c.args.set) c.args.table c.conjuncts.conjunct-index c.conjunct-item.result c.conjuncts-test.true c.conjunct-item.is
      space e (c.links.ensures.0 c.if-links.true),
  λ links. refl,
)

pub conjuncts-preserved : goal.conjuncts-preserved
conjuncts-preserved c =
    none_more c.args.conjuncts.now (set_of c.args.set) c.args.table c.conjuncts.conjunct-index c.conjunct-item.result c.conjuncts-test.true c.conjunct-item.is
    c.conjuncts.invariant (λ links. let no : false ≡ true = sym c.if-links.false ∙ c.links.ensures.1 links in absurd cc)

pub returns : goal.returns
returns c = λ space e.
    let conjuncts = c.args.conjuncts.now in
    let all : length conjuncts ≤ c.conjuncts.conjunct-index = omega (arith, c.conjuncts-test.false) in
    (λ no. absurd cc, λ links. absurd (none_at_last conjuncts (set_of c.args.set) c.args.table c.conjuncts.conjunct-index space e all c.conjuncts.invariant links))
