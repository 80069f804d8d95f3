use Rattle.std.proofs.Common.{◌∙◌, drop}
use Rattle.std.proofs.lemmas.List.{drop_all}
use Rattle.definitions.specs.Estimates.PlanConjuncts.{plan_conjunct}
use Rattle.predicates.specs.Parts.{condition_in}
use Rattle.predicates.specs.declared.conjunct.Conjunct.{Conjunct}
use Rattle.estimate.specs.PlanConjuncts.{conjunct_of}
use Rattle.estimate.proofs.Places.{all_mapped, twice_mapped}
use Rattle.estimate.proofs.planning.plan_conjuncts.Goals as goal

pub returns-clause-exact : goal.returns-clause-exact
returns-clause-exact c = λ db block are.
    let conjuncts = c.args.conjuncts.now in
    let none = drop_all c.conjuncts.conjunct-index conjuncts c.conjuncts-test.false in
    let planned = all_mapped conjunct_of (λ (p : Conjunct). plan_conjunct db block (condition_in p)) c.conjuncts.planned.items (drop c.conjuncts.conjunct-index conjuncts) conjuncts none (c.conjuncts.invariant.exact db block are) in
    planned ∙ twice_mapped (plan_conjunct db block) condition_in conjuncts
