use Rattle.std.proofs.Common.{◌∙◌, ◌≤◌, sym, ap, subst, length, map, rules}
use Rattle.std.proofs.lemmas.List.{length-map}
use Rattle.definitions.specs.Limits.{most_conjuncts}
use Rattle.definitions.specs.Estimates.PlanConjuncts.{plan_conjunct}
use Rattle.estimate.specs.PlanConjuncts.{condition_of_conjunct}
use Rattle.estimate.specs.Tables.{tables_of, AreTablesOf}
use Rattle.query_tree.specs.Bound.{block_of}
use Rattle.estimate.proofs.estimate.Estimate.new.Goals as goal

pub invariant_of-result : goal.invariant_of-result
invariant_of-result c =
    let (blocks, around, n, formed) = c.requires.formed in
    record {
      tables = c.in_ok-tables.ensures.exact;
      count = c.in_ok-tables.ensures.count;
      few = formed.count;
      sizes = search rules;
      measured = search rules;
      planned = c.in_ok-conjuncts.ensures.exact c.args.database.now (block_of c.args.block.now) (subst (λ xs. AreTablesOf c.args.database.now (block_of c.args.block.now) (tables_of xs)) (sym c.deref-2.ensures.value) c.in_ok-tables.ensures.exact) ∙ ap (map (plan_conjunct c.args.database.now (block_of c.args.block.now))) c.requires.conjuncts;
      conditions = c.in_ok-conjuncts.ensures.conditions ∙ c.requires.conjuncts;
      counted = subst (λ n. n ≤ most_conjuncts) (ap length (sym (c.in_ok-conjuncts.ensures.conditions ∙ c.requires.conjuncts)) ∙ length-map c.in_ok-conjuncts.conjuncts.items condition_of_conjunct) formed.conjuncts;
    }
