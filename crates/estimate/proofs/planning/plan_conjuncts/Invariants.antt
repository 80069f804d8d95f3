use Rattle.std.proofs.Common.{◌≡◌, ◌++◌, drop, map}
use Rattle.definitions.specs.Table.{Database}
use Rattle.definitions.specs.Queries.BoundBlock.{Block}
use Rattle.definitions.specs.Estimates.PlanConjuncts.{plan_conjunct}
use Rattle.predicates.specs.Parts.{condition_in}
use Rattle.predicates.specs.declared.conjunct.Conjunct.{Conjunct}
use Rattle.estimate.specs.Tables.{tables_of, AreTablesOf}
use Rattle.estimate.specs.PlanConjuncts.{condition_of_conjunct, conjunct_of}
use Rattle.estimate.proofs.planning.plan_conjuncts.Given as goal

abbrev pub invariant-conjuncts : goal.invariant-conjuncts
invariant-conjuncts l = record {
  conditions : map condition_of_conjunct l.planned.items ++ map condition_in (drop l.conjunct-index l.conjuncts) ≡ map condition_in l.conjuncts;
  exact : (db : Database) (block : Block) → AreTablesOf db block (tables_of l.tables)
      → map conjunct_of l.planned.items ++ map (λ (c : Conjunct). plan_conjunct db block (condition_in c)) (drop l.conjunct-index l.conjuncts) ≡ map (λ (c : Conjunct). plan_conjunct db block (condition_in c)) l.conjuncts;
}
