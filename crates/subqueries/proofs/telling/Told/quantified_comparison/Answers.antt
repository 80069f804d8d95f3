use Rattle.std.proofs.Common.{ap}
use Rattle.definitions.specs.Queries.Evaluation.{quantified}
use Rattle.sqlvalue.specs.Meaning.{op_of, value_of}
use Rattle.sqlvalue.specs.Truths.{truth_of}
use Rattle.parse_tree.specs.Trees.{quantifier_of}
use Rattle.subqueries.specs.FirstValues.{values_in}
use Rattle.subqueries.specs.Telling.{told_in}
use Rattle.subqueries.proofs.ToldValues.{compared_told}
use Rattle.subqueries.proofs.telling.Told.quantified_comparison.Goals as goal

pub returns-in-Values-clause-truth : goal.returns-in-Values-clause-truth
returns-in-Values-clause-truth c =
    compared_told (told_in c.args.self.now) (values_in c.in-Values.values) (quantified (quantifier_of c.args.quantifier) (op_of c.args.op) (value_of c.args.value.now)) (truth_of c.quantified_comparison.result)
    (ap told_in c.in-Values.is) c.quantified_comparison.ensures
