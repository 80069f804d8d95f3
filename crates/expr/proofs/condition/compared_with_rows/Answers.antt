use Rattle.std.proofs.Common.{Ok}
use Rattle.definitions.specs.Queries.Evaluation.{column_values, on_one, quantified}
use Rattle.definitions.specs.Queries.Telling.{MayAnswer}
use Rattle.sqlvalue.specs.Meaning.{op_of, value_of}
use Rattle.sqlvalue.specs.Truths.{truth_of}
use Rattle.parse_tree.specs.Trees.{quantifier_of}
use Rattle.expr.proofs.Telling.{on_two_found}
use Rattle.expr.proofs.condition.compared_with_rows.Goals as goal

pub returns-in-Some : goal.returns-in-Some
returns-in-Some g c m p =
    let n = on_one column_values ((g.S.Environment.environment c.args.env.now).inner c.args.block) in
    let left : MayAnswer m (Ok (value_of c.in-Ok.value)) = rw c.in-Ok.is at p in
    on_two_found (quantified (quantifier_of c.args.quantifier) (op_of c.args.op)) m n (value_of c.in-Ok.value) (truth_of c.in-Some.truth) left c.in-Some.ensures

pub returns : goal.returns
returns g c m p = c.quantified_comparison-2.ensures m (on_one column_values ((g.S.Environment.environment c.args.env.now).inner c.args.block)) p c.first_values.ensures
