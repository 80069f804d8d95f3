use Rattle.std.proofs.Common.{◌∙◌, ap}
use Rattle.definitions.specs.Truth.{opposite}
use Rattle.sqlvalue.specs.Meaning.{op_of, value_of}
use Rattle.subqueries.specs.FirstValues.{values_in}
use Rattle.subqueries.proofs.Negating.{all_by_any}
use Rattle.subqueries.proofs.first_values.FirstValues.quantified_comparison.Goals as goal

pub returns-in-All : goal.returns-in-All
returns-in-All c =
    rw c.in-All.is
    (c.not.ensures ∙ ap opposite c.with_any.ensures
    ∙ all_by_any (op_of c.args.op) (op_of c.negated.result) (value_of c.args.value.now) (values_in c.args.self.now) c.negated.ensures)
