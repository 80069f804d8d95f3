use Rattle.std.proofs.Common.{sym}
use Rattle.sqlvalue.specs.Meaning.{op_of, value_of}
use Rattle.subqueries.specs.FirstValues.{values_in}
use Rattle.subqueries.proofs.OrderedValues.{is_false, is_unknown}
use Rattle.subqueries.proofs.first_values.FirstValues.with_any.Goals as goal

pub returns-then-has : goal.returns-then-has
returns-then-has c = sym (c.has.ensures.0 c.if-has.true)

pub returns-then-are_comparable : goal.returns-then-are_comparable
returns-then-are_comparable c =
    is_false (value_of c.args.value.now) (op_of c.args.op) (values_in c.args.self.now) (λ there. let yes = c.has.ensures.1 there in absurd cc) (c.are_comparable.ensures.0 c.if-are_comparable.true)

pub returns-else-are_comparable : goal.returns-else-are_comparable
returns-else-are_comparable c =
    is_unknown (value_of c.args.value.now) (op_of c.args.op) (values_in c.args.self.now) (λ there. let yes = c.has.ensures.1 there in absurd cc) (λ all. let yes = c.are_comparable.ensures.1 all in absurd cc)
