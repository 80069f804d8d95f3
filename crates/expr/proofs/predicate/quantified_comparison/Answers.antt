use Rattle.std.proofs.Common.{Ok, map}
use Rattle.definitions.specs.Queries.Evaluation.{quantified}
use Rattle.definitions.specs.Queries.Telling.{MayAnswer}
use Rattle.sqlvalue.specs.Meaning.{op_of, value_of}
use Rattle.sqlvalue.specs.Owned.{owned_value}
use Rattle.sqlvalue.specs.Truths.{truth_of}
use Rattle.parse_tree.specs.Trees.{quantifier_of}
use Rattle.expr.proofs.Telling.{on_two_ok}
use Rattle.expr.proofs.predicate.quantified_comparison.Goals as goal

pub returns-in-All : goal.returns-in-All
returns-in-All c m n p q =
    let left : MayAnswer m (Ok (value_of c.in-Ok-Ok.value)) = rw c.in-Ok-Ok.is-0 at p in
    let right : MayAnswer n (Ok (map owned_value c.in-Ok-Ok.values.now)) = rw c.in-Ok-Ok.is-1 at q in
    on_two_ok (quantified (quantifier_of c.args.quantifier) (op_of c.args.op)) m n (value_of c.in-Ok-Ok.value) (map owned_value c.in-Ok-Ok.values.now) (truth_of c.with_all.result) left right (rw c.in-All.is c.with_all.ensures)

pub returns-in-Any : goal.returns-in-Any
returns-in-Any c m n p q =
    let left : MayAnswer m (Ok (value_of c.in-Ok-Ok.value)) = rw c.in-Ok-Ok.is-0 at p in
    let right : MayAnswer n (Ok (map owned_value c.in-Ok-Ok.values.now)) = rw c.in-Ok-Ok.is-1 at q in
    on_two_ok (quantified (quantifier_of c.args.quantifier) (op_of c.args.op)) m n (value_of c.in-Ok-Ok.value) (map owned_value c.in-Ok-Ok.values.now) (truth_of c.with_any.result) left right (rw c.in-Any.is c.with_any.ensures)
