use Rattle.std.proofs.Common.{◌+◌, ℕ}
use Rattle.definitions.specs.Truth.{Truth, compared}
use Rattle.definitions.specs.Queries.BoundBlock as spec
use Rattle.definitions.specs.Queries.Evaluation as meaning
use Rattle.sqlvalue.specs.Meaning.{op_of}
use Rattle.query_tree.specs.Bound.{value_of as tree_of}
use Rattle.expr.specs.Vectors.{value_at}
use Rattle.expr.proofs.Places.{compared_told}
use Rattle.expr.proofs.RowTruths.{some_places}
use Rattle.expr.proofs.vectors.compared_rows.Goals as goal

pub returns : goal.returns
returns g c =
    let on = g.S.ManyRows.environment c.args.rows.now in
    let first = c.args.first in
    let a = value_at c.in_ok-m.m c.write_values.new.units in
    let b = value_at c.in_ok-n.n c.write_values-2.new.units in
    let op = op_of c.args.op in
    let left = tree_of c.args.left.now in
    let right = tree_of c.args.right.now in
    let truth : ℕ → Truth = λ place. compared op (a place) (b place) in
    some_places c.met_rows.result (λ row. meaning.truth (on row) (spec.Compare op left right)) truth first c.args.count
    (λ k less. compared_told op (meaning.value (on (first + k)) left) (meaning.value (on (first + k)) right) (a k) (b k) (c.in_ok-m.ensures k less) (c.in_ok-n.ensures k less))
    c.met_rows.ensures
