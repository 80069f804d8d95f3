use Rattle.std.proofs.Common.{rules, drop, ◌≡◌, ◌∙◌, ap, Some, ◌+◌, map}
use Rattle.definitions.specs.ValueType.{ValueType}
use Rattle.definitions.specs.Queries.BoundBlock as spec
use Rattle.definitions.specs.Queries.BoundTypes.{value_type}
use Rattle.definitions.specs.Queries.Laws.{FitsTypes}
use Rattle.query_tree.specs.Bound.{operand_of, operands, operator_of, value_of as tree_of}
use Rattle.query_tree.specs.declared.value.ValueExpr.{the_lemmas}
use Rattle.query_tree.proofs.Views.{of_chain}
use Rattle.definitions.specs.Queries.Evaluation.{value}
use Rattle.definitions.specs.Queries.Telling.{MayAnswer}
use Rattle.expr.specs.Answers.{answer_of}
use Rattle.expr.proofs.Items.{item_next}
use Rattle.expr.proofs.Chains.{left_typed, Reached, begin, next}
use Rattle.expr.proofs.evaluation.+evaluate.Goals as goal

pub evaluate-left-requires : goal.evaluate-left-requires
evaluate-left-requires g t c κs within =
    let tree = ap tree_of c.in-Chain.is ∙ of_chain c.in-Chain.first c.in-Chain.others in
    let all : FitsTypes (g.S.Environment.environment c.args.env.now) (spec.Chain (tree_of c.in-Chain.first.value) (operands (map operand_of c.in-Chain.others.items))) = rw tree at c.requires.fits in
    let fits : FitsTypes (g.S.Environment.environment c.args.env.now) (tree_of c.deref-in-Chain.result.now) = rw c.deref-in-Chain.ensures all.0 in
    let whole : (type : ValueType) × (value_type (spec.Chain (tree_of c.in-Chain.first.value) (operands (map operand_of c.in-Chain.others.items))) ≡ Some type) = rw tree at c.requires.typed in
    let first = left_typed (value_type (tree_of c.in-Chain.first.value)) (operands (map operand_of c.in-Chain.others.items)) whole.0 whole.1 in
    let typed : (type : ValueType) × (value_type (tree_of c.deref-in-Chain.result.now) ≡ Some type) = rw c.deref-in-Chain.ensures (first.type, first.is) in
    search (rules, the_lemmas, fits, typed)

pub loop-operand-init : goal.loop-operand-init
loop-operand-init g t c =
    let tree : tree_of c.args.expr.now ≡ spec.Chain (tree_of c.in-Chain.first.value) (operands (map operand_of c.in-Chain.others.items)) = ap tree_of c.in-Chain.is ∙ of_chain c.in-Chain.first c.in-Chain.others in
    let fits : FitsTypes (g.S.Environment.environment c.args.env.now) (spec.Chain (tree_of c.in-Chain.first.value) (operands (map operand_of c.in-Chain.others.items))) = rw tree at c.requires.fits in
    let whole : (type : ValueType) × (value_type (spec.Chain (tree_of c.in-Chain.first.value) (operands (map operand_of c.in-Chain.others.items))) ≡ Some type) = rw tree at c.requires.typed in
    let tells : MayAnswer (value (g.S.Environment.environment c.args.env.now) (tree_of c.in-Chain.first.value)) (answer_of c.evaluate-left.result) = rw c.deref-in-Chain.ensures at c.evaluate-left.ensures in
    let start = begin (g.S.Environment.environment c.args.env.now) (tree_of c.in-Chain.first.value) (operands (map operand_of c.in-Chain.others.items)) (answer_of c.evaluate-left.result) tells fits (record { type = whole.0; is = whole.1 }) in
    rw (tree, c.deref-operand-items.ensures.value) start

pub evaluate-requires-in-loop-operand : goal.evaluate-requires-in-loop-operand
evaluate-requires-in-loop-operand g t c κs within =
    let env = g.S.Environment.environment c.args.env.now in
    let x = c.operand-item.result in
    let rest = operands (map operand_of (drop (c.loop-operand.operand-index + 1) c.deref-operand-items.result.now)) in
    let r : Reached env (value env (tree_of c.args.expr.now)) (spec.Operand (operator_of x.operator) (tree_of x.value) rest) (answer_of c.loop-operand.left) = rw (item_next c.deref-operand-items.result.now c.loop-operand.operand-index x c.loop-operand-test.true c.operand-item.is) at c.loop-operand.invariant in
    let n = next env (value env (tree_of c.args.expr.now)) (operator_of x.operator) (tree_of x.value) rest (answer_of c.loop-operand.left) r in
    let fits : FitsTypes env (tree_of x.value) = n.fits in
    let typed : (type : ValueType) × (value_type (tree_of x.value) ≡ Some type) = (n.typed.type, n.typed.is) in
    search (rules, the_lemmas, fits, typed)

pub apply_operator-left-requires : goal.apply_operator-left-requires
apply_operator-left-requires g t c =
    let env = g.S.Environment.environment c.args.env.now in
    let x = c.operand-item.result in
    let rest = operands (map operand_of (drop (c.loop-operand.operand-index + 1) c.deref-operand-items.result.now)) in
    let r : Reached env (value env (tree_of c.args.expr.now)) (spec.Operand (operator_of x.operator) (tree_of x.value) rest) (answer_of c.loop-operand.left) = rw (item_next c.deref-operand-items.result.now c.loop-operand.operand-index x c.loop-operand-test.true c.operand-item.is) at c.loop-operand.invariant in
    let n = next env (value env (tree_of c.args.expr.now)) (operator_of x.operator) (tree_of x.value) rest (answer_of c.loop-operand.left) r in
    n.both (answer_of c.evaluate-in-loop-operand.result) c.evaluate-in-loop-operand.ensures

pub loop-operand-preserved : goal.loop-operand-preserved
loop-operand-preserved g t c =
    let env = g.S.Environment.environment c.args.env.now in
    let x = c.operand-item.result in
    let rest = operands (map operand_of (drop (c.loop-operand.operand-index + 1) c.deref-operand-items.result.now)) in
    let r : Reached env (value env (tree_of c.args.expr.now)) (spec.Operand (operator_of x.operator) (tree_of x.value) rest) (answer_of c.loop-operand.left) = rw (item_next c.deref-operand-items.result.now c.loop-operand.operand-index x c.loop-operand-test.true c.operand-item.is) at c.loop-operand.invariant in
    let n = next env (value env (tree_of c.args.expr.now)) (operator_of x.operator) (tree_of x.value) rest (answer_of c.loop-operand.left) r in
    n.reached (answer_of c.apply_operator-left.result) (c.apply_operator-left.ensures n.left (value env (tree_of x.value)) n.tells c.evaluate-in-loop-operand.ensures)
