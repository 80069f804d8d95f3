use Rattle.std.proofs.Common.{◌≡◌, ◌∙◌, sym, ap, map, drop, ◌+◌, Some}
use Rattle.std.specs.Prelude.{option_map}
use Rattle.std.proofs.lemmas.List.{drop_all}
use Rattle.definitions.specs.Queries.BoundBlock as spec
use Rattle.query_tree.specs.Bound.{operand_of, operands, operator_of, value_of as tree_of}
use Rattle.query_tree.proofs.Views.{of_chain, of_number}
use Rattle.expr.specs.Sizes.{size_of, safe_size, safe_joined}
use Rattle.expr.proofs.Items.{item_next}
use Rattle.expr.proofs.Sizes.{safe_line, chain_is_safe}
use Rattle.expr.proofs.raising.+safe_size.Goals as goal

pub returns-in-Number : goal.returns-in-Number
returns-in-Number t c =
    let tree = ap tree_of c.in-Number.is ∙ of_number c.in-Number.literal in
    rw tree (ap Some c.literal_size.ensures)

pub loop-operand-init : goal.loop-operand-init
loop-operand-init t c =
    let tree = ap tree_of c.in-Chain.is ∙ of_chain c.in-Chain.first c.in-Chain.others in
    let first = c.safe_size-size.ensures ∙ ap (λ e. safe_size (tree_of e)) c.deref-in-Chain.ensures in
    rw (tree, c.deref-operand-items.ensures.value)
    (ap (λ s. safe_line s (operands (map operand_of c.in-Chain.others.items))) first ∙ chain_is_safe (tree_of c.in-Chain.first.value) (operands (map operand_of c.in-Chain.others.items)))

pub loop-operand-preserved : goal.loop-operand-preserved
loop-operand-preserved t c =
    let x = c.operand-item.result in
    let rest = operands (map operand_of (drop (c.loop-operand.operand-index + 1) c.deref-operand-items.result.now)) in
    let now : safe_line (option_map size_of c.loop-operand.size) (spec.Operand (operator_of x.operator) (tree_of x.value) rest) ≡ safe_size (tree_of c.args.expr.now) = rw (item_next c.deref-operand-items.result.now c.loop-operand.operand-index x c.loop-operand-test.true c.operand-item.is) at c.loop-operand.invariant in
    ap (λ s. safe_line s rest) (c.joined_size-size.ensures ∙ ap (safe_joined (operator_of x.operator) (option_map size_of c.loop-operand.size)) c.safe_size-in-loop-operand.ensures) ∙ now

pub returns-after-loop-operand : goal.returns-after-loop-operand
returns-after-loop-operand t c =
    let none = ap (λ xs. safe_line (option_map size_of c.loop-operand.size) (operands (map operand_of xs))) (drop_all c.loop-operand.operand-index c.deref-operand-items.result.now c.loop-operand-test.false) in
    sym none ∙ c.loop-operand.invariant
