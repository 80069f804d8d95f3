-- The operands of a line, one after another.
use Rattle.std.proofs.Common.{◌≡◌, ◌∙◌, sym, ap, ℕ, ◌+◌, ◌<◌, List, ◌∷◌, length, map, drop, get_or}
use Rattle.std.proofs.lemmas.List.{drop_more}
use Rattle.definitions.specs.Queries.BoundBlock as spec
use Rattle.query_tree.specs.Bound.{OperandTree, operand_of, operands, operator_of, value_of}
use Rattle.query_tree.specs.declared.value.Operand.{Operand}
use Rattle.query_tree.proofs.Views.{of_operand}

pub item_next : (items : List Operand) (i : ℕ) (x : Operand) → i < length items → x ≡ get_or items i x → operands (map operand_of (drop i items)) ≡ spec.Operand (operator_of x.operator) (value_of x.value) (operands (map operand_of (drop (i + 1) items)))
item_next items i x h e =
    let here : drop i items ≡ x ∷ drop (i + 1) items = drop_more items i x h ∙ ap (λ y. y ∷ drop (i + 1) items) (sym e) in
    ap (λ xs. operands (map operand_of xs)) here ∙ ap (λ (y : OperandTree). spec.Operand y.0 y.1 (operands (map operand_of (drop (i + 1) items)))) (of_operand x)
