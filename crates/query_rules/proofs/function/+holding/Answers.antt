use Rattle.std.proofs.Common.{◌∙◌, refl, sym, ap, inl, inr, map}
use Rattle.definitions.specs.Grammar.{member_list, operands}
use Rattle.definitions.specs.Binding.Parts.{member_parts, operand_parts, parts}
use Rattle.parse_tree.specs.Trees.{expr_of, member_of, operand_of}
use Rattle.parse_tree.proofs.Views.{of_column, of_numeral, of_string, of_signed, of_not, of_compare, of_compare_all, of_is_null, of_like, of_in_query, of_exists, of_scalar, of_count_rows, of_function, of_in_list, of_line}
use Rattle.query_rules.proofs.FunctionScan.{in_first, in_rest, members_left}
use Rattle.query_rules.proofs.function.+holding.Goals as goal

pub holds_function-returns-else-holds_function-5 :
    goal.holds_function-returns-else-holds_function-5
holds_function-returns-else-holds_function-5 t c =
    let tree = ap expr_of c.in-InList.is ∙ of_in_list c.in-InList.start c.in-InList.negated c.in-InList.value c.in-InList.members in
    rw tree (members_left c.in-InList.negated (expr_of c.in-InList.value.value) (member_list (map member_of c.in-InList.members.items)) _ (sym c.if-holds_function-5.false ∙ (rw c.deref-in-InList.ensures at c.holds_function-in-InList.ensures)) (rw c.deref-else-holds_function-5.ensures.value at c.some_member_holds_function.ensures))

pub holds_function-returns-in-CountRows : goal.holds_function-returns-in-CountRows
holds_function-returns-in-CountRows t c =
    elim c.in-CountRows.is [ inl w ↦ rw (ap expr_of w.1 ∙ of_count_rows w.0) refl | inr w ↦ rw (ap expr_of w.4 ∙ of_function w.0 w.1 w.2 w.3) refl ]

pub holds_function-returns-in-Column : goal.holds_function-returns-in-Column
holds_function-returns-in-Column t c =
    elim c.in-Column.is [ inl w ↦ rw (ap expr_of w.1 ∙ of_column w.0) refl | inr w ↦ elim w [ inl w ↦ rw (ap expr_of w.1 ∙ of_numeral w.0) refl | inr w ↦ elim w [ inl w ↦ rw (ap expr_of w.1 ∙ of_string w.0) refl | inr w ↦ elim w [ inl w ↦ rw (ap expr_of w.2 ∙ of_exists w.0 w.1) refl | inr w ↦ rw (ap expr_of w.2 ∙ of_scalar w.0 w.1) refl ] ] ] ]

pub holds_function-returns-in-Signed : goal.holds_function-returns-in-Signed
holds_function-returns-in-Signed t c =
    let inner = rw c.deref-in-Signed.ensures at c.holds_function-in-Signed.ensures in
    elim c.in-Signed.is [ inl w ↦ rw (ap expr_of w.2 ∙ of_signed w.0 w.1 c.in-Signed.operand) inner | inr w ↦ rw (ap expr_of w.1 ∙ of_not w.0 c.in-Signed.operand) inner ]

pub holds_function-returns-in-IsNull : goal.holds_function-returns-in-IsNull
holds_function-returns-in-IsNull t c =
    let inner = rw c.deref-in-IsNull.ensures at c.holds_function-in-IsNull.ensures in
    elim c.in-IsNull.is [ inl w ↦ rw (ap expr_of w.2 ∙ of_is_null w.0 w.1 c.in-IsNull.value) inner | inr w ↦ elim w [ inl w ↦ rw (ap expr_of w.3 ∙ of_like w.0 w.1 c.in-IsNull.value w.2) inner | inr w ↦ rw (ap expr_of w.3 ∙ of_in_query w.0 w.1 c.in-IsNull.value w.2) inner ] ]

pub holds_function-returns-in-CompareAll : goal.holds_function-returns-in-CompareAll
holds_function-returns-in-CompareAll t c =
    let tree = ap expr_of c.in-CompareAll.is ∙ of_compare_all c.in-CompareAll.start c.in-CompareAll.op c.in-CompareAll.quantifier c.in-CompareAll.left c.in-CompareAll.query in
    rw tree (rw c.deref-in-CompareAll.ensures at c.holds_function-in-CompareAll.ensures)

pub holds_function-returns-then-holds_function : goal.holds_function-returns-then-holds_function
holds_function-returns-then-holds_function t c =
    let tree = ap expr_of c.in-Line.is ∙ of_line c.in-Line.first c.in-Line.others in
    rw tree (in_first (parts (expr_of c.in-Line.first.value)) (operand_parts (operands (map operand_of c.in-Line.others.items))) _ c.if-holds_function.true (rw c.deref.ensures at c.holds_function.ensures))

pub holds_function-returns-else-holds_function : goal.holds_function-returns-else-holds_function
holds_function-returns-else-holds_function t c =
    let tree = ap expr_of c.in-Line.is ∙ of_line c.in-Line.first c.in-Line.others in
    rw tree (in_rest (parts (expr_of c.in-Line.first.value)) (operand_parts (operands (map operand_of c.in-Line.others.items))) _ _ c.if-holds_function.false (rw c.deref.ensures at c.holds_function.ensures) (rw c.deref-else-holds_function.ensures.value at c.some_operand_holds_function.ensures))

pub holds_function-returns-then-holds_function-2 : goal.holds_function-returns-then-holds_function-2
holds_function-returns-then-holds_function-2 t c =
    let tree = ap expr_of c.in-Compare.is ∙ of_compare c.in-Compare.start c.in-Compare.op c.in-Compare.left c.in-Compare.right in
    rw tree (in_first (parts (expr_of c.in-Compare.left.value)) (parts (expr_of c.in-Compare.right.value)) _ c.if-holds_function-2.true (rw c.deref-in-Compare.ensures at c.holds_function-in-Compare.ensures))

pub holds_function-returns-else-holds_function-2 : goal.holds_function-returns-else-holds_function-2
holds_function-returns-else-holds_function-2 t c =
    let tree = ap expr_of c.in-Compare.is ∙ of_compare c.in-Compare.start c.in-Compare.op c.in-Compare.left c.in-Compare.right in
    rw tree (in_rest (parts (expr_of c.in-Compare.left.value)) (parts (expr_of c.in-Compare.right.value)) _ _ c.if-holds_function-2.false (rw c.deref-in-Compare.ensures at c.holds_function-in-Compare.ensures) (rw c.deref-else-holds_function-2.ensures at c.holds_function-else-holds_function-2.ensures))

pub holds_function-returns-then-holds_function-5 : goal.holds_function-returns-then-holds_function-5
holds_function-returns-then-holds_function-5 t c =
    let tree = ap expr_of c.in-InList.is ∙ of_in_list c.in-InList.start c.in-InList.negated c.in-InList.value c.in-InList.members in
    rw tree (in_first (parts (expr_of c.in-InList.value.value)) (member_parts (member_list (map member_of c.in-InList.members.items))) _ c.if-holds_function-5.true (rw c.deref-in-InList.ensures at c.holds_function-in-InList.ensures))
