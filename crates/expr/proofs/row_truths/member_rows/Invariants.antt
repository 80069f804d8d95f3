use Rattle.std.proofs.Common.{drop}
use Rattle.sqlvalue.specs.Meaning.{op_of}
use Rattle.query_tree.specs.Bound.{value_of as tree_of}
use Rattle.expr.proofs.RowTruths.{Joined, of_list, with_member}
use Rattle.expr.proofs.row_truths.member_rows.Given as goal

-- those so far, with the members from one on, are of all
abbrev pub invariant-loop-member : goal.invariant-loop-member
invariant-loop-member g l =
    Joined l.negated (of_list l.negated (with_member (g.S.ManyRows.environment l.rows) (op_of l.op) (tree_of l.value)) l.members) (of_list l.negated (with_member (g.S.ManyRows.environment l.rows) (op_of l.op) (tree_of l.value)) (drop l.member-index l.others)) l.first l.count l.word
