use Rattle.expr.proofs.row_truths.compared_member_rows.Goals as goal

pub returns-in-Some : goal.returns-in-Some
returns-in-Some g c = rw c.in-Some.is c.comparison_rows.ensures
