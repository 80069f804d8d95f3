use Rattle.std.proofs.Common.{◌≡◌, ◌∙◌, refl, ap, ◌++◌, List, get_or}
use Rattle.std.proofs.lemmas.List.{get_or_default}
use Rattle.definitions_answers.specs.Parameters as p
use Rattle.definitions_answers.specs.Parameters.{lowered, one_lowered}
use Rattle.query_tree.specs.Bound.{column_of}
use Rattle.subqueries.specs.OuterColumns.{outer_columns_of}
use Rattle.subqueries.specs.declared.parameters.OuterColumn.{OuterColumn}
use Rattle.subqueries.proofs.AllParameters.{lowered_none, lowered_push}
use Rattle.subqueries.proofs.Appending.{one_appended}
use Rattle.subqueries.proofs.parameters.push_lowered.Goals as goal
use Rattle.subqueries.proofs.parameters.push_lowered.Goals.{then-outer-gt0+in_ok-push, else-outer-gt0}

none : OuterColumn
none = record { between = 0; column = record { table = 0; number = 0 } }

pub columns-preserved : goal.columns-preserved
unfolding none
columns-preserved c =
    let xs = c.args.inner.now in
    let i = c.columns.outer-index in
    let x = get_or xs i none in
    let before = c.columns.columns.items in
    let own : List p.OuterColumn = one_lowered x.between (column_of x.column) in
    let pushed : outer_columns_of c.if-outer-gt0.columns.items ≡ outer_columns_of before ++ own = elim c.if-outer-gt0.branch [
      | then-outer-gt0+in_ok-push w ↦ ap (λ v. outer_columns_of v.items) w.columns-is ∙ ap outer_columns_of w.in_ok-push.ensures.items ∙ lowered_push before x w.if-outer-gt0.true
      | else-outer-gt0 w ↦ ap (λ v. outer_columns_of v.items) w.columns-is ∙ lowered_none (outer_columns_of before) x w.if-outer-gt0.false
    ] in
    one_appended (λ columns. lowered (outer_columns_of columns)) (outer_columns_of before) _ xs i (outer_columns_of c.if-outer-gt0.columns.items) own x c.columns-test.true (get_or_default xs i none x c.columns-test.true) refl pushed c.columns.invariant
