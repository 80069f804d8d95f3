use Rattle.std.proofs.Common.{◌∙◌, subst, ap}
use Rattle.std.specs.Prelude.{IsPermutation}
use Rattle.std.proofs.lemmas.Result.{IfOk-weaker}
use Rattle.definitions.specs.Printing.{table_text}
use Rattle.result_lines.specs.Rows.{rows_of}
use Rattle.result_rows.proofs.ordered_rows.OrderedRows.end.Goals as goal

pub returns : goal.returns
returns c =
    let ordered = rows_of c.order_rows.new.rows.items in
    IfOk-weaker c.print_rows.result _ _ (λ text told names rows shapes h has. (
      ordered,
      record {
        same = subst (λ rs. IsPermutation rs ordered) (h.kept shapes has) c.in_ok-order_rows.ensures.same;
        sorted = c.in_ok-order_rows.ensures.sorted;
      },
      told names h.header ∙ ap (λ rs. table_text names (rows_of rs)) c.deref.ensures.value,
    )) c.print_rows.ensures
