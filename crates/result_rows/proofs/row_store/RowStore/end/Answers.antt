use Rattle.std.proofs.Common.{refl}
use Rattle.std.proofs.lemmas.Result.{IfOk-weaker}
use Rattle.definitions.specs.Lists.{without_repeats}
use Rattle.definitions.specs.Queries.Grouping.{same_values}
use Rattle.result_rows.proofs.row_store.RowStore.end.Goals as goal

pub returns-in-Distinct : goal.returns-in-Distinct
returns-in-Distinct c = rw c.in-Distinct.is (IfOk-weaker c.end-in-Distinct.result _ _ (λ text told names rows shapes h has. (without_repeats same_values rows, refl, told names rows shapes (rw c.into_inner-in-Distinct.ensures h) has)) c.end-in-Distinct.ensures)
