use Rattle.std.proofs.Common.{◌∙◌, refl, ap}
use Rattle.columns.specs.Starts.{value_in}
use Rattle.sqlvalue.specs.Meaning.{type_of}
use Rattle.query_tree.specs.Bound.{column_of, item_of, value_of}
use Rattle.query_tree.proofs.Views.{of_column}
use Rattle.result_lines.specs.Batches.{rows_in}
use Rattle.result_lines.specs.RowAt.{items_of}
use Rattle.result_lines.proofs.UnitLines.{only_item, only_values}
use Rattle.result_lines.proofs.column_rows.only_numbers.Goals as goal

pub returns : goal.returns
returns g c =
    let batch = c.args.batch.now in
    let envs = g.B.RowBatch.environments batch in
    let column = column_of c.in-Column.column in
    let item = c.item-item.result in
    let numbers = c.in_ok-numbers.numbers.now in
    let means = ap value_of c.in-Column.is ∙ of_column c.in-Column.column c.in-Column.sql_type in
    only_values (item_of item) column (type_of c.in-Column.sql_type) envs (value_in numbers) (g.B.RowBatch.value_in batch column) c.rows.result.now means c.in_ok-numbers.ensures (c.rows.ensures.values column refl)
    ∙ ap (λ items. rows_in (items_of items) envs) (only_item c.args.items.now item c.in-len1.len_at_least c.in-len1.len_below c.item-item.is)
