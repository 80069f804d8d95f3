use Rattle.std.proofs.Common.{◌∙◌, ◌++◌, ap, ap₂, length}
use Rattle.std.specs.Prelude.{codes, decimal}
use Rattle.std.proofs.lemmas.List.{length-map}
use Rattle.definitions.specs.Printing.{line, row_line}
use Rattle.definitions.specs.Lists.{without_repeats}
use Rattle.definitions.specs.Queries.Grouping.{same_values}
use Rattle.result_lines.specs.Lines.{joined_lines}
use Rattle.result_rows.proofs.RowsOneByOne.{joined_rows}
use Rattle.result_rows.proofs.distinct_rows.DistinctRows.end.Goals as goal

pub returns : goal.returns
returns c names rows shapes h has =
    let printed = without_repeats same_values rows in
    let are = h.lines.each shapes has in
    c.in_ok-write_count.ensures
    ∙ ap₂ (λ text n. text ++ line (decimal n ++ codes " rows")) (c.in_ok-write.ensures ∙ ap₂ (λ a b. a ++ b) h.header (ap joined_lines are ∙ joined_rows printed))
    (c.len.ensures ∙ ap length are ∙ length-map printed row_line)
