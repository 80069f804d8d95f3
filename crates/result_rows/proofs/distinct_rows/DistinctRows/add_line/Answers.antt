use Rattle.std.proofs.Common.{◌≡◌, ◌∙◌, ap}
use Rattle.definitions.specs.Printing.{row_line}
use Rattle.definitions_answers.specs.Lines.{with_line}
use Rattle.result_lines.specs.Lines.{lines_of}
use Rattle.result_lines.specs.RowAt.{items_of, row_in}
use Rattle.result_rows.proofs.distinct_rows.DistinctRows.add_line.Goals as goal

pub returns-clause-lines : goal.returns-clause-lines
returns-clause-lines g c env at' =
    let own : c.write_columns.new.out.items ≡ row_line (row_in env (items_of c.args.items.now)) = rw c.clear.ensures.items at (c.in_ok-write_columns.ensures.text env at') in
    c.in_ok-add.ensures.lines ∙ ap (with_line (lines_of c.args.self.now.lines)) own
