use Rattle.std.proofs.Common.{◌≡◌, ◌∙◌, refl, ap}
use Rattle.definitions.specs.Printing.{row_line}
use Rattle.definitions_answers.specs.Lines.{with_line}
use Rattle.result_lines.specs.Lines.{lines_of}
use Rattle.result_lines.specs.RowAt.{items_of, row_in}
use Rattle.result_rows.proofs.DistinctOnce.{row_added}
use Rattle.result_rows.proofs.distinct_rows.DistinctRows.add.Goals as goal

pub returns-clause-added : goal.returns-clause-added
returns-clause-added g c names rows h =
    let row = row_in (g.S.Environment.environment c.args.env.now) (items_of c.args.items.now) in
    let own : c.write_row.new.out.items ≡ row_line row = rw c.clear.ensures.items at c.in_ok-write_row.ensures.text in
    row_added names rows row c.args.self.now (record c.args.self.now { lines = c.add.new.self; line = c.write_row.new.out }) h c.in_ok-write_row.ensures.bounded refl refl refl (c.in_ok-add.ensures.lines ∙ ap (with_line (lines_of c.args.self.now.lines)) own)
