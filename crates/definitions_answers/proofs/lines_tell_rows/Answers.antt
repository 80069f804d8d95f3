use Rattle.definitions_answers.proofs.LinesBack as b
use Rattle.definitions_answers.proofs.lines_tell_rows.Goals as goal

pub returns-clause-rows : goal.returns-clause-rows
returns-clause-rows c shapes r s has_r has_s e = b.equal_lines_are_equal_rows shapes r s has_r has_s e

pub returns-clause-lines : goal.returns-clause-lines
returns-clause-lines c shapes rows row all own = b.lines_one_by_one shapes rows row all own
