use Rattle.std.proofs.Common.{sym}
use Rattle.certificate_files.proofs.FirstLines.{line_at, line_to_end}
use Rattle.certificate_files.proofs.cutting.line_end.Goals as goal

pub returns-in-Some-clause-line : goal.returns-in-Some-clause-line
returns-in-Some-clause-line c = λ some. line_at c.args.bytes.now c.in-Some.place (sym c.in-Some.ensures)

pub returns-in-None-clause-line : goal.returns-in-None-clause-line
returns-in-None-clause-line c = λ some. line_to_end c.args.bytes.now (sym c.in-None.ensures) some
