use Rattle.plan_tree.specs.Versions.{version_of}
use Rattle.certificate_syntax.specs.Said.{path_said}
use Rattle.certificate_syntax.specs.Reading.{PathIn}
use Rattle.certificate_syntax.proofs.Sequences.{only_told, refused_told, at_exit}
use Rattle.certificate_syntax.proofs.Paths.{segment_tells}
use Rattle.certificate_syntax.proofs.path.segment.Goals as goal

pub returns-in_err-table : goal.returns-in_err-table
returns-in_err-table c =
    at_exit path_said (PathIn (version_of c.args.version) c.args.text.now) c.from_residual.result c.in_err-table.field-0.0 c.from_residual.ensures.1
    (refused_told _ _ _ (segment_tells (version_of c.args.version) c.args.text.now c.requires) _ c.in_err-table.ensures)

pub returns : goal.returns
returns c = only_told _ _ _ (segment_tells (version_of c.args.version) c.args.text.now c.requires) c.in_ok-table.table c.in_ok-table.text.now c.in_ok-table.ensures
