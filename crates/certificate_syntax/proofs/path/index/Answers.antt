use Rattle.plan_tree.specs.Versions.{version_of}
use Rattle.certificate_syntax.specs.Said.{path_said}
use Rattle.certificate_syntax.specs.Reading.{PathIn}
use Rattle.certificate_syntax.proofs.Sequences.{at_exit, both, first, first_refused, second, then_only, then_refused}
use Rattle.certificate_syntax.proofs.Paths.{index_tells}
use Rattle.certificate_syntax.proofs.path.index.Goals as goal

pub returns-in_err-table : goal.returns-in_err-table
returns-in_err-table c =
    at_exit path_said (PathIn (version_of c.args.version) c.args.text.now) c.from_residual.result c.in_err-table.field-0.0 c.from_residual.ensures.1
    (first _ _ _ _ (index_tells (version_of c.args.version) c.args.text.now c.requires) _ c.in_err-table.ensures)

pub returns-in_err-index : goal.returns-in_err-index
returns-in_err-index c =
    at_exit path_said (PathIn (version_of c.args.version) c.args.text.now) c.from_residual-in_err-index.result c.in_err-index.field-0.0 c.from_residual-in_err-index.ensures.1
    (second _ _ _ _ (index_tells (version_of c.args.version) c.args.text.now c.requires) c.in_ok-table.table c.in_ok-table.text.now c.in_ok-table.ensures _ (first_refused _ _ _ c.in_err-index.ensures))

pub returns-in_err-backward : goal.returns-in_err-backward
returns-in_err-backward c =
    at_exit path_said (PathIn (version_of c.args.version) c.args.text.now) c.from_residual-in_err-backward.result c.in_err-backward.field-0.0 c.from_residual-in_err-backward.ensures.1
    (second _ _ _ _ (index_tells (version_of c.args.version) c.args.text.now c.requires) c.in_ok-table.table c.in_ok-table.text.now c.in_ok-table.ensures _ (then_refused _ _ c.in_ok-index.index c.in_ok-index.text.now _ c.in_ok-index.ensures c.in_err-backward.ensures))

pub returns : goal.returns
returns c =
    both _ _ _ _ (index_tells (version_of c.args.version) c.args.text.now c.requires) c.in_ok-table.table c.in_ok-table.text.now c.in_ok-table.ensures (c.in_ok-index.index, c.in_ok-backward.backward) c.in_ok-backward.text.now
    (then_only _ _ c.in_ok-index.index c.in_ok-index.text.now c.in_ok-backward.backward c.in_ok-backward.text.now c.in_ok-index.ensures c.in_ok-backward.ensures)
