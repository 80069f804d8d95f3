use Rattle.plan_tree.specs.Versions.{version_of}
use Rattle.std.proofs.Common.{sym}
use Rattle.certificate_syntax.specs.Said.{said_of}
use Rattle.certificate_syntax.proofs.Lines.{all_said, more_behind, none_said}
use Rattle.certificate_syntax.proofs.text.whole.Goals as goal

pub returns-in_err-written : goal.returns-in_err-written
returns-in_err-written c = none_said (version_of c.args.version) c.args.bytes.now c.from_residual.result c.in_err-written.field-0.0 c.from_residual.ensures.1 c.in_err-written.ensures

pub returns-then-is_empty : goal.returns-then-is_empty
returns-then-is_empty c = all_said (version_of c.args.version) c.args.bytes.now (said_of c.in_ok-written.written) c.in_ok-written.rest.now c.in_ok-written.ensures (sym c.if-is_empty.ensures)

pub returns-else-is_empty : goal.returns-else-is_empty
returns-else-is_empty c =
    more_behind (version_of c.args.version) c.args.bytes.now (said_of c.in_ok-written.written) c.in_ok-written.rest.now c.in_ok-written.ensures (sym c.if-is_empty.ensures)
    c.stop_before.result _ _ c.stop_before.ensures
