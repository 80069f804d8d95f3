use Rattle.std.proofs.Common.{◌∙◌, sym}
use Rattle.certificate_files.proofs.Checked.{refused_by_rest}
use Rattle.certificate_files.proofs.checking.with_rest.Goals as goal

pub returns-else-is_empty : goal.returns-else-is_empty
returns-else-is_empty c = refused_by_rest c.args.ended c.args.left.now (sym c.is_empty.ensures ∙ c.if-is_empty.false)
