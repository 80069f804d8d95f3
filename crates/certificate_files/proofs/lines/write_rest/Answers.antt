use Rattle.std.proofs.Common.{◌∙◌, sym, rules}
use Rattle.certificate_files.proofs.Checked.{rest_is_told}
use Rattle.certificate_files.proofs.lines.write_rest.Goals as goal

pub returns : goal.returns
returns c = rw (rest_is_told c.args.left.now (sym c.is_empty.ensures ∙ c.if-is_empty.false)) (search rules)
