use Rattle.std.proofs.Common.{◌∙◌, ap, ℕ, List}
use Rattle.definitions.specs.Estimates.Version.{current_version}
use Rattle.definitions.specs.Certificates.File.{earlier, version_among}
use Rattle.certificate_files.proofs.FirstLines.{first_of}
use Rattle.certificate_files.proofs.cutting.version_in.Goals as goal

pub returns : goal.returns
returns c = c.version_named.ensures ∙ ap (λ (l : List ℕ). version_among (earlier current_version) current_version l) (first_of c.args.bytes.now c.line_end.result c.line_end.ensures.line)
