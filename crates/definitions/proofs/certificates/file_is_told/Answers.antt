use Rattle.definitions.proofs.CertificateTheory.Passing.{explained_passes}
use Rattle.definitions.proofs.CertificateTheory.Verdicts.{file_told_once, well_is_least}
use Rattle.definitions.proofs.certificates.file_is_told.Goals as goal

pub returns-clause-once : goal.returns-clause-once
returns-clause-once c = file_told_once

pub returns-clause-least : goal.returns-clause-least
returns-clause-least c = well_is_least

pub returns-clause-explained : goal.returns-clause-explained
returns-clause-explained c = explained_passes
