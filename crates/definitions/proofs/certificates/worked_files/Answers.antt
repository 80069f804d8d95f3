use Rattle.definitions.proofs.CertificateTheory.Examples.{files_cut, versions}
use Rattle.definitions.proofs.certificates.worked_files.Goals as goal

pub returns-clause-cut : goal.returns-clause-cut
returns-clause-cut c = files_cut

pub returns-clause-versions : goal.returns-clause-versions
returns-clause-versions c = versions
