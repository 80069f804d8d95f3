use Rattle.definitions.proofs.CertificateTheory.Faults.{says_once, spells_once, spelled_certificate}
use Rattle.definitions.proofs.certificates.spelling_is_one.Goals as goal

pub returns-clause-says : goal.returns-clause-says
returns-clause-says c = says_once

pub returns-clause-spells : goal.returns-clause-spells
returns-clause-spells c = spells_once

pub returns-clause-certificate : goal.returns-clause-certificate
returns-clause-certificate c = spelled_certificate
