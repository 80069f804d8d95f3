use Rattle.definitions.proofs.CertificateTheory.Faults.{spelled_or_faulty, faultless, one_fault}
use Rattle.definitions.proofs.CertificateTheory.Files.{broken_has_no_form}
use Rattle.definitions.proofs.certificates.faults_are_exact.Goals as goal

pub returns-clause-some : goal.returns-clause-some
returns-clause-some c = spelled_or_faulty

pub returns-clause-none : goal.returns-clause-none
returns-clause-none c = faultless

pub returns-clause-one : goal.returns-clause-one
returns-clause-one c = one_fault

pub returns-clause-broken : goal.returns-clause-broken
returns-clause-broken c = broken_has_no_form
