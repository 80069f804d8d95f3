use Rattle.definitions.proofs.CertificateTheory.Writing.{spelled_is_written, written_is_spelled, has_one_spelling}
use Rattle.definitions.proofs.certificates.spelling_is_writing.Goals as goal

pub returns-clause-written : goal.returns-clause-written
returns-clause-written c = spelled_is_written

pub returns-clause-spelled : goal.returns-clause-spelled
returns-clause-spelled c = written_is_spelled

pub returns-clause-one : goal.returns-clause-one
returns-clause-one c = has_one_spelling
