use Rattle.definitions.proofs.CertificateTheory.Verdicts.{lines_are_file, cut_loses_nothing}
use Rattle.definitions.proofs.CertificateTheory.Files.{text_cut_off}
use Rattle.definitions.proofs.certificates.file_is_cut.Goals as goal

pub returns-clause-lines : goal.returns-clause-lines
returns-clause-lines c = lines_are_file

pub returns-clause-texts : goal.returns-clause-texts
returns-clause-texts c = cut_loses_nothing

pub returns-clause-front : goal.returns-clause-front
returns-clause-front c = text_cut_off
