use Rattle.definitions.proofs.PlanTheory.Bounds.{least}
use Rattle.definitions.proofs.CertificateTheory.Verdicts.{told_once}
use Rattle.definitions.proofs.certificates.told_is_one.Goals as goal

pub returns-clause-once : goal.returns-clause-once
returns-clause-once c = told_once

pub returns-clause-least : goal.returns-clause-least
returns-clause-least c block bytes (plan, certificate, spells, valid) = (plan, certificate, spells, least block.space plan certificate valid)
