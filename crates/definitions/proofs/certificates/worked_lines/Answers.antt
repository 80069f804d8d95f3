use Rattle.definitions.proofs.CertificateTheory.Examples.{rest_refused, space_named, rules_named, nothing_refused}
use Rattle.definitions.proofs.certificates.worked_lines.Goals as goal

pub returns-clause-rest : goal.returns-clause-rest
returns-clause-rest c = rest_refused

pub returns-clause-space : goal.returns-clause-space
returns-clause-space c = space_named

pub returns-clause-rules : goal.returns-clause-rules
returns-clause-rules c = rules_named

pub returns-clause-nothing : goal.returns-clause-nothing
returns-clause-nothing c = nothing_refused
