use Rattle.definitions.proofs.CertificateTheory.Examples.{one_table_spelled, column_named, two_tables_spelled, ordered_spelled, loop_spelled, later_paths, other_plans, product_spelled}
use Rattle.definitions.proofs.certificates.worked_texts.Goals as goal

pub returns-clause-one_table : goal.returns-clause-one_table
returns-clause-one_table c = one_table_spelled

pub returns-clause-column : goal.returns-clause-column
returns-clause-column c = column_named

pub returns-clause-two_tables : goal.returns-clause-two_tables
returns-clause-two_tables c = two_tables_spelled

pub returns-clause-ordered : goal.returns-clause-ordered
returns-clause-ordered c = ordered_spelled

pub returns-clause-matched : goal.returns-clause-matched
returns-clause-matched c = loop_spelled

pub returns-clause-later : goal.returns-clause-later
returns-clause-later c = later_paths

pub returns-clause-product : goal.returns-clause-product
returns-clause-product c = product_spelled

pub returns-clause-other_plans : goal.returns-clause-other_plans
returns-clause-other_plans c = other_plans
