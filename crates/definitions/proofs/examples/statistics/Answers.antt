use Rattle.definitions.proofs.TableExamples.{statistics_of_tables, statistics_of_indexes, sizes_of_rows}
use Rattle.definitions.proofs.examples.statistics.Goals as goal

pub returns-clause-tables : goal.returns-clause-tables
returns-clause-tables c = statistics_of_tables

pub returns-clause-indexes : goal.returns-clause-indexes
returns-clause-indexes c = statistics_of_indexes

pub returns-clause-sizes : goal.returns-clause-sizes
returns-clause-sizes c = sizes_of_rows
