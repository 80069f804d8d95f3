use Rattle.definitions.proofs.QueryTheory.WorkedQueries.{guarded_division, no_rows, nulls_in_lists, padded_texts, large_numbers, long_sums, subqueries, joins_and_groups, further_rules, further_texts}
use Rattle.definitions.proofs.examples.queries.Goals as goal

pub returns-clause-division : goal.returns-clause-division
returns-clause-division c = guarded_division

pub returns-clause-no_rows : goal.returns-clause-no_rows
returns-clause-no_rows c = no_rows

pub returns-clause-nulls : goal.returns-clause-nulls
returns-clause-nulls c = nulls_in_lists

pub returns-clause-padded : goal.returns-clause-padded
returns-clause-padded c = padded_texts

pub returns-clause-large : goal.returns-clause-large
returns-clause-large c = large_numbers

pub returns-clause-sums : goal.returns-clause-sums
returns-clause-sums c = long_sums

pub returns-clause-subqueries : goal.returns-clause-subqueries
returns-clause-subqueries c = subqueries

pub returns-clause-groups : goal.returns-clause-groups
returns-clause-groups c = joins_and_groups

pub returns-clause-rules : goal.returns-clause-rules
returns-clause-rules c = further_rules

pub returns-clause-printed : goal.returns-clause-printed
returns-clause-printed c = further_texts
