use Rattle.definitions.proofs.QueryTheory.SubqueryRows as q
use Rattle.definitions.proofs.queries.subqueries_stand_in_any_order.Goals as goal

pub returns : goal.returns
returns c env inner h = q.subqueries_stand_in_any_order env inner h
