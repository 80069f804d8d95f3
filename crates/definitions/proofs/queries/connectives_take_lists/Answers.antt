use Rattle.definitions.proofs.QueryTheory.Lemmas as q
use Rattle.definitions.proofs.queries.connectives_take_lists.Goals as goal

pub returns-clause-grouping : goal.returns-clause-grouping
returns-clause-grouping c ts us = q.grouping_says_nothing ts us

pub returns-clause-order : goal.returns-clause-order
returns-clause-order c ts us h = q.order_says_nothing ts us h
