use Rattle.definitions.proofs.BindingTheory.AcceptedQueries as b
use Rattle.definitions.proofs.queries.accepted_queries_are_formed.Goals as goal

pub returns-clause-formed : goal.returns-clause-formed
returns-clause-formed c = b.accepted_queries_are_formed

pub returns-clause-each : goal.returns-clause-each
returns-clause-each c = b.each_block_is_formed

pub returns-clause-few : goal.returns-clause-few
returns-clause-few c = b.few_blocks
