use Rattle.definitions.proofs.QueryTheory.Lemmas as q
use Rattle.definitions.proofs.queries.blocks_mean_by_those_behind.Goals as goal

pub returns-clause-block : goal.returns-clause-block
returns-clause-block c db blocks k b outer h = q.blocks_mean_by_those_behind db blocks k b outer h

pub returns-clause-behind : goal.returns-clause-behind
returns-clause-behind c db blocks k j h = q.blocks_behind_mean_the_same db blocks k j h
