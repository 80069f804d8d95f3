use Rattle.definitions.proofs.QueryTheory.Lemmas as q
use Rattle.definitions.proofs.queries.kept_has_passed.Goals as goal

pub returns-clause-passed : goal.returns-clause-passed
returns-clause-passed c context b test = q.kept_has_passed context b test

pub returns-clause-all : goal.returns-clause-all
returns-clause-all c context b h = q.all_that_passes_is_kept context b h
