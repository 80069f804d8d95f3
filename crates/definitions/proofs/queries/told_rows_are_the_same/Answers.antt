use Rattle.definitions.proofs.QueryTheory.Lemmas as q
use Rattle.definitions.proofs.queries.told_rows_are_the_same.Goals as goal

pub returns : goal.returns
returns c m keys rows rows' h l = q.told_rows_are_the_same m keys rows rows' h l
