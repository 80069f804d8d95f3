use Rattle.std.proofs.Common.{ap, subst}
use Rattle.definitions.specs.IndexRun.{IsRun}
use Rattle.indexes.specs.Runs.{Index}
use Rattle.indexes.proofs.Carried.{once_of_none}
use Rattle.indexes.proofs.unique.UniqueIndex.new.Goals as goal

pub invariant_of-result : goal.invariant_of-result
invariant_of-result c = λ keys run. once_of_none keys (subst (IsRun keys) (ap (λ (i : Index). i.entries) c.new.ensures) run)
