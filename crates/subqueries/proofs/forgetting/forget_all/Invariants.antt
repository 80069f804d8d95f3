use Rattle.subqueries.specs.Keeping.{AreLeftOut}
use Rattle.subqueries.proofs.forgetting.forget_all.Given as goal

-- only the latest is left of those so far
abbrev pub invariant-blocks-2 : goal.invariant-blocks-2
invariant-blocks-2 l = AreLeftOut l.fn.results l.results
