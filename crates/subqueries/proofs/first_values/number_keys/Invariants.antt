use Rattle.subqueries.proofs.NumberKeys.{Keyed}
use Rattle.subqueries.proofs.first_values.number_keys.Given as goal

-- each value so far has its key
abbrev pub invariant-values : goal.invariant-values
invariant-values l = Keyed l.scale l.values l.value-index l.keys.items
