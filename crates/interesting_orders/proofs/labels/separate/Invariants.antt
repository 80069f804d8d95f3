use Rattle.interesting_orders.proofs.Passing.{Changed}
use Rattle.interesting_orders.proofs.labels.separate.Given as goal

abbrev pub invariant-places : goal.invariant-places
invariant-places l = Changed (λ place label. place) l.initial.labels l.labels l.i
