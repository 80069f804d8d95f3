use Rattle.interesting_orders.specs.Labels.{merged}
use Rattle.interesting_orders.proofs.Passing.{Changed}
use Rattle.interesting_orders.proofs.labels.relabel.Given as goal

abbrev pub invariant-places : goal.invariant-places
invariant-places l = Changed (λ place. merged l.from l.to) l.initial.labels l.labels l.i
