use Rattle.plan_space.specs.InterestingOrders.Sorts.{AreSorts}
use Rattle.plan_space.specs.Planned.{space_in}
use Rattle.plan_tree.specs.Certificates.{state_of, certificate_of}
use Rattle.plan_tree.specs.Sets.{set_of}
use Rattle.cert_check.proofs.SortRule.{SortBy}
use Rattle.cert_check.proofs.Handing.{Handed}
use Rattle.cert_check.proofs.sorts.compare_sorts_from.Given as goal

abbrev pub invariant-orders : goal.invariant-orders
invariant-orders g l = Handed g.L.Listener.hears (SortBy (space_in l.space) (certificate_of l.certificate) (state_of l.from)) (AreSorts (space_in l.space) (set_of l.from.tables)) l.fn.listener l.into-iterator l.listener
