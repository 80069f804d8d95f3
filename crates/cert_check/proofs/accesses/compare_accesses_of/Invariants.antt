use Rattle.definitions.specs.Plans.TableSet.{no_tables}
use Rattle.plan_space.specs.Item.{AreItems}
use Rattle.plan_space.specs.Planned.{space_in}
use Rattle.plan_tree.specs.Certificates.{certificate_of}
use Rattle.cert_check.proofs.AccessRule.{AccessBy}
use Rattle.cert_check.proofs.Handing.{Handed}
use Rattle.cert_check.proofs.accesses.compare_accesses_of.Given as goal

abbrev pub invariant-paths : goal.invariant-paths
invariant-paths g l = Handed g.L.Listener.hears (AccessBy (space_in l.space) (certificate_of l.certificate) l.table) (AreItems (space_in l.space) no_tables l.table) l.fn.listener l.item-iterator l.listener
