use Rattle.plan_space.specs.Merge.{AreMerges}
use Rattle.plan_space.specs.Planned.{space_in}
use Rattle.plan_tree.specs.Certificates.{state_of}
use Rattle.plan_tree.specs.Sets.{set_of}
use Rattle.cert_check.proofs.JoinRule.{MergeBy}
use Rattle.cert_check.proofs.Handing.{Handed}
use Rattle.cert_check.proofs.joins.compare_merges.Given as goal

abbrev pub invariant-merges : goal.invariant-merges
invariant-merges g l = Handed g.L.Listener.hears (MergeBy (space_in l.space) (state_of l.from) l.table (set_of l.to.tables) l.to.order l.bound) (AreMerges (space_in l.space) (set_of l.from.tables) l.table) l.fn.listener l.item-iterator l.listener
