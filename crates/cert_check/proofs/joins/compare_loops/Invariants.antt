use Rattle.plan_space.specs.Loop.{AreLoops}
use Rattle.plan_space.specs.Planned.{space_in}
use Rattle.plan_tree.specs.Certificates.{state_of}
use Rattle.plan_tree.specs.Sets.{set_of}
use Rattle.cert_check.proofs.JoinRule.{LoopBy}
use Rattle.cert_check.proofs.Handing.{Handed}
use Rattle.cert_check.proofs.joins.compare_loops.Given as goal

abbrev pub invariant-loops : goal.invariant-loops
invariant-loops g l = Handed g.L.Listener.hears (LoopBy (space_in l.space) (state_of l.from) l.table (set_of l.to.tables) l.to.order l.bound) (AreLoops (space_in l.space) (set_of l.from.tables) l.table) l.fn.listener l.item-iterator l.listener
