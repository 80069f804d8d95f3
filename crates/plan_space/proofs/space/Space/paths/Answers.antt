use Rattle.std.proofs.Common.{sym, subst}
use Rattle.definitions.specs.Plans.Space.{Space}
use Rattle.plan_tree.specs.Sets.{set_of}
use Rattle.plan_tree.specs.Versions.{version_of}
use Rattle.plan_space.specs.Item.{AreItems}
use Rattle.plan_space.specs.Inside.{planned}
use Rattle.plan_space.proofs.Facts.{is_space}
use Rattle.plan_space.proofs.space.Space.paths.Goals as goal

pub returns : goal.returns
returns c =
    let s = c.self.inside in
    rw (← c.self.view_is) (subst (λ (space : Space). AreItems space (set_of c.args.known) c.args.table c.paths.result) (sym (is_space (planned s))) (c.paths.ensures (version_of s.version) c.self.invariant.paths))
