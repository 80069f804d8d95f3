use Rattle.std.proofs.Common.{◌∙◌, sym}
use Rattle.plan_tree.specs.Sets.{set_of}
use Rattle.plan_space.specs.Inside.{planned}
use Rattle.plan_space.proofs.Facts.{cardinality_is}
use Rattle.plan_space.proofs.space.Space.cardinality.Goals as goal

pub returns-clause-exact : goal.returns-clause-exact
returns-clause-exact c = rw (← c.self.view_is) (c.cardinality.ensures.exact ∙ sym (cardinality_is (planned c.self.inside) (set_of c.args.tables)))
