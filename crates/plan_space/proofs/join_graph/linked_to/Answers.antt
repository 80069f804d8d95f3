use Rattle.std.proofs.Common.{◌≡◌, subst, arith}
use Rattle.plan_tree.specs.Sets.{set_of}
use Rattle.plan_space.specs.Linked.{AreLinked}
use Rattle.plan_space.proofs.join_graph.linked_to.Goals as goal

pub tables-preserved : goal.tables-preserved
tables-preserved c = λ space e. c.with_linked-linked.ensures space e (c.tables.invariant space e)

pub returns : goal.returns
returns c = λ space e.
    let all : c.tables.table ≡ c.args.tables = omega arith in
    subst (λ count. AreLinked space count (set_of c.args.set) (set_of c.tables.linked)) all (c.tables.invariant space e)
