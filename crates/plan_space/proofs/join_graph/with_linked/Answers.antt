use Rattle.std.proofs.Common.{◌≡◌, ◌∙◌, sym, subst, true, false}
use Rattle.plan_tree.specs.Sets.{set_of}
use Rattle.plan_space.specs.Linked.{AreLinked}
use Rattle.plan_tree.proofs.Tests.{has_not, lacks_it}
use Rattle.plan_space.proofs.Linked.{one_linked, not_linked}
use Rattle.plan_space.proofs.join_graph.with_linked.Goals as goal
use Rattle.plan_space.proofs.join_graph.with_linked.Goals.{else-not-has-via-then-not-has+else-is_linked, else-not-has-via-else-not-has}

pub returns-then-is_linked : goal.returns-then-is_linked
returns-then-is_linked c = λ space e before.
    let set = set_of c.args.set in
    let lacks = lacks_it set c.args.table (sym c.has.ensures ∙ c.if-not-has.true) in
    let links = (c.is_linked.ensures space e).0 c.if-is_linked.true in
    subst (AreLinked space _ set) (sym c.with.ensures) (one_linked space set (set_of c.args.linked) c.args.table before lacks links)

pub returns-else-not-has : goal.returns-else-not-has
returns-else-not-has c = λ space e before.
    let set = set_of c.args.set in
    elim c.else-not-has.branch [
      | else-not-has-via-then-not-has+else-is_linked w ↦ (
          not_linked space set (set_of c.args.linked) c.args.table before
          (λ lacks links. let no : false ≡ true = sym w.if-is_linked.false ∙ (w.is_linked.ensures space e).1 links in absurd cc))
      | else-not-has-via-else-not-has w ↦ (
          not_linked space set (set_of c.args.linked) c.args.table before
          (λ lacks links. absurd (has_not set c.args.table (sym c.has.ensures ∙ w.if-not-has.false) lacks)))
    ]
