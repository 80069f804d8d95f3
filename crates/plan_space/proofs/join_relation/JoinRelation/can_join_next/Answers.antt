use Rattle.std.proofs.Common.{◌∙◌, refl, sym, subst, Option, arith}
use Rattle.std.proofs.lemmas.Bool.Decides.{Decides-at, Decides-eqb, Decides-like}
use Rattle.definitions.specs.Plans.TableSet.{no_tables}
use Rattle.plan_tree.specs.Sets.{set_of}
use Rattle.plan_tree.specs.declared.table_set.TableSet as code
use Rattle.plan_tree.proofs.Tests.{has_it, lacks_it}
use Rattle.plan_space.specs.Relation.{LinksSay}
use Rattle.plan_space.proofs.Following.{free_follows, linked_follows, product_follows, product_last}
use Rattle.plan_space.proofs.join_relation.JoinRelation.can_join_next.Goals as goal

pub returns-then-has : goal.returns-then-has
returns-then-has c = λ space is below.
    let has = has_it (set_of c.args.self.now.tables) c.args.table (sym c.has.ensures ∙ c.if-has.true) in
    ((λ h. absurd cc), λ may. absurd (omega (arith, has, may.1)))

pub returns-then-has-2 : goal.returns-then-has-2
returns-then-has-2 c = λ space is below.
    let r = c.args.self.now in
    let set = set_of r.tables in
    let lacks = lacks_it set c.args.table (sym c.has.ensures ∙ c.if-has.false) in
    let says = subst (λ (linked : Option code.TableSet). LinksSay space set linked) c.in-Some.is is.linked in
    let linked = has_it (set_of c.in-Some.linked) c.args.table (sym c.has-in-Some.ensures ∙ c.if-has-2.true) in
    ((λ h. linked_follows space space.table_count set (set_of c.in-Some.linked) c.args.table refl below lacks says.1 linked), λ may. c.if-has-2.true)

pub returns-else-has-2 : goal.returns-else-has-2
returns-else-has-2 c = λ space is below.
    let r = c.args.self.now in
    let set = set_of r.tables in
    let lacks = lacks_it set c.args.table (sym c.has.ensures ∙ c.if-has.false) in
    let says = subst (λ (linked : Option code.TableSet). LinksSay space set linked) c.in-Some.is is.linked in
    let not_linked = lacks_it (set_of c.in-Some.linked) c.args.table (sym c.has-in-Some.ensures ∙ c.if-has-2.false) in
    Decides-like c.is_empty.result
    (product_follows space space.table_count set (set_of c.in-Some.linked) c.args.table refl below lacks says.1)
    (product_last space space.table_count set (set_of c.in-Some.linked) c.args.table refl below lacks says.1 says.0 not_linked)
    (Decides-at c.is_empty.result _ c.is_empty.ensures (Decides-eqb (set_of c.in-Some.linked) no_tables))

pub returns-in-None : goal.returns-in-None
returns-in-None c = λ space is below.
    let r = c.args.self.now in
    let lacks = lacks_it (set_of r.tables) c.args.table (sym c.has.ensures ∙ c.if-has.false) in
    let free = subst (λ (linked : Option code.TableSet). LinksSay space (set_of r.tables) linked) c.in-None.is is.linked in
    ((λ h. free_follows space (set_of r.tables) c.args.table below lacks free), λ may. refl)
