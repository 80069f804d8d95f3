use Rattle.std.proofs.Common.{◌∙◌, sym, subst, ℕ}
use Rattle.plan_tree.specs.Sets.{set_of}
use Rattle.plan_space.specs.Linked.{AreLinked}
use Rattle.plan_space.specs.Planned.{space_in}
use Rattle.plan_space.proofs.Facts.{conjuncts_are, frees_products}
use Rattle.plan_space.specs.Inside.{planned}
use Rattle.plan_space.proofs.space.Space.linked.Goals as goal

pub returns-then-has_free_products : goal.returns-then-has_free_products
returns-then-has_free_products c = rw (← c.self.view_is) (frees_products (planned c.self.inside) ∙ sym c.has_free_products.ensures ∙ c.if-has_free_products.true)

pub returns : goal.returns
returns c =
    let space = space_in (planned c.self.inside) in
    let linked = c.linked_to.ensures space (conjuncts_are (planned c.self.inside) ∙ sym c.conjuncts-conjuncts.ensures.exact) in
    rw (← c.self.view_is) (
      frees_products (planned c.self.inside) ∙ sym c.has_free_products.ensures ∙ c.if-has_free_products.false,
      subst (λ (n : ℕ). AreLinked space n (set_of c.args.tables) (set_of c.linked_to.result)) (c.table_count.ensures.exact ∙ sym c.self.invariant.count) linked,
    )
