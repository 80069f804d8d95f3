use Rattle.std.proofs.Common.{◌≡◌, ◌∙◌, ◌*◌, ap₂, subst}
use Rattle.definitions.specs.Plans.Cost.{saturated}
use Rattle.definitions.specs.Plans.TableSet.{only}
use Rattle.plan_tree.specs.Sets.{set_of}
use Rattle.plan_space.specs.MergeLists.{AreBlockMerges}
use Rattle.plan_space.specs.Planned.{Planned, space_in}
use Rattle.plan_space.proofs.space.Space.merges.Goals as goal

pub returns : goal.returns
returns c =
    let space = space_in c.args.self.now in
    let pairs : c.saturating_product-pairs.result ≡ saturated (space.cardinality (set_of c.args.outer.now.tables) * space.cardinality (only c.args.table)) =
    c.saturating_product-pairs.ensures.exact ∙ ap₂ (λ a b. saturated (a * b)) c.requires.outer.rows c.table_rows.ensures.exact in
    c.merges.ensures space (subst (λ (p : Planned). AreBlockMerges (space_in p) c.self.inside.merges) c.self.view_is c.self.invariant.merges) pairs
