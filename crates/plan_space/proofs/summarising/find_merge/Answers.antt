use Rattle.std.proofs.Common.{ℕ, ◌≡◌, List, true, false, subst}
use Rattle.plan_tree.specs.Plans.{inner_of}
use Rattle.plan_tree.specs.Sets.{set_of}
use Rattle.plan_space.specs.Merge.{Merge, AreMerges}
use Rattle.plan_space.specs.Merges.{merge_of}
use Rattle.plan_space.specs.Planned.{space_in}
use Rattle.plan_space.proofs.Plans.{IsLeftMerge, all_merges_left, one_merge_passed}
use Rattle.plan_space.proofs.summarising.find_merge.Goals as goal

pub merges-init : goal.merges-init
merges-init c =
    let space = space_in c.args.space.now in
    let tables = set_of c.args.outer.now.tables in
    all_merges_left space tables c.args.conjunct (inner_of c.args.inner.now) c.merges-rest.result (subst (λ (table : ℕ). AreMerges space tables table c.merges-rest.result) c.table.ensures c.merges-rest.ensures)

pub merges-preserved : goal.merges-preserved
merges-preserved c =
    let space = space_in c.args.space.now in
    let tables = set_of c.args.outer.now.tables in
    let inner = inner_of c.args.inner.now in
    one_merge_passed space tables c.args.conjunct inner (merge_of c.in-Some.item) c.next.new.self
    (subst (λ (items : List Merge). IsLeftMerge space tables c.args.conjunct inner items) c.in-Some.ensures.steps c.merges.invariant)
    (λ e. let never : false ≡ true = c.if-is_it.ensures.1 e in absurd cc)
