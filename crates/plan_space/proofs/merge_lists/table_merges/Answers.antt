use Rattle.std.proofs.Common.{ℕ, ◌≡◌, ◌∙◌, ◌+◌, refl, sym, ap, subst, List, Some, None, Option, length, map, arith}
use Rattle.std.specs.Global.{Vec}
use Rattle.std.proofs.lemmas.List.{length-map}
use Rattle.definitions.specs.Estimates.BlockSpace.{space_of}
use Rattle.definitions.specs.Plans.Conjunct.{Conjunct}
use Rattle.definitions.specs.Estimates.Cardinality.{sort_cost}
use Rattle.definitions.specs.Plans.TableSet.{TableSet, no_tables, only}
use Rattle.query_tree.specs.Bound.{block_of}
use Rattle.estimate.specs.PlanConjuncts.{conjunct_of}
use Rattle.interesting_orders.specs.Uses.{AreClassesIn}
use Rattle.plan_space.specs.Item.{AreItems}
use Rattle.plan_space.specs.MergeListed.{found_merge_of, IsWay}
use Rattle.plan_space.specs.declared.listed.MergeJoinPath.{MergeJoinPath}
use Rattle.plan_space.specs.declared.listed.MergeClause.{MergeClause}
use Rattle.plan_space.proofs.PathsOnce.{paths_once}
use Rattle.plan_space.proofs.Walking.{AreFirst, one_first, none_added, all_first, added_by}
use Rattle.plan_space.proofs.merge_lists.table_merges.Goals as goal
use Rattle.plan_space.proofs.merge_lists.table_merges.Goals.{in-Some+in_ok-add_merges, in_default}

pub conjuncts-preserved : goal.conjuncts-preserved
conjuncts-preserved c = λ version of.
    let paths = of.paths in
    let uses = of.uses in
    let a = c.args in
    let space = space_of version a.estimate.now.database (block_of a.estimate.now.block) in
    let number = c.conjuncts.conjunct in
    let old = map found_merge_of c.conjuncts.merges.items in
    let sort : c.sort_cost_of-sort_cost.result.number ≡ sort_cost a.estimate.now.database (block_of a.estimate.now.block) (only a.table) = c.sort_cost_of-sort_cost.ensures ∙ ap (sort_cost a.estimate.now.database (block_of a.estimate.now.block)) c.only-alone.ensures in
    let before = c.conjuncts.invariant version of in
    let new = map found_merge_of c.match-merge_way.merges.items in
    let told = λ (v : Vec MergeJoinPath). map found_merge_of v.items in
    elim c.match-merge_way.branch [
      | in-Some+in_ok-add_merges w ↦
          let is : IsWay space a.table number (Some w.in-Some.clause) = w.in-Some.ensures.exact space (record { conjuncts = refl; sort_cost = sort }) uses in
          let classes : AreClassesIn space (only w.in-Some.clause.table) a.uses.now c.classes-classes.result =
          subst (λ (t : ℕ). AreClassesIn space (only t) a.uses.now c.classes-classes.result) (sym w.in-Some.ensures.table) (subst (λ (s : TableSet). AreClassesIn space s a.uses.now c.classes-classes.result) c.only-alone.ensures (c.classes-classes.ensures space uses)) in
          let items : AreItems space no_tables a.table w.paths.result = subst (λ (s : TableSet). AreItems space s a.table w.paths.result) w.none.ensures (w.paths.ensures version paths) in
          let adds = added_by space a.table number w.in-Some.clause w.paths.result old (map found_merge_of w.add_merges.new.merges.items) is items (paths_once version a.estimate.now.database (block_of a.estimate.now.block) no_tables a.table) (λ own of_own once. w.in_ok-add_merges.ensures space (record { uses = uses; classes = classes; way = own }) of_own once) in
          subst (λ (v : Vec MergeJoinPath). AreFirst space a.table (number + 1) (map found_merge_of v.items)) (sym w.merges-is) (one_first space a.table number old (map found_merge_of w.add_merges.new.merges.items) before adds)
      | in_default w ↦
          let none : IsWay space a.table number None = subst (λ (clause : Option MergeClause). IsWay space a.table number clause) w.in_default.is (c.merge_way.ensures.exact space (record { conjuncts = refl; sort_cost = sort }) uses) in
          subst (λ (v : Vec MergeJoinPath). AreFirst space a.table (number + 1) (map found_merge_of v.items)) (sym w.merges-is) (none_added space a.table number old before none)
    ]

pub returns : goal.returns
returns c = λ version of.
    let paths = of.paths in
    let uses = of.uses in
    let a = c.args in
    let space = space_of version a.estimate.now.database (block_of a.estimate.now.block) in
    let count : c.conjuncts.conjunct ≡ length space.conjuncts =
    omega (arith, c.conjuncts-test.false, c.conjuncts.auto.conjunct-end, length-map c.conjuncts-conjunct-end.result.now conjunct_of, ap (λ (cs : List Conjunct). length cs) c.conjuncts-conjunct-end.ensures.exact) in
    all_first space a.table (map found_merge_of c.conjuncts.merges.items) (subst (λ n. AreFirst space a.table n (map found_merge_of c.conjuncts.merges.items)) count (c.conjuncts.invariant version of))
