use Rattle.std.proofs.Common.{◌≡◌, ◌∙◌, sym, ap, subst, ◌+◌, ◌++◌, [], ◌∷◌, List, true, false, map}
use Rattle.definitions.specs.Plans.Cost.{saturated}
use Rattle.definitions.specs.Plans.TableSet.{TableSet, only}
use Rattle.interesting_orders.specs.Merges.{GoesBy}
use Rattle.interesting_orders.specs.Uses.{AreClassesIn}
use Rattle.plan_space.specs.Items.{item_of}
use Rattle.plan_space.specs.Merge.{FoundMerge}
use Rattle.plan_space.specs.MergeListed.{found_merge_of}
use Rattle.plan_space.proofs.Adding.{adds_sorted, adds_both, with_sort, as_it_is, listed, pushed}
use Rattle.plan_space.proofs.merge_lists.add_path.Goals as goal

pub returns-in_ok-push-2 : goal.returns-in_ok-push-2
returns-in_ok-push-2 c = λ space by right path.
    let uses = by.uses in
    let classes = by.classes in
    let clause = by.way in
    let a = c.args in
    let item = item_of a.item in
    let old = map found_merge_of a.merges.now.items in
    let cost : c.plus-sorted.result.number ≡ saturated (a.item.cost.number + a.clause.sort_cost.number) = c.plus-sorted.ensures in
    let first : map found_merge_of c.push.new.self.items ≡ old ++ with_sort space a.clause clause item right path ∷ [] =
    pushed a.merges.now.items c.push.new.self.items c.in_ok-merge_path.field-0 (with_sort space a.clause clause item right path) c.in_ok-push.ensures.items
    (c.in_ok-merge_path.ensures ∙ ap (listed space a.clause clause item right path true) cost) in
    let second : map found_merge_of c.push-then-goes_by.new.self.items ≡ map found_merge_of c.push.new.self.items ++ as_it_is space a.clause clause item right path ∷ [] =
    pushed c.push.new.self.items c.push-then-goes_by.new.self.items c.in_ok-merge_path-2.field-0 (as_it_is space a.clause clause item right path) c.in_ok-push-2.ensures.items c.in_ok-merge_path-2.ensures in
    let goes : GoesBy space (only a.clause.table) a.item.order a.clause.conjunct a.clause.other =
    subst (λ (s : TableSet). GoesBy space s a.item.order a.clause.conjunct a.clause.other) c.only-alone.ensures ((c.goes_by.ensures space uses (subst (λ (s : TableSet). AreClassesIn space s a.uses.now a.classes.now) (sym c.only-alone.ensures) classes)).0 c.if-goes_by.true) in
    rw (second ∙ ap (λ (xs : List FoundMerge). xs ++ as_it_is space a.clause clause item right path ∷ []) first) (adds_both space a.clause clause item right path old goes)

pub returns-else-goes_by : goal.returns-else-goes_by
returns-else-goes_by c = λ space by right path.
    let uses = by.uses in
    let classes = by.classes in
    let clause = by.way in
    let a = c.args in
    let item = item_of a.item in
    let old = map found_merge_of a.merges.now.items in
    let cost : c.plus-sorted.result.number ≡ saturated (a.item.cost.number + a.clause.sort_cost.number) = c.plus-sorted.ensures in
    let first : map found_merge_of c.push.new.self.items ≡ old ++ with_sort space a.clause clause item right path ∷ [] =
    pushed a.merges.now.items c.push.new.self.items c.in_ok-merge_path.field-0 (with_sort space a.clause clause item right path) c.in_ok-push.ensures.items
    (c.in_ok-merge_path.ensures ∙ ap (listed space a.clause clause item right path true) cost) in
    rw first (adds_sorted space a.clause clause item right path old (λ goes.
    let by' : c.goes_by.result ≡ true = (c.goes_by.ensures space uses (subst (λ (s : TableSet). AreClassesIn space s a.uses.now a.classes.now) (sym c.only-alone.ensures) classes)).1 (subst (λ (s : TableSet). GoesBy space s a.item.order a.clause.conjunct a.clause.other) (sym c.only-alone.ensures) goes) in
    let both : true ≡ false = sym by' ∙ c.if-goes_by.false in absurd cc))
