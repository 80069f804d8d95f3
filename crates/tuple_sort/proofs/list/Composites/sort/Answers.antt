use Rattle.std.proofs.Common.{subst, map}
use Rattle.std.specs.Prelude.{IsPermutation}
use Rattle.std.proofs.lemmas.List.Sorted.{IsPermutation-map}
use Rattle.plan_tree.specs.Sets.{set_of}
use Rattle.plan_tree.specs.Plans.{order_of}
use Rattle.tuple_sort.specs.CompositeLists.{CompositeList}
use Rattle.tuple_sort.specs.Keeping.{rows_of}
use Rattle.tuple_sort.specs.Packing.{unpacked}
use Rattle.tuple_sort.proofs.SortedLists.{rises_unpacked}
use Rattle.tuple_sort.proofs.list.Composites.sort.Goals as goal

pub returns-clause-permutation : goal.returns-clause-permutation
returns-clause-permutation c =
    let s = c.self.inside in
    let same = IsPermutation-map (unpacked s.width s.members.items) (rows_of s.kept) (rows_of c.sort.new.self) c.sort.ensures.permutation in
    subst (λ (v : CompositeList). IsPermutation v.items (map (unpacked s.width s.members.items) (rows_of c.sort.new.self))) c.self.view_is same

pub returns-clause-sorted : goal.returns-clause-sorted
returns-clause-sorted c =
    let s = c.self.inside in
    rises_unpacked (set_of s.tables) s.width s.members.items c.self.invariant.members c.args.source.now (order_of c.args.order.now) (rows_of c.sort.new.self) (rw c.deref.ensures.value at c.sort.ensures.sorted)
