use Rattle.plan_tree.specs.Sets.{set_of}
use Rattle.tuple_sort.specs.Keeping.{rows_of}
use Rattle.tuple_sort.proofs.SortedLists.{rows_seen}
use Rattle.tuple_sort.proofs.list.Composites.single_rows.Goals as goal

pub returns : goal.returns
returns c =
    let s = c.self.inside in
    rows_seen (set_of s.tables) s.width s.members.items c.self.invariant.members c.args.self.now (rows_of s.kept) c.single_rows.result.now c.self.view_is c.single_rows.ensures
