use Rattle.std.proofs.lemmas.Result.{on_ok_weaker}
use Rattle.plan_tree.specs.Sets.{set_of}
use Rattle.tuple_sort.specs.Keeping.{rows_of}
use Rattle.tuple_sort.proofs.SortedLists.{rows_pushed}
use Rattle.tuple_sort.proofs.list.Composites.push_rows.Goals as goal

pub returns-clause-ok : goal.returns-clause-ok
returns-clause-ok c =
    let s = c.self.inside in
    on_ok_weaker c.push_rows.result
    (rows_pushed (set_of s.tables) s.width s.members.items c.self.invariant.members c.args.self.now (rows_of s.kept) (rows_of c.push_rows.new.self) c.args.rows.now c.self.view_is) c.push_rows.ensures.ok
