use Rattle.plan_space.specs.Planned.{space_in}
use Rattle.std.proofs.Common.{◌≡◌, length}
use Rattle.plan_tree.specs.Sets.{set_of}
use Rattle.join_dp.specs.JoinLists.{joins_in, AreJoins, IsLonger}
use Rattle.join_dp.proofs.join_lists.JoinLists.list.Given as goal

abbrev pub invariant-tables : goal.invariant-tables
invariant-tables l = record {
  longer : IsLonger (joins_in l.fn.self) (joins_in l.self);
  joins : AreJoins (space_in l.space) (joins_in l.self) (set_of l.outer.tables) (length (joins_in l.fn.self)) (length (joins_in l.self)) l.table;
  places : l.self.places.items ≡ l.fn.self.places.items;
  relations : l.self.relations.items ≡ l.fn.self.relations.items;
}
