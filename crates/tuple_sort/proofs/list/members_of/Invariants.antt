use Rattle.std.proofs.Common.{◌≡◌}
use Rattle.plan_tree.specs.Sets.{set_of}
use Rattle.tuple_sort.specs.Packing.{tables_in}
use Rattle.tuple_sort.proofs.list.members_of.Given as goal

abbrev pub invariant-tables : goal.invariant-tables
invariant-tables l = l.members.items ≡ tables_in (set_of l.tables) l.table
