use Rattle.std.proofs.Common.{◌≡◌, drop, map, take}
use Rattle.std.specs.List.{list_all}
use Rattle.query_tree.specs.Bound.{member_of, value_of}
use Rattle.sqlvalue.specs.Meaning.{op_of}
use Rattle.filters.specs.Comparisons.{is_member_beside, AreMembersOf}
use Rattle.filters.proofs.member_list.list_of.Given as goal

-- the members before one have comparisons, and the ones from it on tell whether all have
abbrev pub invariant-members : goal.invariant-members
invariant-members l = record {
  compared : AreMembersOf l.table (op_of l.op) (value_of l.value) (map member_of (take l.member-index l.member-items)) l.comparisons.items;
  left : list_all (is_member_beside l.table (value_of l.value)) (map member_of (drop l.member-index l.member-items))
      ≡ list_all (is_member_beside l.table (value_of l.value)) (map member_of l.member-items);
}
