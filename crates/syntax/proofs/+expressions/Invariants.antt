use Rattle.std.proofs.Common.{◌+◌, ◌*◌, ◌-◌, ◌≤◌, ◌++◌, length, map}
use Rattle.definitions.specs.Grammar as g
use Rattle.definitions.specs.Grammar.{within}
use Rattle.parse_tree.specs.Trees.{expr_of, item_of, member_of, operand_of}
use Rattle.syntax_cursor.specs.Leaves.{line_kind}
use Rattle.syntax_cursor.specs.Places.{Stands, if_there}
use Rattle.definitions.specs.Limits.{most_members, most_items}
use Rattle.syntax_cursor.proofs.Lists.{Lists}
use Rattle.syntax_cursor.proofs.Places.{Kept}
use Rattle.syntax.specs.Places.{all, expr_leaves, item_leaves, operand_leaves}
use Rattle.syntax.proofs.Lines.{rank, Lines}
use Rattle.syntax.proofs.+expressions.Given as goal

abbrev pub decreases-expr::line : goal.decreases-expr::line
decreases-expr::line l = 32 * l.levels + (rank (line_kind l.kind) + 1)

abbrev pub decreases-expr::operand : goal.decreases-expr::operand
decreases-expr::operand l = 32 * l.levels + rank (line_kind l.kind)

abbrev pub decreases-expr::negation : goal.decreases-expr::negation
decreases-expr::negation l = 32 * l.levels + 16

abbrev pub decreases-expr::test : goal.decreases-expr::test
decreases-expr::test l = 32 * l.levels + 15

abbrev pub decreases-expr::tail : goal.decreases-expr::tail
decreases-expr::tail l = 32 * l.levels + 14

abbrev pub decreases-expr::comparison : goal.decreases-expr::comparison
decreases-expr::comparison l = 32 * l.levels + 13

abbrev pub decreases-expr::predicate : goal.decreases-expr::predicate
decreases-expr::predicate l = 32 * l.levels + 13

abbrev pub decreases-expr::between : goal.decreases-expr::between
decreases-expr::between l = 32 * l.levels + 12

abbrev pub decreases-expr::signed_operand : goal.decreases-expr::signed_operand
decreases-expr::signed_operand l = 32 * l.levels + 4

abbrev pub decreases-expr::primary : goal.decreases-expr::primary
decreases-expr::primary l = 32 * l.levels + 3

abbrev pub decreases-expr::other_primary : goal.decreases-expr::other_primary
decreases-expr::other_primary l = 32 * l.levels + 2

abbrev pub decreases-expr::member : goal.decreases-expr::member
decreases-expr::member l = 32 * l.levels + 10

abbrev pub decreases-expr::members : goal.decreases-expr::members
decreases-expr::members l = 32 * l.levels + 11

abbrev pub decreases-expr::in_list : goal.decreases-expr::in_list
decreases-expr::in_list l = 32 * l.levels + 26

abbrev pub decreases-query::item : goal.decreases-query::item
decreases-query::item l = 32 * l.levels + 21

abbrev pub decreases-query::items : goal.decreases-query::items
decreases-query::items l = 32 * l.levels + 22

abbrev pub decreases-query::select_list : goal.decreases-query::select_list
decreases-query::select_list l = 32 * l.levels + 23

abbrev pub decreases-query::condition_behind : goal.decreases-query::condition_behind
decreases-query::condition_behind l = 32 * l.levels + 21

abbrev pub decreases-query::block : goal.decreases-query::block
decreases-query::block l = 32 * l.levels + 24

abbrev pub decreases-expr::subquery : goal.decreases-expr::subquery
decreases-expr::subquery l = 32 * l.levels + 25

abbrev pub decreases-expr::parenthesis : goal.decreases-expr::parenthesis
decreases-expr::parenthesis l = 32 * l.levels + 26

abbrev pub decreases-expr::argument : goal.decreases-expr::argument
decreases-expr::argument l = 32 * l.levels + 21

abbrev pub invariant-expr::line-operands : goal.invariant-expr::line-operands
invariant-expr::line-operands l = record {
  reads : Lines (line_kind l.kind) l.levels l.levels l.fn.cursor l.cursor (expr_of l.head) (map operand_of l.others.items);
  placed : Stands l.fn.cursor l.cursor (expr_leaves l.head ++ all operand_leaves l.others.items);
}

abbrev pub decreases-expr::line-operands : goal.decreases-expr::line-operands
decreases-expr::line-operands l = length l.cursor.tokens - l.cursor.at

abbrev pub invariant-expr::members-members : goal.invariant-expr::members-members
invariant-expr::members-members l = record {
  reads : Lists (λ m. g.MemberOf (within m)) most_members l.levels l.levels l.fn.cursor l.cursor (map member_of l.members.items);
  few : length l.members.items ≤ most_members + 1;
  placed : Kept most_members (length l.members.items) l.fn.cursor l.cursor (all (if_there expr_leaves) l.members.items);
}

abbrev pub decreases-expr::members-members : goal.decreases-expr::members-members
decreases-expr::members-members l = length l.cursor.tokens - l.cursor.at

abbrev pub invariant-query::items-items : goal.invariant-query::items-items
invariant-query::items-items l = record {
  reads : Lists (λ m. g.ItemOf (within m)) most_items l.levels l.levels l.fn.cursor l.cursor (map item_of l.items.items);
  few : length l.items.items ≤ most_items + 1;
  placed : Kept most_items (length l.items.items) l.fn.cursor l.cursor (all item_leaves l.items.items);
}

abbrev pub decreases-query::items-items : goal.decreases-query::items-items
decreases-query::items-items l = length l.cursor.tokens - l.cursor.at
