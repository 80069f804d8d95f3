use Rattle.std.proofs.Common.{length, map, ◌≡◌, drop, take, ◌++◌, List}
use Rattle.query_tree.specs.Bound.{operand_of as bound_operand_of, item_of, value_type_of, condition_of as bound_condition_of, member_of as bound_member_of}
use Rattle.parse_tree.specs.Trees.{operand_of, item_of as listed_item_of, member_of}
use Rattle.query_rules.specs.Meaning.{place_of}
use Rattle.binder.specs.Meaning.{progress_of}
use Rattle.definitions.specs.Grammar.{operands, items, member_list}
use Rattle.binder.proofs.Lines.{OperandsLeft, PartsLeft}
use Rattle.std.specs.Prelude.{option_map}
use Rattle.binder.specs.Blocks.{IsOnly}
use Rattle.binder.proofs.ItemLists.{ItemsLeft}
use Rattle.binder.proofs.MemberLists.{MembersLeft}
use Rattle.definitions.specs.Queries.BoundBlock as b
use Rattle.binder.proofs.+binding.Given as goal

abbrev pub invariant-condition::bound_members-members :
    goal.invariant-condition::bound_members-members
invariant-condition::bound_members-members l =
    MembersLeft l.clause.database.now l.clause.scopes.now (place_of l.clause.place) (progress_of l.initial.blocks.items l.initial.functions.items) (value_type_of l.value_type) (member_list (map member_of l.member-items))
    (progress_of l.blocks.items l.functions.items) (map bound_member_of l.bound.items) (member_list (map member_of (drop l.member-index l.member-items)))

-- the conditions behind the first
abbrev pub invariant-condition::logical-operands : goal.invariant-condition::logical-operands
invariant-condition::logical-operands l =
    (done : List b.Condition) × (map bound_condition_of l.parts.items ≡ map bound_condition_of l.initial.parts.items ++ done)
    × PartsLeft l.clause.database.now l.clause.scopes.now (place_of l.clause.place) (progress_of l.initial.blocks.items l.initial.functions.items) (operands (map operand_of l.operand-items))
    (progress_of l.blocks.items l.functions.items) done (operands (map operand_of (drop l.operand-index l.operand-items)))

abbrev pub invariant-value::chain-operands : goal.invariant-value::chain-operands
invariant-value::chain-operands l =
    OperandsLeft l.clause.database.now l.clause.scopes.now (place_of l.clause.place) (progress_of l.initial.blocks.items l.initial.functions.items) l.initial.scale (operands (map operand_of l.operand-items))
    (progress_of l.blocks.items l.functions.items) l.scale (map bound_operand_of l.joined.items) (operands (map operand_of (drop l.operand-index l.operand-items)))

abbrev pub invariant-items::result_columns-items : goal.invariant-items::result_columns-items
invariant-items::result_columns-items l =
    (length l.items.items ≡ l.item-index)
    × IsOnly l.clause.database.now l.clause.scopes.now (map listed_item_of (take l.item-index l.item-items)) (option_map value_type_of l.only)
    × ItemsLeft l.clause.database.now l.clause.scopes.now (place_of l.clause.place) (progress_of l.initial.blocks.items l.initial.functions.items) (items (map listed_item_of l.item-items))
    (progress_of l.blocks.items l.functions.items) (map item_of l.items.items) (items (map listed_item_of (drop l.item-index l.item-items)))
