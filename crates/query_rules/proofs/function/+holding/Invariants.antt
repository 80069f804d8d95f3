use Rattle.std.proofs.Common.{◌≡◌, map, drop}
use Rattle.std.specs.List.{list_any}
use Rattle.definitions.specs.Grammar.{member_list, operands}
use Rattle.definitions.specs.Binding.Parts.{is_function, member_parts, operand_parts}
use Rattle.parse_tree.specs.Trees.{member_of, operand_of}
use Rattle.query_rules.proofs.function.+holding.Given as goal

abbrev pub invariant-some_member_holds_function-members :
    goal.invariant-some_member_holds_function-members
invariant-some_member_holds_function-members l = list_any is_function (member_parts (member_list (map member_of l.list))) ≡ list_any is_function (member_parts (member_list (map member_of (drop l.member-index l.list))))

abbrev pub invariant-some_operand_holds_function-operands :
    goal.invariant-some_operand_holds_function-operands
invariant-some_operand_holds_function-operands l = list_any is_function (operand_parts (operands (map operand_of l.others))) ≡ list_any is_function (operand_parts (operands (map operand_of (drop l.operand-index l.others))))
