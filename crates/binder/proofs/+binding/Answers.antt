use Rattle.std.proofs.Common.{arith, rules, ◌≡◌, ◌∙◌, refl, sym, ap, subst, ◌≤◌, ◌+◌, ◌∷◌, ◌++◌, [], Some, None, length, map, drop, true, false, vec_len, inl, ◌<◌}
use Rattle.definitions.specs.Limits.{most_blocks}
use Rattle.definitions.specs.Refusal.{MisplacedFunction, MixedKinds, ScaleTooGreat}
use Rattle.definitions.specs.ValueType.{NumberType, TextType}
use Rattle.query_tree.specs.Bound.{block_of, value_of, value_type_of, operand_of as bound_operand_of, bound_function_of, item_of, condition_of as bound_condition_of, column_of as block_column_of, conditions, member_of as bound_member_of}
use Rattle.query_tree.proofs.Views.{of_signed as bound_signed, of_chain as bound_chain, of_subquery as bound_subquery, of_compare as bound_compare, of_quantified as bound_quantified, of_is_null as bound_is_null, of_between as bound_between, of_like as bound_like, of_in_list as bound_in_list, of_in_query as bound_in_query, of_exists as bound_exists, of_not as bound_not, of_and as bound_and, of_or as bound_or}
use Rattle.parse_tree.specs.Trees.{column_of, expr_of, text_of, operand_of, member_of, block_of as query_of, operator_of, function_of, condition_of, item_of as listed_item_of, list_of, name_of, source_of, quantifier_of}
use Rattle.parse_tree.proofs.Views.{of_column, of_numeral, of_string, of_signed, of_compare, of_compare_all, of_between, of_in_query, of_scalar, of_count_rows, of_function, of_in_list, of_line, of_asterisk, of_items}
use Rattle.std.specs.Prelude.{IfSome, option_map, IsTrue}
use Rattle.definitions.specs.Grammar.{operands, items, member_list}
use Rattle.parse_tree.specs.declared.expr.Expr.{the_lemmas}
use Rattle.query_rules.specs.Judging.{BindsValue, BindsCondition, BindsColumn, RefusesValue, RefusesColumn, InWhere, takes_functions, InArgument, BindsMembers, BindsQuery, RefusesCondition, RefusesMembers, RefusesQuery, RefusesBlock}
use Rattle.binder.proofs.Predicates.{scalar_query, binds_scalar, binds_is_null, is_null_operand, binds_like, like_operand, like_number, binds_not, not_operand, binds_between, between_operand, between_low, between_high, between_low_mixed, between_high_mixed, binds_exists, exists_query, in_query, compare_all, binds_test, test_operand, test_query, test_mixed}
use Rattle.binder.proofs.SetFunctions.{count_rows_misplaced, binds_count_rows, function_misplaced, binds_function, function_argument, function_of_text, nothing_bound}
use Rattle.query_rules.specs.Meaning.{place_of, query_refusal, bind_refusal}
use Rattle.binder.specs.Meaning.{progress_of, IsLine, IsList}
use Rattle.query_rules.proofs.Refused.{if_some}
use Rattle.binder.proofs.Answering.{is_refused, is_passed, value_err, value_refused, few_blocks, few_items, numeral_refused, column_answer, next_tree, no_tree, pushed_operand, condition_err, condition_refused, members_err, members_refused, column_err, query_err, line_is, is_text, next_member_tree, no_member_tree, as_many_members, pushed_member, pushed_condition, pushed_function, as_many_functions, nothing_more, connected_and, connected_or, others_there}
use Rattle.binder.proofs.Lines.{OperandsLeft, begin_operands, past_operand, fault_at_operand, text_at_operand, great_at_operand, end_operands, binds_chain, chain_first, chain_text, chain_operands, PartsLeft, begin_parts, past_part, fault_at_part, end_parts, binds_logical, logical_first, logical_parts}
use Rattle.binder.proofs.Nodes.{binds_numeral, binds_string, binds_signed, signed_operand, signed_text, binds_compare, compare_left, compare_right, compare_mixed, few_after}
use Rattle.std.proofs.lemmas.List.{take_all, append_assoc}
use Rattle.binder.specs.Blocks.{BindsList, BindsOption, IsOnly, RefusesList}
use Rattle.query_rules.specs.Groups.{shown_in}
use Rattle.binder.proofs.+binding.Goals.{items::result_columns-then-is_empty, items::result_columns-else-is_empty, condition::bound_members-in-Some+in_ok-typed-in-Some+in_ok-push-in-Some+in_ok-judge_kinds-in-Some, condition::bound_members-in-None+in_ok-push-in-None}
use Rattle.binder.specs.Clauses.{clauses_of, BindsClauses, RefusesClauses}
use Rattle.binder.proofs.Bundles.{length_of_both}
use Rattle.binder.proofs.StarItems.{pushed_item, as_many_items}
use Rattle.binder.proofs.WholeBlocks.{ready, refused_in, number_within, binds_in, sight_inside, pushed_block, as_many_blocks}
use Rattle.binder.proofs.BlockAnswers.{option_err, list_err, clauses_err, block_err, block_refused, sources_refused, groups_refused}
use Rattle.binder.proofs.ClauseParts.{list_refused_in, where_refused_in, having_refused_in, clauses_bound}
use Rattle.binder.proofs.ItemLists.{begin_items, past_item, fault_at_item, binds_listed, binds_asterisk, first_next, later_next, header_same, next_item_tree, no_item_tree, all_listed}
use Rattle.binder.proofs.OptionalConditions.{binds_absent, binds_present, present_refused}
use Rattle.definitions.specs.Binding.Faults.{is_logical, member_count, HasManyMembers}
use Rattle.definitions.specs.Binding.BoundForm.{connected}
use Rattle.sqlvalue.specs.Meaning.{op_of}
use Rattle.binder.proofs.MemberLists.{MembersLeft, begin_members, past_null, past_value, fault_at_value, kinds_at_value, end_members, binds_in_list, many_in_list, in_list_operand, in_list_members}
use Rattle.binder.proofs.Subqueries.{not_where, one_column, not_one_column, query_in_where, query_refused, query_misplaced}
use Rattle.definitions.specs.Statement as spec
use Rattle.definitions.specs.Queries.BoundBlock as b
use Rattle.binder.proofs.+binding.Goals as goal

pub block::block-returns-in_err-scopes : goal.block::block-returns-in_err-scopes
block::block-returns-in_err-scopes t c =
    sources_refused c.args.database.now c.args.outer.now (map block_of c.args.blocks.now.items) (map block_of c.args.blocks.now.items) c.args.query.now _ c.in_err-scopes.field-0.0 c.from_residual.ensures (rw c.deref.ensures.value at c.in_err-scopes.ensures.refused)

pub block::block-returns-in_err-judge_limits : goal.block::block-returns-in_err-judge_limits
block::block-returns-in_err-judge_limits t c =
    let q = c.in_err-judge_limits.field-0.0 in
    block_refused c.args.database.now c.args.outer.now (map block_of c.args.blocks.now.items) (map block_of c.args.blocks.now.items) _ _ q (is_refused _ q c.from_residual-in_err-judge_limits.ensures) (c.in_err-judge_limits.ensures.refused c.args.database.now c.args.outer.now)

pub block::block-returns-in_err-groups : goal.block::block-returns-in_err-groups
block::block-returns-in_err-groups t c =
    let f = c.in_err-groups.field-0.0 in
    block_err c.args.database.now c.args.outer.now (map block_of c.args.blocks.now.items) (map block_of c.args.blocks.now.items) _ _ f (is_passed _ c.from_residual-in_err-groups.ensures.1)
    (if_some (bind_refusal f) _ _ (groups_refused c.args.database.now c.args.outer.now c.in_ok-scopes.scopes (map block_of c.args.blocks.now.items) c.args.query.now (rw c.deref.ensures.value at c.in_ok-scopes.ensures.ok) c.in_ok-scopes.ensures.all_there) (rw c.deref-2.ensures.value at c.in_err-groups.ensures.refused))

pub block::block-bound_clauses-requires : goal.block::block-bound_clauses-requires
block::block-bound_clauses-requires t c =
    let inside = rw c.deref.ensures.value at c.in_ok-scopes.ensures.ok in
    let sight = sight_inside c.args.database.now c.args.outer.now c.in_ok-scopes.scopes (map source_of c.args.query.now.sources.tables.items) c.requires.sight inside in
    let shown : IsTrue (takes_functions (place_of c.shown_place-place.result)) = rw c.shown_place-place.ensures refl in
    let count : length c.push.new.self.items ≡ length c.args.blocks.now.items + 1 = ap length c.in_ok-push.ensures.items ∙ length_of_both c.args.blocks.now.items (c.empty.result ∷ []) in
    let few : length c.push.new.self.items ≤ most_blocks = omega (arith, count, c.if-number-ge-MAX_BLOCKS.false, c.len-number.ensures, c.args.blocks.now.ok.0) in
    search (rules, the_lemmas, sight, shown, few)

pub block::block-returns-in_err-items : goal.block::block-returns-in_err-items
block::block-returns-in_err-items t c =
    let f = c.in_err-items.field-0.0 in
    let inside = rw c.deref.ensures.value at c.in_ok-scopes.ensures.ok in
    let known = ready c.args.database.now c.args.outer.now c.in_ok-scopes.scopes c.args.query.now c.is_grouped-grouped.result (map block_column_of c.in_ok-groups.groups.items) inside c.in_ok-scopes.ensures.all_there (rw c.deref.ensures.value at c.in_ok-scopes.ensures.there) (rw c.deref.ensures.value at c.in_ok-scopes.ensures.distinct) (rw c.deref.ensures.value at c.in_ok-scopes.ensures.few) c.in_ok-judge_limits.ensures.ok c.is_grouped-grouped.ensures (rw c.deref-2.ensures.value at c.in_ok-groups.ensures.own) (rw c.deref-2.ensures.value at c.in_ok-groups.ensures.ok) in
    let place : place_of c.shown_place-place.result ≡ shown_in c.is_grouped-grouped.result (map block_column_of c.in_ok-groups.groups.items) = rw c.deref-3.ensures.value at c.shown_place-place.ensures in
    let first : map block_of c.push.new.self.items ≡ map block_of c.args.blocks.now.items ++ block_of c.empty.result ∷ [] = ap (map block_of) c.in_ok-push.ensures.items ∙ pushed_block c.args.blocks.now.items c.empty.result in
    let count : length (map block_of c.push.new.self.items) ≡ length (map block_of c.args.blocks.now.items) + 1 = ap length first ∙ length_of_both (map block_of c.args.blocks.now.items) (block_of c.empty.result ∷ []) in
    let inner : IfSome (bind_refusal f) (RefusesClauses c.args.database.now c.in_ok-scopes.scopes (shown_in c.is_grouped-grouped.result (map block_column_of c.in_ok-groups.groups.items)) (length (map block_of c.push.new.self.items)) (query_of c.args.query.now)) = rw place at c.in_err-items.ensures in
    block_err c.args.database.now c.args.outer.now (map block_of c.args.blocks.now.items) _ _ _ f (is_passed _ c.from_residual-in_err-items.ensures.1) (if_some (bind_refusal f) _ _ (refused_in c.args.database.now c.args.outer.now c.in_ok-scopes.scopes c.args.query.now c.is_grouped-grouped.result (map block_column_of c.in_ok-groups.groups.items) known inside (map block_of c.args.blocks.now.items) (map block_of c.push.new.self.items) count) inner)

pub block::block-put-requires : goal.block::block-put-requires
block::block-put-requires t c =
    let inside = rw c.deref.ensures.value at c.in_ok-scopes.ensures.ok in
    let known = ready c.args.database.now c.args.outer.now c.in_ok-scopes.scopes c.args.query.now c.is_grouped-grouped.result (map block_column_of c.in_ok-groups.groups.items) inside c.in_ok-scopes.ensures.all_there (rw c.deref.ensures.value at c.in_ok-scopes.ensures.there) (rw c.deref.ensures.value at c.in_ok-scopes.ensures.distinct) (rw c.deref.ensures.value at c.in_ok-scopes.ensures.few) c.in_ok-judge_limits.ensures.ok c.is_grouped-grouped.ensures (rw c.deref-2.ensures.value at c.in_ok-groups.ensures.own) (rw c.deref-2.ensures.value at c.in_ok-groups.ensures.ok) in
    let place : place_of c.shown_place-place.result ≡ shown_in c.is_grouped-grouped.result (map block_column_of c.in_ok-groups.groups.items) = rw c.deref-3.ensures.value at c.shown_place-place.ensures in
    let first : map block_of c.push.new.self.items ≡ map block_of c.args.blocks.now.items ++ block_of c.empty.result ∷ [] = ap (map block_of) c.in_ok-push.ensures.items ∙ pushed_block c.args.blocks.now.items c.empty.result in
    let bound : BindsClauses c.args.database.now c.in_ok-scopes.scopes (shown_in c.is_grouped-grouped.result (map block_column_of c.in_ok-groups.groups.items)) (map block_of c.args.blocks.now.items ++ block_of c.empty.result ∷ []) (map block_of c.bound_clauses.new.blocks.items) (query_of c.args.query.now) (clauses_of c.in_ok-items.field-0) = rw (place, first) at c.in_ok-items.ensures in
    let within = number_within c.args.database.now c.args.outer.now c.in_ok-scopes.scopes c.args.query.now c.is_grouped-grouped.result (map block_column_of c.in_ok-groups.groups.items) known inside (map block_of c.args.blocks.now.items) (map block_of c.bound_clauses.new.blocks.items) (block_of c.empty.result) (clauses_of c.in_ok-items.field-0) bound in
    let old = as_many_blocks c.args.blocks.now.items in
    let new = as_many_blocks c.bound_clauses.new.blocks.items in
    omega (arith, within, old, new, c.len-number.ensures, c.args.blocks.now.ok.0)

pub block::block-returns : goal.block::block-returns
block::block-returns t c =
    let inside = rw c.deref.ensures.value at c.in_ok-scopes.ensures.ok in
    let known = ready c.args.database.now c.args.outer.now c.in_ok-scopes.scopes c.args.query.now c.is_grouped-grouped.result (map block_column_of c.in_ok-groups.groups.items) inside c.in_ok-scopes.ensures.all_there (rw c.deref.ensures.value at c.in_ok-scopes.ensures.there) (rw c.deref.ensures.value at c.in_ok-scopes.ensures.distinct) (rw c.deref.ensures.value at c.in_ok-scopes.ensures.few) c.in_ok-judge_limits.ensures.ok c.is_grouped-grouped.ensures (rw c.deref-2.ensures.value at c.in_ok-groups.ensures.own) (rw c.deref-2.ensures.value at c.in_ok-groups.ensures.ok) in
    let place : place_of c.shown_place-place.result ≡ shown_in c.is_grouped-grouped.result (map block_column_of c.in_ok-groups.groups.items) = rw c.deref-3.ensures.value at c.shown_place-place.ensures in
    let first : map block_of c.push.new.self.items ≡ map block_of c.args.blocks.now.items ++ block_of c.empty.result ∷ [] = ap (map block_of) c.in_ok-push.ensures.items ∙ pushed_block c.args.blocks.now.items c.empty.result in
    let bound : BindsClauses c.args.database.now c.in_ok-scopes.scopes (shown_in c.is_grouped-grouped.result (map block_column_of c.in_ok-groups.groups.items)) (map block_of c.args.blocks.now.items ++ block_of c.empty.result ∷ []) (map block_of c.bound_clauses.new.blocks.items) (query_of c.args.query.now) (clauses_of c.in_ok-items.field-0) = rw (place, first) at c.in_ok-items.ensures in
    let number : c.len-number.result ≡ length (map block_of c.args.blocks.now.items) = let old = as_many_blocks c.args.blocks.now.items in omega (arith, old, c.len-number.ensures, c.args.blocks.now.ok.0) in
    let whole = binds_in c.args.database.now c.args.outer.now c.in_ok-scopes.scopes c.args.query.now c.is_grouped-grouped.result (map block_column_of c.in_ok-groups.groups.items) known inside (map block_of c.args.blocks.now.items) (map block_of c.bound_clauses.new.blocks.items) (block_of c.empty.result) (clauses_of c.in_ok-items.field-0) bound c.len-number.result c.in_ok-tables.tables.items number c.in_ok-tables.ensures in
    rw (c.put.ensures, c.new.ensures.items) whole

pub block::bound_clauses-returns-in_err-items : goal.block::bound_clauses-returns-in_err-items
block::bound_clauses-returns-in_err-items t c =
    let f = c.in_err-items.field-0.0 in
    let inner : IfSome (bind_refusal f) (RefusesList c.args.database.now c.args.scopes.now (place_of c.args.place) (record { blocks = map block_of c.args.blocks.now.items; functions = [] }) (list_of c.args.query.now.list)) = rw c.new-functions.ensures.items at c.in_err-items.ensures in
    clauses_err c.args.database.now c.args.scopes.now (place_of c.args.place) (map block_of c.args.blocks.now.items) _ _ _ f (is_passed _ c.from_residual.ensures.1) (if_some (bind_refusal f) _ _ (list_refused_in c.args.database.now c.args.scopes.now (place_of c.args.place) (map block_of c.args.blocks.now.items) c.args.query.now) inner)

pub block::bound_clauses-optional_condition-requires : goal.block::bound_clauses-optional_condition-requires
block::bound_clauses-optional_condition-requires t c =
    let listed : BindsList c.args.database.now c.args.scopes.now (place_of c.args.place) (record { blocks = map block_of c.args.blocks.now.items; functions = [] }) (progress_of c.result_columns.new.blocks.items c.result_columns.new.functions.items) (list_of c.args.query.now.list) (map item_of c.in_ok-items.field-0.items.items) (option_map value_type_of c.in_ok-items.field-0.only) = rw c.new-functions.ensures.items at c.in_ok-items.ensures in
    let sight = c.requires.sight in
    let few = few_items c.result_columns.new.blocks.items (few_after c.args.database.now c.args.scopes.now (place_of c.args.place) (record { blocks = map block_of c.args.blocks.now.items; functions = [] }) (progress_of c.result_columns.new.blocks.items c.result_columns.new.functions.items) _ _ listed.adds) in
    search (rules, the_lemmas, sight, few)

pub block::bound_clauses-returns-in_err-condition : goal.block::bound_clauses-returns-in_err-condition
block::bound_clauses-returns-in_err-condition t c =
    let f = c.in_err-condition.field-0.0 in
    let listed : BindsList c.args.database.now c.args.scopes.now (place_of c.args.place) (record { blocks = map block_of c.args.blocks.now.items; functions = [] }) (progress_of c.result_columns.new.blocks.items c.result_columns.new.functions.items) (list_of c.args.query.now.list) (map item_of c.in_ok-items.field-0.items.items) (option_map value_type_of c.in_ok-items.field-0.only) = rw c.new-functions.ensures.items at c.in_ok-items.ensures in
    clauses_err c.args.database.now c.args.scopes.now (place_of c.args.place) (map block_of c.args.blocks.now.items) _ _ _ f (is_passed _ c.from_residual-in_err-condition.ensures.1)
    (if_some (bind_refusal f) _ _ (λ r x. where_refused_in c.args.database.now c.args.scopes.now (place_of c.args.place) (map block_of c.args.blocks.now.items) (progress_of c.result_columns.new.blocks.items c.result_columns.new.functions.items) c.args.query.now r c.requires.shown listed.adds x) c.in_err-condition.ensures)

pub block::bound_clauses-optional_condition-requires-2 : goal.block::bound_clauses-optional_condition-requires-2
block::bound_clauses-optional_condition-requires-2 t c =
    let kept : BindsOption c.args.database.now c.args.scopes.now InWhere (progress_of c.result_columns.new.blocks.items c.result_columns.new.functions.items) (progress_of c.optional_condition.new.blocks.items c.optional_condition.new.functions.items) (condition_of c.args.query.now.condition) (option_map bound_condition_of c.in_ok-condition.condition) = c.in_ok-condition.ensures in
    let sight = c.requires.sight in
    let few = few_items c.optional_condition.new.blocks.items (few_after c.args.database.now c.args.scopes.now InWhere (progress_of c.result_columns.new.blocks.items c.result_columns.new.functions.items) (progress_of c.optional_condition.new.blocks.items c.optional_condition.new.functions.items) _ _ kept.adds) in
    search (rules, the_lemmas, sight, few)

pub block::bound_clauses-returns-in_err-having : goal.block::bound_clauses-returns-in_err-having
block::bound_clauses-returns-in_err-having t c =
    let f = c.in_err-having.field-0.0 in
    let listed : BindsList c.args.database.now c.args.scopes.now (place_of c.args.place) (record { blocks = map block_of c.args.blocks.now.items; functions = [] }) (progress_of c.result_columns.new.blocks.items c.result_columns.new.functions.items) (list_of c.args.query.now.list) (map item_of c.in_ok-items.field-0.items.items) (option_map value_type_of c.in_ok-items.field-0.only) = rw c.new-functions.ensures.items at c.in_ok-items.ensures in
    let kept : BindsOption c.args.database.now c.args.scopes.now InWhere (progress_of c.result_columns.new.blocks.items c.result_columns.new.functions.items) (progress_of c.optional_condition.new.blocks.items c.optional_condition.new.functions.items) (condition_of c.args.query.now.condition) (option_map bound_condition_of c.in_ok-condition.condition) = c.in_ok-condition.ensures in
    clauses_err c.args.database.now c.args.scopes.now (place_of c.args.place) (map block_of c.args.blocks.now.items) _ _ _ f (is_passed _ c.from_residual-in_err-having.ensures.1)
    (if_some (bind_refusal f) _ _ (λ r x. having_refused_in c.args.database.now c.args.scopes.now (place_of c.args.place) (map block_of c.args.blocks.now.items) (progress_of c.result_columns.new.blocks.items c.result_columns.new.functions.items) (progress_of c.optional_condition.new.blocks.items c.optional_condition.new.functions.items) c.args.query.now r listed.adds kept.adds x) c.in_err-having.ensures)

pub block::bound_clauses-returns : goal.block::bound_clauses-returns
block::bound_clauses-returns t c =
    let listed : BindsList c.args.database.now c.args.scopes.now (place_of c.args.place) (record { blocks = map block_of c.args.blocks.now.items; functions = [] }) (progress_of c.result_columns.new.blocks.items c.result_columns.new.functions.items) (list_of c.args.query.now.list) (map item_of c.in_ok-items.field-0.items.items) (option_map value_type_of c.in_ok-items.field-0.only) = rw c.new-functions.ensures.items at c.in_ok-items.ensures in
    clauses_bound c.args.database.now c.args.scopes.now (place_of c.args.place) (map block_of c.args.blocks.now.items) (progress_of c.result_columns.new.blocks.items c.result_columns.new.functions.items) (progress_of c.optional_condition.new.blocks.items c.optional_condition.new.functions.items) (map block_of c.optional_condition-2.new.blocks.items) c.args.query.now _ listed c.in_ok-condition.ensures c.in_ok-having.ensures

pub block::optional_condition-returns-in_err-condition-in-Some :
    goal.block::optional_condition-returns-in_err-condition-in-Some
block::optional_condition-returns-in_err-condition-in-Some t c =
    let tree = ap condition_of c.in-Some.is in
    let f = c.in_err-condition-in-Some.field-0.0 in
    option_err c.args.clause.now (progress_of c.args.blocks.now.items c.args.functions.now.items) _ _ _ f (is_passed _ c.from_residual.ensures.1) (rw tree (if_some (bind_refusal f) _ _ (present_refused c.args.clause.now.database.now c.args.clause.now.scopes.now (place_of c.args.clause.now.place) (progress_of c.args.blocks.now.items c.args.functions.now.items) (expr_of c.in-Some.expr)) c.in_err-condition-in-Some.ensures))

pub block::optional_condition-returns-in_ok-condition-in-Some :
    goal.block::optional_condition-returns-in_ok-condition-in-Some
block::optional_condition-returns-in_ok-condition-in-Some t c =
    let tree = ap condition_of c.in-Some.is in
    rw tree (binds_present c.args.clause.now.database.now c.args.clause.now.scopes.now (place_of c.args.clause.now.place) (progress_of c.args.blocks.now.items c.args.functions.now.items) (progress_of c.condition.new.blocks.items c.condition.new.functions.items) (expr_of c.in-Some.expr) _ c.in_ok-condition-in-Some.ensures)

pub block::optional_condition-returns-in-None : goal.block::optional_condition-returns-in-None
block::optional_condition-returns-in-None t c =
    let tree = ap condition_of c.in-None.is in
    rw tree (binds_absent c.args.clause.now.database.now c.args.clause.now.scopes.now (place_of c.args.clause.now.place) (progress_of c.args.blocks.now.items c.args.functions.now.items) (few_blocks c.args.blocks.now.items c.requires.few))

pub items::result_columns-returns-in-Asterisk : goal.items::result_columns-returns-in-Asterisk
items::result_columns-returns-in-Asterisk t c =
    let tree = ap list_of c.in-Asterisk.is ∙ of_asterisk c.in-Asterisk.start in
    rw tree (binds_asterisk c.args.clause.now.database.now c.args.clause.now.scopes.now (place_of c.args.clause.now.place) (progress_of c.args.blocks.now.items c.args.functions.now.items) _ _ (few_blocks c.args.blocks.now.items c.requires.few) c.requires.sight (c.in_ok-all_columns-in-Asterisk.ensures.are c.args.clause.now.database.now) c.in_ok-all_columns-in-Asterisk.ensures.only)

pub items::result_columns-items-init : goal.items::result_columns-items-init
items::result_columns-items-init t c =
    rw c.new-items.ensures.items (refl, refl, begin_items c.args.clause.now.database.now c.args.clause.now.scopes.now (place_of c.args.clause.now.place) (progress_of c.args.blocks.now.items c.args.functions.now.items) (items (map listed_item_of c.deref-item-items.result.now)) (few_blocks c.args.blocks.now.items c.requires.few))

pub items::result_columns-value-requires : goal.items::result_columns-value-requires
items::result_columns-value-requires t c =
    let sight = c.requires.sight in
    let few = few_items c.items.blocks.items c.items.invariant.2.few in
    search (rules, the_lemmas, sight, few)

pub items::result_columns-returns-in_err-typed : goal.items::result_columns-returns-in_err-typed
items::result_columns-returns-in_err-typed t c =
    let tree = ap list_of c.in-Items.is ∙ of_items c.in-Items.list ∙ ap (λ xs. spec.Listed (items (map listed_item_of xs))) (sym c.deref-item-items.ensures.value) in
    let f = c.in_err-typed.field-0.0 in
    let x = c.item-item.result in
    let left = rw (next_item_tree c.deref-item-items.result.now c.items.item-index x c.items-test.true c.item-item.is) at c.items.invariant.2 in
    list_err c.args.clause.now (progress_of c.args.blocks.now.items c.args.functions.now.items) _ _ _ f (is_passed _ c.from_residual-in_err-typed.ensures.1)
    (rw tree (if_some (bind_refusal f) _ _ (λ r x'. fault_at_item c.args.clause.now.database.now c.args.clause.now.scopes.now (place_of c.args.clause.now.place) (progress_of c.args.blocks.now.items c.args.functions.now.items) (items (map listed_item_of c.deref-item-items.result.now)) (progress_of c.items.blocks.items c.items.functions.items) (map item_of c.items.items.items) (expr_of x.value) _ _ r left x') c.in_err-typed.ensures))

pub items::result_columns-items-preserved : goal.items::result_columns-items-preserved
items::result_columns-items-preserved t c =
    let x = c.item-item.result in
    let list = c.deref-item-items.result.now in
    let left = rw (next_item_tree list c.items.item-index x c.items-test.true c.item-item.is) at c.items.invariant.2 in
    let v : BindsValue c.args.clause.now.database.now c.args.clause.now.scopes.now (place_of c.args.clause.now.place) (progress_of c.items.blocks.items c.items.functions.items) (progress_of c.value.new.blocks.items c.value.new.functions.items) (expr_of x.value) (value_of c.in_ok-typed.typed.value) (value_type_of c.in_ok-typed.typed.value_type) = c.in_ok-typed.ensures in
    let counted = as_many_items c.items.items.items in
    let number : c.len.result + 1 ≡ length (map item_of c.items.items.items) + 1 = omega (arith, counted, c.len.ensures, c.items.items.ok.0) in
    let count : vec_len c.items.items ≡ c.items.item-index = omega (arith, c.items.items.ok.0, c.items.invariant.0) in
    let past = past_item c.args.clause.now.database.now c.args.clause.now.scopes.now (place_of c.args.clause.now.place) (progress_of c.args.blocks.now.items c.args.functions.now.items) (items (map listed_item_of list)) (progress_of c.items.blocks.items c.items.functions.items) (progress_of c.value.new.blocks.items c.value.new.functions.items) (map item_of c.items.items.items) (expr_of x.value) (option_map name_of x.alias) _ (value_type_of c.in_ok-typed.typed.value_type) (items (map listed_item_of (drop (c.items.item-index + 1) list))) _ left v
    (few_after c.args.clause.now.database.now c.args.clause.now.scopes.now (place_of c.args.clause.now.place) (progress_of c.items.blocks.items c.items.functions.items) (progress_of c.value.new.blocks.items c.value.new.functions.items) _ _ v.adds) (header_same x _ (c.len.result + 1) (length (map item_of c.items.items.items) + 1) c.in_ok-name.ensures number) in (
      rw c.in_ok-push.ensures.items (length_of_both c.items.items.items (_ ∷ []) ∙ ap (λ n. n + 1) c.items.invariant.0),
      elim c.if-is_empty.branch [
        | items::result_columns-then-is_empty w ↦ first_next c.args.clause.now.database.now c.args.clause.now.scopes.now (place_of c.args.clause.now.place) list c.items.item-index (vec_len c.items.items) x (value_type_of c.in_ok-typed.typed.value_type) _ c.items-test.true c.item-item.is (sym c.is_empty.ensures ∙ w.if-is_empty.true) count v.typed v.fine (ap (option_map value_type_of) w.only-is)
        | items::result_columns-else-is_empty w ↦ later_next c.args.clause.now.database.now c.args.clause.now.scopes.now (place_of c.args.clause.now.place) list c.items.item-index (vec_len c.items.items) x _ c.items-test.true c.item-item.is (sym c.is_empty.ensures ∙ w.if-is_empty.false) count (ap (option_map value_type_of) w.only-is)
      ],
      rw (c.in_ok-push.ensures.items, pushed_item c.items.items.items _) past,
    )

pub items::result_columns-returns : goal.items::result_columns-returns
items::result_columns-returns t c =
    let tree = ap list_of c.in-Items.is ∙ of_items c.in-Items.list ∙ ap (λ xs. spec.Listed (items (map listed_item_of xs))) (sym c.deref-item-items.ensures.value) in
    let left = rw (no_item_tree c.deref-item-items.result.now c.items.item-index c.items-test.false) at c.items.invariant.2 in
    let all = ap (map listed_item_of) (take_all c.items.item-index c.deref-item-items.result.now c.items-test.false) ∙ sym (all_listed (map listed_item_of c.deref-item-items.result.now)) in
    rw tree (binds_listed c.args.clause.now.database.now c.args.clause.now.scopes.now (place_of c.args.clause.now.place) (progress_of c.args.blocks.now.items c.args.functions.now.items) (progress_of c.items.blocks.items c.items.functions.items) (items (map listed_item_of c.deref-item-items.result.now)) (map item_of c.items.items.items) (option_map value_type_of c.items.only) left (subst (λ xs. IsOnly c.args.clause.now.database.now c.args.clause.now.scopes.now xs (option_map value_type_of c.items.only)) all c.items.invariant.1))

-- src/condition.rt:201:5
pub condition::bound_members-members-init : goal.condition::bound_members-members-init
condition::bound_members-members-init t c =
    rw c.new-bound.ensures.items (begin_members c.args.clause.now.database.now c.args.clause.now.scopes.now (place_of c.args.clause.now.place) (progress_of c.args.blocks.now.items c.args.functions.now.items) (value_type_of c.args.value_type) (member_list (map member_of c.deref-member-items.result.now)) (few_blocks c.args.blocks.now.items c.requires.few))

-- src/condition.rt:204:29
pub condition::bound_members-value-requires : goal.condition::bound_members-value-requires
condition::bound_members-value-requires t c =
    let sight = c.requires.sight in let few = few_items c.members.blocks.items c.members.invariant.few in search (rules, the_lemmas, sight, few)

-- src/condition.rt:204:29
pub condition::bound_members-returns-in_err-typed-in-Some :
    goal.condition::bound_members-returns-in_err-typed-in-Some
condition::bound_members-returns-in_err-typed-in-Some t c =
    let tree = ap expr_of c.in-InList.is ∙ of_in_list c.in-InList.start c.in-InList.negated c.in-InList.value c.in-InList.members ∙ ap (λ xs. spec.InList c.in-InList.negated (expr_of c.in-InList.value.value) (member_list (map member_of xs))) (sym c.deref-member-items.ensures.value) in
    let left : MembersLeft c.args.clause.now.database.now c.args.clause.now.scopes.now (place_of c.args.clause.now.place) (progress_of c.args.blocks.now.items c.args.functions.now.items) (value_type_of c.args.value_type) (member_list (map member_of c.deref-member-items.result.now)) (progress_of c.members.blocks.items c.members.functions.items) (map bound_member_of c.members.bound.items) (spec.Member (expr_of c.in-Some.expr) (member_list (map member_of (drop (c.members.member-index + 1) c.deref-member-items.result.now)))) = rw (next_member_tree c.deref-member-items.result.now c.members.member-index c.member-item.result c.members-test.true c.member-item.is, c.in-Some.is) at c.members.invariant in
    let f = c.in_err-typed-in-Some.field-0.0 in
    members_err c.args.clause.now (progress_of c.args.blocks.now.items c.args.functions.now.items) _ c.args.value_type _ _ f (is_passed _ c.from_residual.ensures.1) (rw tree (if_some (bind_refusal f) _ _ (λ r e. fault_at_value c.args.clause.now.database.now c.args.clause.now.scopes.now (place_of c.args.clause.now.place) (progress_of c.args.blocks.now.items c.args.functions.now.items) (value_type_of c.args.value_type) (member_list (map member_of c.deref-member-items.result.now)) (progress_of c.members.blocks.items c.members.functions.items) (map bound_member_of c.members.bound.items) (expr_of c.in-Some.expr) (member_list (map member_of (drop (c.members.member-index + 1) c.deref-member-items.result.now))) r left e) c.in_err-typed-in-Some.ensures))

-- src/condition.rt:205:17
pub condition::bound_members-returns-in_err-judge_kinds-in-Some :
    goal.condition::bound_members-returns-in_err-judge_kinds-in-Some
condition::bound_members-returns-in_err-judge_kinds-in-Some t c =
    let tree = ap expr_of c.in-InList.is ∙ of_in_list c.in-InList.start c.in-InList.negated c.in-InList.value c.in-InList.members ∙ ap (λ xs. spec.InList c.in-InList.negated (expr_of c.in-InList.value.value) (member_list (map member_of xs))) (sym c.deref-member-items.ensures.value) in
    let left : MembersLeft c.args.clause.now.database.now c.args.clause.now.scopes.now (place_of c.args.clause.now.place) (progress_of c.args.blocks.now.items c.args.functions.now.items) (value_type_of c.args.value_type) (member_list (map member_of c.deref-member-items.result.now)) (progress_of c.members.blocks.items c.members.functions.items) (map bound_member_of c.members.bound.items) (spec.Member (expr_of c.in-Some.expr) (member_list (map member_of (drop (c.members.member-index + 1) c.deref-member-items.result.now)))) = rw (next_member_tree c.deref-member-items.result.now c.members.member-index c.member-item.result c.members-test.true c.member-item.is, c.in-Some.is) at c.members.invariant in
    let q = c.in_err-judge_kinds-in-Some.field-0.0 in
    members_refused c.args.clause.now (progress_of c.args.blocks.now.items c.args.functions.now.items) _ c.args.value_type _ _ q MixedKinds (is_refused _ q c.from_residual-in_err-judge_kinds-in-Some.ensures) c.in_err-judge_kinds-in-Some.ensures.refused
    (rw tree (kinds_at_value c.args.clause.now.database.now c.args.clause.now.scopes.now (place_of c.args.clause.now.place) (progress_of c.args.blocks.now.items c.args.functions.now.items) (value_type_of c.args.value_type) (value_type_of c.in_ok-typed-in-Some.typed.value_type) (member_list (map member_of c.deref-member-items.result.now)) (progress_of c.members.blocks.items c.members.functions.items) (progress_of c.value.new.blocks.items c.value.new.functions.items) (map bound_member_of c.members.bound.items) (expr_of c.in-Some.expr) (value_of c.in_ok-typed-in-Some.typed.value) (member_list (map member_of (drop (c.members.member-index + 1) c.deref-member-items.result.now))) left c.in_ok-typed-in-Some.ensures c.in_err-judge_kinds-in-Some.ensures.apart))

-- src/condition.rt:201:5
pub condition::bound_members-members-preserved : goal.condition::bound_members-members-preserved
condition::bound_members-members-preserved t c =
    elim c.match-member.branch [
      | condition::bound_members-in-Some+in_ok-typed-in-Some+in_ok-push-in-Some+in_ok-judge_kinds-in-Some w ↦ let left : MembersLeft c.args.clause.now.database.now c.args.clause.now.scopes.now (place_of c.args.clause.now.place) (progress_of c.args.blocks.now.items c.args.functions.now.items) (value_type_of c.args.value_type) (member_list (map member_of c.deref-member-items.result.now)) (progress_of c.members.blocks.items c.members.functions.items) (map bound_member_of c.members.bound.items) (spec.Member (expr_of w.in-Some.expr) (member_list (map member_of (drop (c.members.member-index + 1) c.deref-member-items.result.now)))) = rw (next_member_tree c.deref-member-items.result.now c.members.member-index c.member-item.result c.members-test.true c.member-item.is, w.in-Some.is) at c.members.invariant in
          rw (w.blocks-is, w.functions-is, w.bound-is, w.in_ok-push-in-Some.ensures.items, pushed_member c.members.bound.items (Some w.in_ok-typed-in-Some.typed.value))
          (past_value c.args.clause.now.database.now c.args.clause.now.scopes.now (place_of c.args.clause.now.place) (progress_of c.args.blocks.now.items c.args.functions.now.items) (value_type_of c.args.value_type) (value_type_of w.in_ok-typed-in-Some.typed.value_type) (member_list (map member_of c.deref-member-items.result.now)) (progress_of c.members.blocks.items c.members.functions.items) (progress_of w.value.new.blocks.items w.value.new.functions.items) (map bound_member_of c.members.bound.items) (expr_of w.in-Some.expr) (value_of w.in_ok-typed-in-Some.typed.value) (member_list (map member_of (drop (c.members.member-index + 1) c.deref-member-items.result.now))) left w.in_ok-typed-in-Some.ensures w.in_ok-judge_kinds-in-Some.ensures.alike (few_after c.args.clause.now.database.now c.args.clause.now.scopes.now (place_of c.args.clause.now.place) (progress_of c.members.blocks.items c.members.functions.items) (progress_of w.value.new.blocks.items w.value.new.functions.items) _ _ w.in_ok-typed-in-Some.ensures.adds))
      | condition::bound_members-in-None+in_ok-push-in-None w ↦ let left : MembersLeft c.args.clause.now.database.now c.args.clause.now.scopes.now (place_of c.args.clause.now.place) (progress_of c.args.blocks.now.items c.args.functions.now.items) (value_type_of c.args.value_type) (member_list (map member_of c.deref-member-items.result.now)) (progress_of c.members.blocks.items c.members.functions.items) (map bound_member_of c.members.bound.items) (spec.NullMember (member_list (map member_of (drop (c.members.member-index + 1) c.deref-member-items.result.now)))) = rw (next_member_tree c.deref-member-items.result.now c.members.member-index c.member-item.result c.members-test.true c.member-item.is, w.in-None.is) at c.members.invariant in
          rw (w.blocks-is, w.functions-is, w.bound-is, w.in_ok-push-in-None.ensures.items, pushed_member c.members.bound.items None) (past_null c.args.clause.now.database.now c.args.clause.now.scopes.now (place_of c.args.clause.now.place) (progress_of c.args.blocks.now.items c.args.functions.now.items) (value_type_of c.args.value_type) (member_list (map member_of c.deref-member-items.result.now)) (progress_of c.members.blocks.items c.members.functions.items) (map bound_member_of c.members.bound.items) (member_list (map member_of (drop (c.members.member-index + 1) c.deref-member-items.result.now))) left)
    ]

-- src/condition.rt:188:1
pub condition::bound_members-returns : goal.condition::bound_members-returns
condition::bound_members-returns t c =
    let tree = ap expr_of c.in-InList.is ∙ of_in_list c.in-InList.start c.in-InList.negated c.in-InList.value c.in-InList.members ∙ ap (λ xs. spec.InList c.in-InList.negated (expr_of c.in-InList.value.value) (member_list (map member_of xs))) (sym c.deref-member-items.ensures.value) in
    let left : MembersLeft c.args.clause.now.database.now c.args.clause.now.scopes.now (place_of c.args.clause.now.place) (progress_of c.args.blocks.now.items c.args.functions.now.items) (value_type_of c.args.value_type) (member_list (map member_of c.deref-member-items.result.now)) (progress_of c.members.blocks.items c.members.functions.items) (map bound_member_of c.members.bound.items) spec.NoMember = rw (no_member_tree c.deref-member-items.result.now c.members.member-index c.members-test.false) at c.members.invariant in
    rw tree (end_members c.args.clause.now.database.now c.args.clause.now.scopes.now (place_of c.args.clause.now.place) (progress_of c.args.blocks.now.items c.args.functions.now.items) (value_type_of c.args.value_type) (member_list (map member_of c.deref-member-items.result.now)) (progress_of c.members.blocks.items c.members.functions.items) (map bound_member_of c.members.bound.items) left)

-- src/condition.rt:225:11
pub condition::column_of_query-returns-in_err-block :
    goal.condition::column_of_query-returns-in_err-block
condition::column_of_query-returns-in_err-block t c =
    λ functions.
    let f = c.in_err-block.field-0.0 in
    let inner : IfSome (bind_refusal f) (RefusesQuery c.args.clause.now.database.now c.args.clause.now.scopes.now (place_of c.args.clause.now.place) (record { blocks = map block_of c.args.blocks.now.items; functions = functions }) (query_of c.args.query.now)) = c.in_err-block.ensures functions in
    column_err c.args.clause.now (record { blocks = map block_of c.args.blocks.now.items; functions = functions }) _ _ _ f (is_passed _ c.from_residual.ensures.1) (if_some (bind_refusal f) _ (RefusesColumn c.args.clause.now.database.now c.args.clause.now.scopes.now (place_of c.args.clause.now.place) (record { blocks = map block_of c.args.blocks.now.items; functions = functions }) (query_of c.args.query.now)) (λ r e. inl e) inner)

-- src/condition.rt:215:1
pub condition::column_of_query-returns-in_default-Some :
    goal.condition::column_of_query-returns-in_default-Some
condition::column_of_query-returns-in_default-Some t c =
    λ functions.
    let query : BindsQuery c.args.clause.now.database.now c.args.clause.now.scopes.now (place_of c.args.clause.now.place) (record { blocks = map block_of c.args.blocks.now.items; functions = functions }) (record { blocks = map block_of c.inner_block.new.blocks.items; functions = functions }) (query_of c.args.query.now) c.in_ok-block.field-0.0 (Some (value_type_of c.in_default-Some.value_type)) = rw c.in_default-Some.is-1 at (c.in_ok-block.ensures functions) in
    one_column c.args.clause.now.database.now c.args.clause.now.scopes.now (place_of c.args.clause.now.place) (record { blocks = map block_of c.args.blocks.now.items; functions = functions }) (record { blocks = map block_of c.inner_block.new.blocks.items; functions = functions }) (query_of c.args.query.now) c.in_ok-block.field-0.0 _ query

-- src/condition.rt:215:1
pub condition::column_of_query-returns-in_default-None :
    goal.condition::column_of_query-returns-in_default-None
condition::column_of_query-returns-in_default-None t c =
    λ functions.
    let query : BindsQuery c.args.clause.now.database.now c.args.clause.now.scopes.now (place_of c.args.clause.now.place) (record { blocks = map block_of c.args.blocks.now.items; functions = functions }) (record { blocks = map block_of c.inner_block.new.blocks.items; functions = functions }) (query_of c.args.query.now) c.in_ok-block.field-0.0 None = rw c.in_default-None.is-1 at (c.in_ok-block.ensures functions) in
    not_one_column c.args.clause.now.database.now c.args.clause.now.scopes.now (place_of c.args.clause.now.place) (record { blocks = map block_of c.args.blocks.now.items; functions = functions }) (record { blocks = map block_of c.inner_block.new.blocks.items; functions = functions }) (query_of c.args.query.now) c.in_ok-block.field-0.0 query

-- src/condition.rt:41:27
-- src/condition.rt:50:24
-- src/condition.rt:51:25
-- src/condition.rt:51:25
-- src/condition.rt:52:13
-- src/condition.rt:66:24
-- src/condition.rt:67:39
-- src/condition.rt:67:39
-- src/condition.rt:68:13
-- src/condition.rt:81:25
-- src/condition.rt:94:25
-- src/condition.rt:95:23
-- src/condition.rt:95:23
-- src/condition.rt:96:24
-- src/condition.rt:96:24
-- src/condition.rt:97:13
-- src/condition.rt:98:13
-- src/condition.rt:112:25
-- src/condition.rt:114:17
-- src/condition.rt:129:17
-- src/condition.rt:131:25
-- src/condition.rt:132:27
-- src/condition.rt:132:27
-- src/condition.rt:145:25
-- src/condition.rt:146:39
-- src/condition.rt:146:39
-- src/condition.rt:147:13
-- src/condition.rt:155:30
-- src/condition.rt:25:1
-- src/condition.rt:25:1
-- src/condition.rt:25:1
-- src/condition.rt:25:1
-- src/condition.rt:25:1
-- src/condition.rt:25:1
-- src/condition.rt:25:1
-- src/condition.rt:25:1
-- src/condition.rt:25:1
-- src/condition.rt:245:24
pub condition::inner_block-returns-in_err-only-in-Where :
    goal.condition::inner_block-returns-in_err-only-in-Where
condition::inner_block-returns-in_err-only-in-Where t c =
    λ functions.
    let f = c.in_err-only-in-Where.field-0.0 in
    let inner : IfSome (bind_refusal f) (RefusesBlock c.args.clause.now.database.now c.args.clause.now.scopes.now (map block_of c.args.blocks.now.items) (query_of c.args.query.now)) = c.in_err-only-in-Where.ensures in
    query_err c.args.clause.now (record { blocks = map block_of c.args.blocks.now.items; functions = functions }) _ _ _ f (is_passed _ c.from_residual.ensures.1) (if_some (bind_refusal f) _ _ (query_refused c.args.clause.now.database.now c.args.clause.now.scopes.now (place_of c.args.clause.now.place) (record { blocks = map block_of c.args.blocks.now.items; functions = functions }) (query_of c.args.query.now)) inner)

-- src/condition.rt:232:1
pub condition::inner_block-returns-in_ok-only-in-Where :
    goal.condition::inner_block-returns-in_ok-only-in-Where
condition::inner_block-returns-in_ok-only-in-Where t c =
    λ functions. query_in_where c.args.clause.now.database.now c.args.clause.now.scopes.now (place_of c.args.clause.now.place) (map block_of c.args.blocks.now.items) (map block_of c.block.new.blocks.items) functions (query_of c.args.query.now) c.len-number.result _ (ap place_of c.in-Where.is) (let k = as_many_blocks c.args.blocks.now.items in let l = c.len-number.ensures in omega (arith, k, l)) c.in_ok-only-in-Where.ensures

-- src/condition.rt:232:1
pub condition::inner_block-returns-in_default : goal.condition::inner_block-returns-in_default
condition::inner_block-returns-in_default t c =
    λ functions. query_misplaced c.args.clause.now.database.now c.args.clause.now.scopes.now (place_of c.args.clause.now.place) (record { blocks = map block_of c.args.blocks.now.items; functions = functions }) (query_of c.args.query.now) (not_where c.args.clause.now.place c.in_default.not-Where)

-- src/condition.rt:177:16
pub condition::logical-returns-in_err-condition : goal.condition::logical-returns-in_err-condition
condition::logical-returns-in_err-condition t c =
    let tree = ap expr_of c.in-Line.is ∙ of_line c.in-Line.first c.in-Line.others in
    let kind = line_is c.args.line.now true c.in-Line.first c.in-Line.others c.requires.logical c.in-Line.is in
    let f = c.in_err-condition.field-0.0 in
    let inner : IfSome (bind_refusal f) (RefusesCondition c.args.clause.now.database.now c.args.clause.now.scopes.now (place_of c.args.clause.now.place) (progress_of c.args.blocks.now.items c.args.functions.now.items) (expr_of c.in-Line.first.value)) = rw c.deref.ensures at c.in_err-condition.ensures in
    condition_err c.args.clause.now (progress_of c.args.blocks.now.items c.args.functions.now.items) _ _ _ f (is_passed _ c.from_residual.ensures.1) (rw tree (if_some (bind_refusal f) _ _ (λ r e. logical_first c.args.clause.now.database.now c.args.clause.now.scopes.now (place_of c.args.clause.now.place) (progress_of c.args.blocks.now.items c.args.functions.now.items) (expr_of c.in-Line.first.value) (operands (map operand_of c.in-Line.others.items)) r kind e) inner))

-- src/condition.rt:178:5
pub condition::logical-operands-init : goal.condition::logical-operands-init
condition::logical-operands-init t c =
    let h : BindsCondition c.args.clause.now.database.now c.args.clause.now.scopes.now (place_of c.args.clause.now.place) (progress_of c.args.blocks.now.items c.args.functions.now.items) (progress_of c.condition.new.blocks.items c.condition.new.functions.items) (expr_of c.in-Line.first.value) (bound_condition_of c.in_ok-condition.field-0) = rw c.deref.ensures at c.in_ok-condition.ensures in
    ([], sym (nothing_more _), begin_parts c.args.clause.now.database.now c.args.clause.now.scopes.now (place_of c.args.clause.now.place) (progress_of c.condition.new.blocks.items c.condition.new.functions.items) (operands (map operand_of c.deref-operand-items.result.now)) (few_after c.args.clause.now.database.now c.args.clause.now.scopes.now (place_of c.args.clause.now.place) (progress_of c.args.blocks.now.items c.args.functions.now.items) (progress_of c.condition.new.blocks.items c.condition.new.functions.items) _ _ h.adds))

-- src/condition.rt:179:20
pub condition::logical-condition-requires-in-operands :
    goal.condition::logical-condition-requires-in-operands
condition::logical-condition-requires-in-operands t c =
    let sight = c.requires.sight in let few = few_items c.operands.blocks.items c.operands.invariant.2.few in search (rules, the_lemmas, sight, few)

-- src/condition.rt:179:20
pub condition::logical-returns-in_err-condition-2 :
    goal.condition::logical-returns-in_err-condition-2
condition::logical-returns-in_err-condition-2 t c =
    let tree = ap expr_of c.in-Line.is ∙ of_line c.in-Line.first c.in-Line.others ∙ ap (λ xs. spec.Line (expr_of c.in-Line.first.value) (operands (map operand_of xs))) (sym c.deref-operand-items.ensures.value) in
    let kind : is_logical (operands (map operand_of c.deref-operand-items.result.now)) ≡ true = rw c.deref-operand-items.ensures.value (line_is c.args.line.now true c.in-Line.first c.in-Line.others c.requires.logical c.in-Line.is) in
    let h : BindsCondition c.args.clause.now.database.now c.args.clause.now.scopes.now (place_of c.args.clause.now.place) (progress_of c.args.blocks.now.items c.args.functions.now.items) (progress_of c.condition.new.blocks.items c.condition.new.functions.items) (expr_of c.in-Line.first.value) (bound_condition_of c.in_ok-condition.field-0) = rw c.deref.ensures at c.in_ok-condition.ensures in
    let left : PartsLeft c.args.clause.now.database.now c.args.clause.now.scopes.now (place_of c.args.clause.now.place) (progress_of c.condition.new.blocks.items c.condition.new.functions.items) (operands (map operand_of c.deref-operand-items.result.now)) (progress_of c.operands.blocks.items c.operands.functions.items) c.operands.invariant.0 (spec.Operand (operator_of c.operand-item.result.operator) (expr_of c.operand-item.result.value) (operands (map operand_of (drop (c.operands.operand-index + 1) c.deref-operand-items.result.now)))) = rw (next_tree c.deref-operand-items.result.now c.operands.operand-index c.operand-item.result c.operands-test.true c.operand-item.is) at c.operands.invariant.2 in
    let f = c.in_err-condition-2.field-0.0 in
    condition_err c.args.clause.now (progress_of c.args.blocks.now.items c.args.functions.now.items) _ _ _ f (is_passed _ c.from_residual-in_err-condition-2.ensures.1) (rw tree (if_some (bind_refusal f) _ _ (λ r e. logical_parts c.args.clause.now.database.now c.args.clause.now.scopes.now (place_of c.args.clause.now.place) (progress_of c.args.blocks.now.items c.args.functions.now.items) (progress_of c.condition.new.blocks.items c.condition.new.functions.items) (expr_of c.in-Line.first.value) (operands (map operand_of c.deref-operand-items.result.now)) (bound_condition_of c.in_ok-condition.field-0) r kind h (fault_at_part c.args.clause.now.database.now c.args.clause.now.scopes.now (place_of c.args.clause.now.place) (progress_of c.condition.new.blocks.items c.condition.new.functions.items) (operands (map operand_of c.deref-operand-items.result.now)) (progress_of c.operands.blocks.items c.operands.functions.items) c.operands.invariant.0 (operator_of c.operand-item.result.operator) (expr_of c.operand-item.result.value) (operands (map operand_of (drop (c.operands.operand-index + 1) c.deref-operand-items.result.now))) r left e)) c.in_err-condition-2.ensures))

-- src/condition.rt:178:5
pub condition::logical-operands-preserved : goal.condition::logical-operands-preserved
condition::logical-operands-preserved t c =
    let left : PartsLeft c.args.clause.now.database.now c.args.clause.now.scopes.now (place_of c.args.clause.now.place) (progress_of c.condition.new.blocks.items c.condition.new.functions.items) (operands (map operand_of c.deref-operand-items.result.now)) (progress_of c.operands.blocks.items c.operands.functions.items) c.operands.invariant.0 (spec.Operand (operator_of c.operand-item.result.operator) (expr_of c.operand-item.result.value) (operands (map operand_of (drop (c.operands.operand-index + 1) c.deref-operand-items.result.now)))) = rw (next_tree c.deref-operand-items.result.now c.operands.operand-index c.operand-item.result c.operands-test.true c.operand-item.is) at c.operands.invariant.2 in
    (c.operands.invariant.0 ++ bound_condition_of c.in_ok-condition-2.field-0 ∷ [], ap (map bound_condition_of) c.in_ok-push-2.ensures.items ∙ pushed_condition c.operands.parts.items c.in_ok-condition-2.field-0 ∙ ap (λ xs. xs ++ bound_condition_of c.in_ok-condition-2.field-0 ∷ []) c.operands.invariant.1 ∙ append_assoc (map bound_condition_of c.push.new.self.items) c.operands.invariant.0 (bound_condition_of c.in_ok-condition-2.field-0 ∷ []), past_part c.args.clause.now.database.now c.args.clause.now.scopes.now (place_of c.args.clause.now.place) (progress_of c.condition.new.blocks.items c.condition.new.functions.items) (operands (map operand_of c.deref-operand-items.result.now)) (progress_of c.operands.blocks.items c.operands.functions.items) (progress_of c.condition-in-operands.new.blocks.items c.condition-in-operands.new.functions.items) c.operands.invariant.0 (operator_of c.operand-item.result.operator) (expr_of c.operand-item.result.value) (bound_condition_of c.in_ok-condition-2.field-0) (operands (map operand_of (drop (c.operands.operand-index + 1) c.deref-operand-items.result.now))) left c.in_ok-condition-2.ensures (few_after c.args.clause.now.database.now c.args.clause.now.scopes.now (place_of c.args.clause.now.place) (progress_of c.operands.blocks.items c.operands.functions.items) (progress_of c.condition-in-operands.new.blocks.items c.condition-in-operands.new.functions.items) _ _ c.in_ok-condition-2.ensures.adds))

-- src/condition.rt:163:1
pub condition::logical-returns-in-And : goal.condition::logical-returns-in-And
condition::logical-returns-in-And t c =
    let tree = ap expr_of c.in-Line.is ∙ of_line c.in-Line.first c.in-Line.others ∙ ap (λ xs. spec.Line (expr_of c.in-Line.first.value) (operands (map operand_of xs))) (sym c.deref-operand-items.ensures.value) in
    let kind : is_logical (operands (map operand_of c.deref-operand-items.result.now)) ≡ true = rw c.deref-operand-items.ensures.value (line_is c.args.line.now true c.in-Line.first c.in-Line.others c.requires.logical c.in-Line.is) in
    let h : BindsCondition c.args.clause.now.database.now c.args.clause.now.scopes.now (place_of c.args.clause.now.place) (progress_of c.args.blocks.now.items c.args.functions.now.items) (progress_of c.condition.new.blocks.items c.condition.new.functions.items) (expr_of c.in-Line.first.value) (bound_condition_of c.in_ok-condition.field-0) = rw c.deref.ensures at c.in_ok-condition.ensures in
    let left : PartsLeft c.args.clause.now.database.now c.args.clause.now.scopes.now (place_of c.args.clause.now.place) (progress_of c.condition.new.blocks.items c.condition.new.functions.items) (operands (map operand_of c.deref-operand-items.result.now)) (progress_of c.operands.blocks.items c.operands.functions.items) c.operands.invariant.0 spec.NoOperand = rw (no_tree c.deref-operand-items.result.now c.operands.operand-index c.operands-test.false) at c.operands.invariant.2 in
    let are : map bound_condition_of c.operands.parts.items ≡ bound_condition_of c.in_ok-condition.field-0 ∷ c.operands.invariant.0 = c.operands.invariant.1 ∙ ap (λ xs. map bound_condition_of xs ++ c.operands.invariant.0) (c.in_ok-push.ensures.items ∙ ap (λ ys. ys ++ c.in_ok-condition.field-0 ∷ []) c.new-parts.ensures.items) in
    let whole = binds_logical c.args.clause.now.database.now c.args.clause.now.scopes.now (place_of c.args.clause.now.place) (progress_of c.args.blocks.now.items c.args.functions.now.items) (progress_of c.condition.new.blocks.items c.condition.new.functions.items) (progress_of c.operands.blocks.items c.operands.functions.items) (expr_of c.in-Line.first.value) (operands (map operand_of c.deref-operand-items.result.now)) (bound_condition_of c.in_ok-condition.field-0) c.operands.invariant.0 kind h (end_parts c.args.clause.now.database.now c.args.clause.now.scopes.now (place_of c.args.clause.now.place) (progress_of c.condition.new.blocks.items c.condition.new.functions.items) (operands (map operand_of c.deref-operand-items.result.now)) (progress_of c.operands.blocks.items c.operands.functions.items) c.operands.invariant.0 left) in
    let joined : connected (operands (map operand_of c.deref-operand-items.result.now)) (b.Part (bound_condition_of c.in_ok-condition.field-0) (conditions c.operands.invariant.0)) ≡ b.And (b.Part (bound_condition_of c.in_ok-condition.field-0) (conditions c.operands.invariant.0)) = rw c.deref-operand-items.ensures.value (connected_and c.in-Line.others.items c.index.result.now (b.Part (bound_condition_of c.in_ok-condition.field-0) (conditions c.operands.invariant.0)) (search rules) (others_there c.in-Line.others.items (line_is c.args.line.now true c.in-Line.first c.in-Line.others c.requires.logical c.in-Line.is)) c.in-And.is) in
    rw (tree, bound_and c.operands.parts, are) (subst (BindsCondition c.args.clause.now.database.now c.args.clause.now.scopes.now (place_of c.args.clause.now.place) (progress_of c.args.blocks.now.items c.args.functions.now.items) (progress_of c.operands.blocks.items c.operands.functions.items) (spec.Line (expr_of c.in-Line.first.value) (operands (map operand_of c.deref-operand-items.result.now)))) joined whole)

-- src/value.rt:94:17
pub value::chain-returns-in_err-typed : goal.value::chain-returns-in_err-typed
value::chain-returns-in_err-typed t c =
    let tree = ap expr_of c.in-Line.is ∙ of_line c.in-Line.first c.in-Line.others in
    let kind = line_is c.args.line.now false c.in-Line.first c.in-Line.others c.requires.arithmetic c.in-Line.is in
    let f = c.in_err-typed.field-0.0 in
    let inner : IfSome (bind_refusal f) (RefusesValue c.args.clause.now.database.now c.args.clause.now.scopes.now (place_of c.args.clause.now.place) (progress_of c.args.blocks.now.items c.args.functions.now.items) (expr_of c.in-Line.first.value)) = rw c.deref.ensures at c.in_err-typed.ensures in
    value_err c.args.clause.now (progress_of c.args.blocks.now.items c.args.functions.now.items) _ _ _ f (is_passed _ c.from_residual.ensures.1) (rw tree (if_some (bind_refusal f) _ _ (λ r e. chain_first c.args.clause.now.database.now c.args.clause.now.scopes.now (place_of c.args.clause.now.place) (progress_of c.args.blocks.now.items c.args.functions.now.items) (expr_of c.in-Line.first.value) (operands (map operand_of c.in-Line.others.items)) r kind e) inner))

-- src/value.rt:95:21
pub value::chain-returns-in_err-scale : goal.value::chain-returns-in_err-scale
value::chain-returns-in_err-scale t c =
    let tree = ap expr_of c.in-Line.is ∙ of_line c.in-Line.first c.in-Line.others in
    let kind = line_is c.args.line.now false c.in-Line.first c.in-Line.others c.requires.arithmetic c.in-Line.is in
    let q = c.in_err-scale.field-0.0 in
    let first : BindsValue c.args.clause.now.database.now c.args.clause.now.scopes.now (place_of c.args.clause.now.place) (progress_of c.args.blocks.now.items c.args.functions.now.items) (progress_of c.value.new.blocks.items c.value.new.functions.items) (expr_of c.in-Line.first.value) (value_of c.in_ok-typed.typed.value) TextType = rw (c.deref.ensures, c.in_err-scale.ensures.text) at c.in_ok-typed.ensures in
    value_refused c.args.clause.now (progress_of c.args.blocks.now.items c.args.functions.now.items) _ _ _ q MixedKinds (is_refused _ q c.from_residual-in_err-scale.ensures) c.in_err-scale.ensures.refused
    (rw tree (chain_text c.args.clause.now.database.now c.args.clause.now.scopes.now (place_of c.args.clause.now.place) (progress_of c.args.blocks.now.items c.args.functions.now.items) (progress_of c.value.new.blocks.items c.value.new.functions.items) (expr_of c.in-Line.first.value) (operands (map operand_of c.in-Line.others.items)) _ kind first))

-- src/value.rt:98:5
pub value::chain-operands-init : goal.value::chain-operands-init
value::chain-operands-init t c =
    let h : BindsValue c.args.clause.now.database.now c.args.clause.now.scopes.now (place_of c.args.clause.now.place) (progress_of c.args.blocks.now.items c.args.functions.now.items) (progress_of c.value.new.blocks.items c.value.new.functions.items) (expr_of c.in-Line.first.value) (value_of c.in_ok-typed.typed.value) (NumberType c.in_ok-scale.scale) = rw (c.deref.ensures, c.in_ok-scale.ensures.ok) at c.in_ok-typed.ensures in
    rw c.new-joined.ensures.items (begin_operands c.args.clause.now.database.now c.args.clause.now.scopes.now (place_of c.args.clause.now.place) (progress_of c.value.new.blocks.items c.value.new.functions.items) c.in_ok-scale.scale (operands (map operand_of c.deref-operand-items.result.now)) (few_after c.args.clause.now.database.now c.args.clause.now.scopes.now (place_of c.args.clause.now.place) (progress_of c.args.blocks.now.items c.args.functions.now.items) (progress_of c.value.new.blocks.items c.value.new.functions.items) _ _ h.adds) h.fine)

-- src/value.rt:99:21
pub value::chain-value-requires-in-operands : goal.value::chain-value-requires-in-operands
value::chain-value-requires-in-operands t c =
    let sight = c.requires.sight in let few = few_items c.operands.blocks.items c.operands.invariant.few in search (rules, the_lemmas, sight, few)

-- src/value.rt:99:21
pub value::chain-returns-in_err-typed-2 : goal.value::chain-returns-in_err-typed-2
value::chain-returns-in_err-typed-2 t c =
    let tree = ap expr_of c.in-Line.is ∙ of_line c.in-Line.first c.in-Line.others ∙ ap (λ xs. spec.Line (expr_of c.in-Line.first.value) (operands (map operand_of xs))) (sym c.deref-operand-items.ensures.value) in
    let kind : is_logical (operands (map operand_of c.deref-operand-items.result.now)) ≡ false = rw c.deref-operand-items.ensures.value (line_is c.args.line.now false c.in-Line.first c.in-Line.others c.requires.arithmetic c.in-Line.is) in
    let h : BindsValue c.args.clause.now.database.now c.args.clause.now.scopes.now (place_of c.args.clause.now.place) (progress_of c.args.blocks.now.items c.args.functions.now.items) (progress_of c.value.new.blocks.items c.value.new.functions.items) (expr_of c.in-Line.first.value) (value_of c.in_ok-typed.typed.value) (NumberType c.in_ok-scale.scale) = rw (c.deref.ensures, c.in_ok-scale.ensures.ok) at c.in_ok-typed.ensures in
    let x = c.operand-item.result in
    let left : OperandsLeft c.args.clause.now.database.now c.args.clause.now.scopes.now (place_of c.args.clause.now.place) (progress_of c.value.new.blocks.items c.value.new.functions.items) c.in_ok-scale.scale (operands (map operand_of c.deref-operand-items.result.now)) (progress_of c.operands.blocks.items c.operands.functions.items) c.operands.scale (map bound_operand_of c.operands.joined.items) (spec.Operand (operator_of x.operator) (expr_of x.value) (operands (map operand_of (drop (c.operands.operand-index + 1) c.deref-operand-items.result.now)))) =
    rw (next_tree c.deref-operand-items.result.now c.operands.operand-index x c.operands-test.true c.operand-item.is) at c.operands.invariant in
    let f = c.in_err-typed-2.field-0.0 in
    value_err c.args.clause.now (progress_of c.args.blocks.now.items c.args.functions.now.items) _ _ _ f (is_passed _ c.from_residual-in_err-typed-2.ensures.1)
    (rw tree (if_some (bind_refusal f) _ _ (λ r e. chain_operands c.args.clause.now.database.now c.args.clause.now.scopes.now (place_of c.args.clause.now.place) (progress_of c.args.blocks.now.items c.args.functions.now.items) (progress_of c.value.new.blocks.items c.value.new.functions.items) (expr_of c.in-Line.first.value) (operands (map operand_of c.deref-operand-items.result.now)) _ c.in_ok-scale.scale r kind h (fault_at_operand c.args.clause.now.database.now c.args.clause.now.scopes.now (place_of c.args.clause.now.place) (progress_of c.value.new.blocks.items c.value.new.functions.items) c.in_ok-scale.scale (operands (map operand_of c.deref-operand-items.result.now)) (progress_of c.operands.blocks.items c.operands.functions.items) c.operands.scale (map bound_operand_of c.operands.joined.items) (operator_of x.operator) (expr_of x.value) (operands (map operand_of (drop (c.operands.operand-index + 1) c.deref-operand-items.result.now))) r left e)) c.in_err-typed-2.ensures))

-- src/value.rt:100:21
pub value::chain-returns-in_err-right : goal.value::chain-returns-in_err-right
value::chain-returns-in_err-right t c =
    let tree = ap expr_of c.in-Line.is ∙ of_line c.in-Line.first c.in-Line.others ∙ ap (λ xs. spec.Line (expr_of c.in-Line.first.value) (operands (map operand_of xs))) (sym c.deref-operand-items.ensures.value) in
    let kind : is_logical (operands (map operand_of c.deref-operand-items.result.now)) ≡ false = rw c.deref-operand-items.ensures.value (line_is c.args.line.now false c.in-Line.first c.in-Line.others c.requires.arithmetic c.in-Line.is) in
    let h : BindsValue c.args.clause.now.database.now c.args.clause.now.scopes.now (place_of c.args.clause.now.place) (progress_of c.args.blocks.now.items c.args.functions.now.items) (progress_of c.value.new.blocks.items c.value.new.functions.items) (expr_of c.in-Line.first.value) (value_of c.in_ok-typed.typed.value) (NumberType c.in_ok-scale.scale) = rw (c.deref.ensures, c.in_ok-scale.ensures.ok) at c.in_ok-typed.ensures in
    let x = c.operand-item.result in
    let left : OperandsLeft c.args.clause.now.database.now c.args.clause.now.scopes.now (place_of c.args.clause.now.place) (progress_of c.value.new.blocks.items c.value.new.functions.items) c.in_ok-scale.scale (operands (map operand_of c.deref-operand-items.result.now)) (progress_of c.operands.blocks.items c.operands.functions.items) c.operands.scale (map bound_operand_of c.operands.joined.items) (spec.Operand (operator_of x.operator) (expr_of x.value) (operands (map operand_of (drop (c.operands.operand-index + 1) c.deref-operand-items.result.now)))) =
    rw (next_tree c.deref-operand-items.result.now c.operands.operand-index x c.operands-test.true c.operand-item.is) at c.operands.invariant in
    let q = c.in_err-right.field-0.0 in
    let v : BindsValue c.args.clause.now.database.now c.args.clause.now.scopes.now (place_of c.args.clause.now.place) (progress_of c.operands.blocks.items c.operands.functions.items) (progress_of c.value-in-operands.new.blocks.items c.value-in-operands.new.functions.items) (expr_of x.value) (value_of c.in_ok-typed-2.typed.value) TextType = rw c.in_err-right.ensures.text at c.in_ok-typed-2.ensures in
    value_refused c.args.clause.now (progress_of c.args.blocks.now.items c.args.functions.now.items) _ _ _ q MixedKinds (is_refused _ q c.from_residual-in_err-right.ensures) c.in_err-right.ensures.refused
    (rw tree (chain_operands c.args.clause.now.database.now c.args.clause.now.scopes.now (place_of c.args.clause.now.place) (progress_of c.args.blocks.now.items c.args.functions.now.items) (progress_of c.value.new.blocks.items c.value.new.functions.items) (expr_of c.in-Line.first.value) (operands (map operand_of c.deref-operand-items.result.now)) _ c.in_ok-scale.scale MixedKinds kind h (text_at_operand c.args.clause.now.database.now c.args.clause.now.scopes.now (place_of c.args.clause.now.place) (progress_of c.value.new.blocks.items c.value.new.functions.items) c.in_ok-scale.scale (operands (map operand_of c.deref-operand-items.result.now)) (progress_of c.operands.blocks.items c.operands.functions.items) (progress_of c.value-in-operands.new.blocks.items c.value-in-operands.new.functions.items) c.operands.scale (map bound_operand_of c.operands.joined.items) (operator_of x.operator) (expr_of x.value) _ (operands (map operand_of (drop (c.operands.operand-index + 1) c.deref-operand-items.result.now))) left v)))

-- src/value.rt:101:17
pub value::chain-joined_scale-requires-clause-left :
    goal.value::chain-joined_scale-requires-clause-left
value::chain-joined_scale-requires-clause-left t c =
    c.operands.invariant.small

-- src/value.rt:101:17
pub value::chain-returns-in_err-scale-2 : goal.value::chain-returns-in_err-scale-2
value::chain-returns-in_err-scale-2 t c =
    let tree = ap expr_of c.in-Line.is ∙ of_line c.in-Line.first c.in-Line.others ∙ ap (λ xs. spec.Line (expr_of c.in-Line.first.value) (operands (map operand_of xs))) (sym c.deref-operand-items.ensures.value) in
    let kind : is_logical (operands (map operand_of c.deref-operand-items.result.now)) ≡ false = rw c.deref-operand-items.ensures.value (line_is c.args.line.now false c.in-Line.first c.in-Line.others c.requires.arithmetic c.in-Line.is) in
    let h : BindsValue c.args.clause.now.database.now c.args.clause.now.scopes.now (place_of c.args.clause.now.place) (progress_of c.args.blocks.now.items c.args.functions.now.items) (progress_of c.value.new.blocks.items c.value.new.functions.items) (expr_of c.in-Line.first.value) (value_of c.in_ok-typed.typed.value) (NumberType c.in_ok-scale.scale) = rw (c.deref.ensures, c.in_ok-scale.ensures.ok) at c.in_ok-typed.ensures in
    let x = c.operand-item.result in
    let left : OperandsLeft c.args.clause.now.database.now c.args.clause.now.scopes.now (place_of c.args.clause.now.place) (progress_of c.value.new.blocks.items c.value.new.functions.items) c.in_ok-scale.scale (operands (map operand_of c.deref-operand-items.result.now)) (progress_of c.operands.blocks.items c.operands.functions.items) c.operands.scale (map bound_operand_of c.operands.joined.items) (spec.Operand (operator_of x.operator) (expr_of x.value) (operands (map operand_of (drop (c.operands.operand-index + 1) c.deref-operand-items.result.now)))) =
    rw (next_tree c.deref-operand-items.result.now c.operands.operand-index x c.operands-test.true c.operand-item.is) at c.operands.invariant in
    let v : BindsValue c.args.clause.now.database.now c.args.clause.now.scopes.now (place_of c.args.clause.now.place) (progress_of c.operands.blocks.items c.operands.functions.items) (progress_of c.value-in-operands.new.blocks.items c.value-in-operands.new.functions.items) (expr_of x.value) (value_of c.in_ok-typed-2.typed.value) (NumberType c.in_ok-right.right) = rw c.in_ok-right.ensures.ok at c.in_ok-typed-2.ensures in
    let q = c.in_err-scale-2.field-0.0 in
    let great = c.in_err-scale-2.ensures.great in
    value_refused c.args.clause.now (progress_of c.args.blocks.now.items c.args.functions.now.items) _ _ _ q ScaleTooGreat (is_refused _ q c.from_residual-in_err-scale-2.ensures) c.in_err-scale-2.ensures.refused
    (rw tree (chain_operands c.args.clause.now.database.now c.args.clause.now.scopes.now (place_of c.args.clause.now.place) (progress_of c.args.blocks.now.items c.args.functions.now.items) (progress_of c.value.new.blocks.items c.value.new.functions.items) (expr_of c.in-Line.first.value) (operands (map operand_of c.deref-operand-items.result.now)) _ c.in_ok-scale.scale ScaleTooGreat kind h (great_at_operand c.args.clause.now.database.now c.args.clause.now.scopes.now (place_of c.args.clause.now.place) (progress_of c.value.new.blocks.items c.value.new.functions.items) c.in_ok-scale.scale (operands (map operand_of c.deref-operand-items.result.now)) (progress_of c.operands.blocks.items c.operands.functions.items) (progress_of c.value-in-operands.new.blocks.items c.value-in-operands.new.functions.items) c.operands.scale c.in_ok-right.right great.0 (map bound_operand_of c.operands.joined.items) (operator_of x.operator) (expr_of x.value) _ (operands (map operand_of (drop (c.operands.operand-index + 1) c.deref-operand-items.result.now))) left v great.1 great.2)))

-- src/value.rt:98:5
pub value::chain-operands-preserved : goal.value::chain-operands-preserved
value::chain-operands-preserved t c =
    let h : BindsValue c.args.clause.now.database.now c.args.clause.now.scopes.now (place_of c.args.clause.now.place) (progress_of c.args.blocks.now.items c.args.functions.now.items) (progress_of c.value.new.blocks.items c.value.new.functions.items) (expr_of c.in-Line.first.value) (value_of c.in_ok-typed.typed.value) (NumberType c.in_ok-scale.scale) = rw (c.deref.ensures, c.in_ok-scale.ensures.ok) at c.in_ok-typed.ensures in
    let x = c.operand-item.result in
    let left : OperandsLeft c.args.clause.now.database.now c.args.clause.now.scopes.now (place_of c.args.clause.now.place) (progress_of c.value.new.blocks.items c.value.new.functions.items) c.in_ok-scale.scale (operands (map operand_of c.deref-operand-items.result.now)) (progress_of c.operands.blocks.items c.operands.functions.items) c.operands.scale (map bound_operand_of c.operands.joined.items) (spec.Operand (operator_of x.operator) (expr_of x.value) (operands (map operand_of (drop (c.operands.operand-index + 1) c.deref-operand-items.result.now)))) =
    rw (next_tree c.deref-operand-items.result.now c.operands.operand-index x c.operands-test.true c.operand-item.is) at c.operands.invariant in
    let v : BindsValue c.args.clause.now.database.now c.args.clause.now.scopes.now (place_of c.args.clause.now.place) (progress_of c.operands.blocks.items c.operands.functions.items) (progress_of c.value-in-operands.new.blocks.items c.value-in-operands.new.functions.items) (expr_of x.value) (value_of c.in_ok-typed-2.typed.value) (NumberType c.in_ok-right.right) = rw c.in_ok-right.ensures.ok at c.in_ok-typed-2.ensures in
    let past = past_operand c.args.clause.now.database.now c.args.clause.now.scopes.now (place_of c.args.clause.now.place) (progress_of c.value.new.blocks.items c.value.new.functions.items) c.in_ok-scale.scale (operands (map operand_of c.deref-operand-items.result.now)) (progress_of c.operands.blocks.items c.operands.functions.items) (progress_of c.value-in-operands.new.blocks.items c.value-in-operands.new.functions.items) c.operands.scale c.in_ok-right.right c.in_ok-scale-2.scale (map bound_operand_of c.operands.joined.items) (operator_of x.operator) (expr_of x.value) _ (operands (map operand_of (drop (c.operands.operand-index + 1) c.deref-operand-items.result.now))) left v c.in_ok-scale-2.ensures.ok c.in_ok-scale-2.ensures.fine (few_after c.args.clause.now.database.now c.args.clause.now.scopes.now (place_of c.args.clause.now.place) (progress_of c.operands.blocks.items c.operands.functions.items) (progress_of c.value-in-operands.new.blocks.items c.value-in-operands.new.functions.items) _ _ v.adds) in
    rw (c.in_ok-push.ensures.items, pushed_operand c.operands.joined.items, c.operator.ensures) past

-- src/value.rt:81:1
pub value::chain-returns : goal.value::chain-returns
value::chain-returns t c =
    let tree = ap expr_of c.in-Line.is ∙ of_line c.in-Line.first c.in-Line.others ∙ ap (λ xs. spec.Line (expr_of c.in-Line.first.value) (operands (map operand_of xs))) (sym c.deref-operand-items.ensures.value) in
    let kind : is_logical (operands (map operand_of c.deref-operand-items.result.now)) ≡ false = rw c.deref-operand-items.ensures.value (line_is c.args.line.now false c.in-Line.first c.in-Line.others c.requires.arithmetic c.in-Line.is) in
    let h : BindsValue c.args.clause.now.database.now c.args.clause.now.scopes.now (place_of c.args.clause.now.place) (progress_of c.args.blocks.now.items c.args.functions.now.items) (progress_of c.value.new.blocks.items c.value.new.functions.items) (expr_of c.in-Line.first.value) (value_of c.in_ok-typed.typed.value) (NumberType c.in_ok-scale.scale) = rw (c.deref.ensures, c.in_ok-scale.ensures.ok) at c.in_ok-typed.ensures in
    let left : OperandsLeft c.args.clause.now.database.now c.args.clause.now.scopes.now (place_of c.args.clause.now.place) (progress_of c.value.new.blocks.items c.value.new.functions.items) c.in_ok-scale.scale (operands (map operand_of c.deref-operand-items.result.now)) (progress_of c.operands.blocks.items c.operands.functions.items) c.operands.scale (map bound_operand_of c.operands.joined.items) spec.NoOperand = rw (no_tree c.deref-operand-items.result.now c.operands.operand-index c.operands-test.false) at c.operands.invariant in
    rw (tree, bound_chain c.in_ok-head.head c.operands.joined, c.in_ok-head.ensures.ok)
    (binds_chain c.args.clause.now.database.now c.args.clause.now.scopes.now (place_of c.args.clause.now.place) (progress_of c.args.blocks.now.items c.args.functions.now.items) (progress_of c.value.new.blocks.items c.value.new.functions.items) (progress_of c.operands.blocks.items c.operands.functions.items) (expr_of c.in-Line.first.value) (operands (map operand_of c.deref-operand-items.result.now)) _ c.in_ok-scale.scale c.operands.scale (map bound_operand_of c.operands.joined.items) kind h (end_operands c.args.clause.now.database.now c.args.clause.now.scopes.now (place_of c.args.clause.now.place) (progress_of c.value.new.blocks.items c.value.new.functions.items) c.in_ok-scale.scale (operands (map operand_of c.deref-operand-items.result.now)) (progress_of c.operands.blocks.items c.operands.functions.items) c.operands.scale (map bound_operand_of c.operands.joined.items) left))

-- src/value.rt:135:17
pub value::set_function-returns-in_err-typed : goal.value::set_function-returns-in_err-typed
value::set_function-returns-in_err-typed t c =
    λ bound few.
    let f = c.in_err-typed.field-0.0 in
    let inner : IfSome (bind_refusal f) (RefusesValue c.args.clause.now.database.now c.args.clause.now.scopes.now InArgument nothing_bound (expr_of c.args.argument.now)) = rw (c.new-no_blocks.ensures.items, c.new-no_functions.ensures.items) at c.in_err-typed.ensures in
    value_err c.args.clause.now (record { blocks = bound; functions = map bound_function_of c.args.functions.now.items }) _ _ _ f (is_passed _ c.from_residual.ensures.1) (if_some (bind_refusal f) _ _ (λ r e. function_argument c.args.clause.now.database.now c.args.clause.now.scopes.now (place_of c.args.clause.now.place) (record { blocks = bound; functions = map bound_function_of c.args.functions.now.items }) (function_of c.args.function) c.args.distinct (expr_of c.args.argument.now) r c.requires.shown e) inner)

-- src/value.rt:136:22
pub value::set_function-returns-in_err-value_type :
    goal.value::set_function-returns-in_err-value_type
value::set_function-returns-in_err-value_type t c =
    λ bound few.
    let q = c.in_err-value_type.field-0.0 in
    let inner : BindsValue c.args.clause.now.database.now c.args.clause.now.scopes.now InArgument nothing_bound (progress_of c.value.new.blocks.items c.value.new.functions.items) (expr_of c.args.argument.now) (value_of c.in_ok-typed.typed.value) TextType = rw (c.new-no_blocks.ensures.items, c.new-no_functions.ensures.items, c.in_err-value_type.ensures.text.1) at c.in_ok-typed.ensures in
    value_refused c.args.clause.now (record { blocks = bound; functions = map bound_function_of c.args.functions.now.items }) _ _ _ q MixedKinds (is_refused _ q c.from_residual-in_err-value_type.ensures) c.in_err-value_type.ensures.refused
    (function_of_text c.args.clause.now.database.now c.args.clause.now.scopes.now (place_of c.args.clause.now.place) (record { blocks = bound; functions = map bound_function_of c.args.functions.now.items }) (progress_of c.value.new.blocks.items c.value.new.functions.items) (function_of c.args.function) c.args.distinct (expr_of c.args.argument.now) _ c.in_err-value_type.ensures.text.0 inner)

-- src/value.rt:117:1
pub value::set_function-returns : goal.value::set_function-returns
value::set_function-returns t c =
    λ bound few.
    let inner : BindsValue c.args.clause.now.database.now c.args.clause.now.scopes.now InArgument nothing_bound (progress_of c.value.new.blocks.items c.value.new.functions.items) (expr_of c.args.argument.now) (value_of c.in_ok-typed.typed.value) (value_type_of c.in_ok-typed.typed.value_type) = rw (c.new-no_blocks.ensures.items, c.new-no_functions.ensures.items) at c.in_ok-typed.ensures in
    rw (c.in_ok-aggregate_value.ensures.value, c.in_ok-aggregate_value.ensures.typed, c.in_ok-aggregate_value.ensures.functions, pushed_function c.args.functions.now.items _, ← as_many_functions c.args.functions.now.items)
    (binds_function c.args.clause.now.database.now c.args.clause.now.scopes.now (place_of c.args.clause.now.place) (record { blocks = bound; functions = map bound_function_of c.args.functions.now.items }) (progress_of c.value.new.blocks.items c.value.new.functions.items) (function_of c.args.function) c.args.distinct (expr_of c.args.argument.now) (value_of c.in_ok-typed.typed.value) (value_type_of c.in_ok-typed.typed.value_type) (value_type_of c.in_ok-value_type.value_type) few c.requires.shown inner c.in_ok-value_type.ensures.numbers c.in_ok-value_type.ensures.ok c.in_ok-value_type.ensures.fine)

-- src/value.rt:39:38
pub value::value-returns-in_err-number-in-Numeral :
    goal.value::value-returns-in_err-number-in-Numeral
value::value-returns-in_err-number-in-Numeral t c =
    let n = c.in-Numeral.numeral in
    let q = c.in_err-number-in-Numeral.field-0.0 in
    let tree = ap expr_of c.in-Numeral.is ∙ of_numeral n in
    value_refused c.args.clause.now (progress_of c.args.blocks.now.items c.args.functions.now.items) _ _ _ q (query_refusal q) (is_refused _ q c.from_residual.ensures) refl
    (rw tree (numeral_refused c.args.clause.now.database.now c.args.clause.now.scopes.now (place_of c.args.clause.now.place) (progress_of c.args.blocks.now.items c.args.functions.now.items) n.units n.digits n.scale (query_refusal q) (c.in_err-number-in-Numeral.ensures.refused c.args.clause.now.database.now c.args.clause.now.scopes.now (place_of c.args.clause.now.place))))

-- src/value.rt:42:25
pub value::value-returns-in_err-typed-in-Signed : goal.value::value-returns-in_err-typed-in-Signed
value::value-returns-in_err-typed-in-Signed t c =
    let tree = ap expr_of c.in-Signed.is ∙ of_signed c.in-Signed.start c.in-Signed.minus c.in-Signed.operand in
    let f = c.in_err-typed-in-Signed.field-0.0 in
    let inner : IfSome (bind_refusal f) (RefusesValue c.args.clause.now.database.now c.args.clause.now.scopes.now (place_of c.args.clause.now.place) (progress_of c.args.blocks.now.items c.args.functions.now.items) (expr_of c.in-Signed.operand.value)) = rw c.deref.ensures at c.in_err-typed-in-Signed.ensures in
    value_err c.args.clause.now (progress_of c.args.blocks.now.items c.args.functions.now.items) _ _ _ f (is_passed _ c.from_residual-in_err-typed-in-Signed.ensures.1) (rw tree (if_some (bind_refusal f) _ _ (signed_operand c.args.clause.now.database.now c.args.clause.now.scopes.now (place_of c.args.clause.now.place) (progress_of c.args.blocks.now.items c.args.functions.now.items) c.in-Signed.minus (expr_of c.in-Signed.operand.value)) inner))

-- src/value.rt:43:25
pub value::value-returns-in_err-scale-in-Signed : goal.value::value-returns-in_err-scale-in-Signed
value::value-returns-in_err-scale-in-Signed t c =
    let q = c.in_err-scale-in-Signed.field-0.0 in
    let tree = ap expr_of c.in-Signed.is ∙ of_signed c.in-Signed.start c.in-Signed.minus c.in-Signed.operand in
    let operand : BindsValue c.args.clause.now.database.now c.args.clause.now.scopes.now (place_of c.args.clause.now.place) (progress_of c.args.blocks.now.items c.args.functions.now.items) (progress_of c.value.new.blocks.items c.value.new.functions.items) (expr_of c.in-Signed.operand.value) (value_of c.in_ok-typed-in-Signed.typed.value) TextType =
    rw (c.deref.ensures, c.in_err-scale-in-Signed.ensures.text) at c.in_ok-typed-in-Signed.ensures in
    value_refused c.args.clause.now (progress_of c.args.blocks.now.items c.args.functions.now.items) _ _ _ q MixedKinds (is_refused _ q c.from_residual-in_err-scale-in-Signed.ensures) c.in_err-scale-in-Signed.ensures.refused
    (rw tree (signed_text c.args.clause.now.database.now c.args.clause.now.scopes.now (place_of c.args.clause.now.place) (progress_of c.args.blocks.now.items c.args.functions.now.items) (progress_of c.value.new.blocks.items c.value.new.functions.items) c.in-Signed.minus (expr_of c.in-Signed.operand.value) _ operand))

-- src/value.rt:56:39
pub value::value-returns-in_err-block-in-Scalar : goal.value::value-returns-in_err-block-in-Scalar
value::value-returns-in_err-block-in-Scalar t c =
    let tree = ap expr_of c.in-Scalar.is ∙ of_scalar c.in-Scalar.start c.in-Scalar.query in
    let f = c.in_err-block-in-Scalar.field-0.0 in
    let inner : IfSome (bind_refusal f) (RefusesColumn c.args.clause.now.database.now c.args.clause.now.scopes.now (place_of c.args.clause.now.place) (progress_of c.args.blocks.now.items c.args.functions.now.items) (query_of c.in-Scalar.query.value)) = rw c.deref-in-Scalar.ensures at (c.in_err-block-in-Scalar.ensures (map bound_function_of c.args.functions.now.items)) in
    value_err c.args.clause.now (progress_of c.args.blocks.now.items c.args.functions.now.items) _ _ _ f (is_passed _ c.from_residual-in_err-block-in-Scalar.ensures.1) (rw tree (if_some (bind_refusal f) _ _ (scalar_query c.args.clause.now.database.now c.args.clause.now.scopes.now (place_of c.args.clause.now.place) (progress_of c.args.blocks.now.items c.args.functions.now.items) (query_of c.in-Scalar.query.value)) inner))

-- src/value.rt:63:13
pub value::value-returns-in_err-judge_function-in-CountRows :
    goal.value::value-returns-in_err-judge_function-in-CountRows
value::value-returns-in_err-judge_function-in-CountRows t c =
    let tree = ap expr_of c.in-CountRows.is ∙ of_count_rows c.in-CountRows.start in
    let q = c.in_err-judge_function-in-CountRows.field-0.0 in
    value_refused c.args.clause.now (progress_of c.args.blocks.now.items c.args.functions.now.items) _ _ _ q MisplacedFunction (is_refused _ q c.from_residual-in_err-judge_function-in-CountRows.ensures) c.in_err-judge_function-in-CountRows.ensures.refused
    (rw tree (count_rows_misplaced c.args.clause.now.database.now c.args.clause.now.scopes.now (place_of c.args.clause.now.place) (progress_of c.args.blocks.now.items c.args.functions.now.items) c.in_err-judge_function-in-CountRows.ensures.misplaced))

-- src/value.rt:73:13
pub value::value-returns-in_err-judge_function-in-Function :
    goal.value::value-returns-in_err-judge_function-in-Function
value::value-returns-in_err-judge_function-in-Function t c =
    let tree = ap expr_of c.in-Function.is ∙ of_function c.in-Function.start c.in-Function.function c.in-Function.distinct c.in-Function.argument in
    let q = c.in_err-judge_function-in-Function.field-0.0 in
    value_refused c.args.clause.now (progress_of c.args.blocks.now.items c.args.functions.now.items) _ _ _ q MisplacedFunction (is_refused _ q c.from_residual-in_err-judge_function-in-Function.ensures) c.in_err-judge_function-in-Function.ensures.refused
    (rw tree (function_misplaced c.args.clause.now.database.now c.args.clause.now.scopes.now (place_of c.args.clause.now.place) (progress_of c.args.blocks.now.items c.args.functions.now.items) (function_of c.in-Function.function) c.in-Function.distinct (expr_of c.in-Function.argument.value) c.in_err-judge_function-in-Function.ensures.misplaced))

-- src/value.rt:26:1
pub value::value-returns-in-Column : goal.value::value-returns-in-Column
value::value-returns-in-Column t c =
    let tree = ap expr_of c.in-Column.is ∙ of_column c.in-Column.reference in
    rw tree (column_answer c.args.clause.now (progress_of c.args.blocks.now.items c.args.functions.now.items) (column_of c.in-Column.reference) c.column.result (few_blocks c.args.blocks.now.items c.requires.few) c.column.ensures.ok c.column.ensures.refused)

-- src/value.rt:26:1
pub value::value-returns-in_ok-number-in-Numeral :
    goal.value::value-returns-in_ok-number-in-Numeral
value::value-returns-in_ok-number-in-Numeral t c =
    let n = c.in-Numeral.numeral in
    let tree = ap expr_of c.in-Numeral.is ∙ of_numeral n in
    rw tree (binds_numeral c.args.clause.now.database.now c.args.clause.now.scopes.now (place_of c.args.clause.now.place) _ n.units n.digits n.scale _ _ (few_blocks c.args.blocks.now.items c.requires.few) (c.in_ok-number-in-Numeral.ensures.ok c.args.clause.now.database.now c.args.clause.now.scopes.now (place_of c.args.clause.now.place)))

-- src/value.rt:26:1
pub value::value-returns-in_ok-string-in-String : goal.value::value-returns-in_ok-string-in-String
value::value-returns-in_ok-string-in-String t c =
    let tree = ap expr_of c.in-String.is ∙ of_string c.in-String.literal in
    rw tree (binds_string c.args.clause.now.database.now c.args.clause.now.scopes.now (place_of c.args.clause.now.place) _ (text_of c.in-String.literal) _ _ (few_blocks c.args.blocks.now.items c.requires.few) (c.in_ok-string-in-String.ensures c.args.clause.now.database.now c.args.clause.now.scopes.now (place_of c.args.clause.now.place)))

-- src/value.rt:26:1
pub value::value-returns-in_ok-scale-in-Signed : goal.value::value-returns-in_ok-scale-in-Signed
value::value-returns-in_ok-scale-in-Signed t c =
    let tree = ap expr_of c.in-Signed.is ∙ of_signed c.in-Signed.start c.in-Signed.minus c.in-Signed.operand in
    let operand : BindsValue c.args.clause.now.database.now c.args.clause.now.scopes.now (place_of c.args.clause.now.place) (progress_of c.args.blocks.now.items c.args.functions.now.items) (progress_of c.value.new.blocks.items c.value.new.functions.items) (expr_of c.in-Signed.operand.value) (value_of c.in_ok-typed-in-Signed.typed.value) (NumberType c.in_ok-scale-in-Signed.scale) =
    rw (c.deref.ensures, c.in_ok-scale-in-Signed.ensures.ok) at c.in_ok-typed-in-Signed.ensures in
    rw (tree, bound_signed c.in-Signed.minus c.in_ok-signed-in-Signed.signed, c.in_ok-signed-in-Signed.ensures.ok)
    (binds_signed c.args.clause.now.database.now c.args.clause.now.scopes.now (place_of c.args.clause.now.place) (progress_of c.args.blocks.now.items c.args.functions.now.items) (progress_of c.value.new.blocks.items c.value.new.functions.items) c.in-Signed.minus (expr_of c.in-Signed.operand.value) _ c.in_ok-scale-in-Signed.scale operand)

-- src/value.rt:26:1
pub value::value-returns-in_ok-block-in-Scalar : goal.value::value-returns-in_ok-block-in-Scalar
value::value-returns-in_ok-block-in-Scalar t c =
    let tree = ap expr_of c.in-Scalar.is ∙ of_scalar c.in-Scalar.start c.in-Scalar.query in
    let new = progress_of c.column_of_query.new.blocks.items c.args.functions.now.items in
    let h : BindsColumn c.args.clause.now.database.now c.args.clause.now.scopes.now (place_of c.args.clause.now.place) (progress_of c.args.blocks.now.items c.args.functions.now.items) new (query_of c.in-Scalar.query.value) c.in_ok-block-in-Scalar.block (value_type_of c.in_ok-block-in-Scalar.value_type) = rw c.deref-in-Scalar.ensures at (c.in_ok-block-in-Scalar.ensures (map bound_function_of c.args.functions.now.items)) in
    rw (tree, bound_subquery c.in_ok-block-in-Scalar.block c.in_ok-block-in-Scalar.value_type)
    (binds_scalar c.args.clause.now.database.now c.args.clause.now.scopes.now (place_of c.args.clause.now.place) (progress_of c.args.blocks.now.items c.args.functions.now.items) new (query_of c.in-Scalar.query.value) c.in_ok-block-in-Scalar.block (value_type_of c.in_ok-block-in-Scalar.value_type) h)

-- src/value.rt:26:1
pub value::value-returns-in_ok-aggregate_value-in-CountRows :
    goal.value::value-returns-in_ok-aggregate_value-in-CountRows
value::value-returns-in_ok-aggregate_value-in-CountRows t c =
    let tree = ap expr_of c.in-CountRows.is ∙ of_count_rows c.in-CountRows.start in
    rw (tree, c.in_ok-aggregate_value-in-CountRows.ensures.value, c.in_ok-aggregate_value-in-CountRows.ensures.typed, c.in_ok-aggregate_value-in-CountRows.ensures.functions, pushed_function c.args.functions.now.items _, ← as_many_functions c.args.functions.now.items)
    (binds_count_rows c.args.clause.now.database.now c.args.clause.now.scopes.now (place_of c.args.clause.now.place) (progress_of c.args.blocks.now.items c.args.functions.now.items) (few_blocks c.args.blocks.now.items c.requires.few) c.in_ok-judge_function-in-CountRows.ensures.ok)

-- src/value.rt:26:1
pub value::value-returns-in_ok-judge_function-in-Function :
    goal.value::value-returns-in_ok-judge_function-in-Function
value::value-returns-in_ok-judge_function-in-Function t c =
    let tree = ap expr_of c.in-Function.is ∙ of_function c.in-Function.start c.in-Function.function c.in-Function.distinct c.in-Function.argument in
    rw (tree, ← c.deref-in-Function.ensures) (c.set_function.ensures (map block_of c.args.blocks.now.items) (few_blocks c.args.blocks.now.items c.requires.few))

pub condition::condition-logical-requires : goal.condition::condition-logical-requires
condition::condition-logical-requires t c =
    let line : IsLine c.args.expr.now true = (c.in-Line.first, c.in-Line.others, c.in-Line.is, rw c.deref.ensures.value at (sym c.are_logical.ensures ∙ c.if-are_logical.true)) in let sight = c.requires.sight in let few = c.requires.few in search (rules, the_lemmas, sight, few, line)

pub value::value-chain-requires : goal.value::value-chain-requires
value::value-chain-requires t c =
    let line : IsLine c.args.expr.now false = (c.in-Line.first, c.in-Line.others, c.in-Line.is, search rules) in let sight = c.requires.sight in let few = c.requires.few in search (rules, the_lemmas, sight, few, line)

pub condition::logical-returns-in_default-operator : goal.condition::logical-returns-in_default-operator
condition::logical-returns-in_default-operator t c =
    let tree = ap expr_of c.in-Line.is ∙ of_line c.in-Line.first c.in-Line.others ∙ ap (λ xs. spec.Line (expr_of c.in-Line.first.value) (operands (map operand_of xs))) (sym c.deref-operand-items.ensures.value) in
    let kind : is_logical (operands (map operand_of c.deref-operand-items.result.now)) ≡ true = rw c.deref-operand-items.ensures.value (line_is c.args.line.now true c.in-Line.first c.in-Line.others c.requires.logical c.in-Line.is) in
    let h : BindsCondition c.args.clause.now.database.now c.args.clause.now.scopes.now (place_of c.args.clause.now.place) (progress_of c.args.blocks.now.items c.args.functions.now.items) (progress_of c.condition.new.blocks.items c.condition.new.functions.items) (expr_of c.in-Line.first.value) (bound_condition_of c.in_ok-condition.field-0) = rw c.deref.ensures at c.in_ok-condition.ensures in
    let left : PartsLeft c.args.clause.now.database.now c.args.clause.now.scopes.now (place_of c.args.clause.now.place) (progress_of c.condition.new.blocks.items c.condition.new.functions.items) (operands (map operand_of c.deref-operand-items.result.now)) (progress_of c.operands.blocks.items c.operands.functions.items) c.operands.invariant.0 spec.NoOperand = rw (no_tree c.deref-operand-items.result.now c.operands.operand-index c.operands-test.false) at c.operands.invariant.2 in
    let are : map bound_condition_of c.operands.parts.items ≡ bound_condition_of c.in_ok-condition.field-0 ∷ c.operands.invariant.0 = c.operands.invariant.1 ∙ ap (λ xs. map bound_condition_of xs ++ c.operands.invariant.0) (c.in_ok-push.ensures.items ∙ ap (λ ys. ys ++ c.in_ok-condition.field-0 ∷ []) c.new-parts.ensures.items) in
    let whole = binds_logical c.args.clause.now.database.now c.args.clause.now.scopes.now (place_of c.args.clause.now.place) (progress_of c.args.blocks.now.items c.args.functions.now.items) (progress_of c.condition.new.blocks.items c.condition.new.functions.items) (progress_of c.operands.blocks.items c.operands.functions.items) (expr_of c.in-Line.first.value) (operands (map operand_of c.deref-operand-items.result.now)) (bound_condition_of c.in_ok-condition.field-0) c.operands.invariant.0 kind h (end_parts c.args.clause.now.database.now c.args.clause.now.scopes.now (place_of c.args.clause.now.place) (progress_of c.condition.new.blocks.items c.condition.new.functions.items) (operands (map operand_of c.deref-operand-items.result.now)) (progress_of c.operands.blocks.items c.operands.functions.items) c.operands.invariant.0 left) in
    let joined : connected (operands (map operand_of c.deref-operand-items.result.now)) (b.Part (bound_condition_of c.in_ok-condition.field-0) (conditions c.operands.invariant.0)) ≡ b.Or (b.Part (bound_condition_of c.in_ok-condition.field-0) (conditions c.operands.invariant.0)) = rw c.deref-operand-items.ensures.value (connected_or c.in-Line.others.items c.index.result.now (b.Part (bound_condition_of c.in_ok-condition.field-0) (conditions c.operands.invariant.0)) (search rules) (others_there c.in-Line.others.items (line_is c.args.line.now true c.in-Line.first c.in-Line.others c.requires.logical c.in-Line.is)) c.in_default-operator.not-And) in
    rw (tree, bound_or c.operands.parts, are) (subst (BindsCondition c.args.clause.now.database.now c.args.clause.now.scopes.now (place_of c.args.clause.now.place) (progress_of c.args.blocks.now.items c.args.functions.now.items) (progress_of c.operands.blocks.items c.operands.functions.items) (spec.Line (expr_of c.in-Line.first.value) (operands (map operand_of c.deref-operand-items.result.now)))) joined whole)

pub condition::negation-returns-in_err-operand :
    goal.condition::negation-returns-in_err-operand
condition::negation-returns-in_err-operand t c =
    let f = c.in_err-operand.field-0.0 in
    let inner : IfSome (bind_refusal f) (RefusesCondition c.args.clause.now.database.now c.args.clause.now.scopes.now (place_of c.args.clause.now.place) (progress_of c.args.blocks.now.items c.args.functions.now.items) (expr_of c.args.operand.now)) = c.in_err-operand.ensures in
    condition_err c.args.clause.now (progress_of c.args.blocks.now.items c.args.functions.now.items) _ _ _ f (is_passed _ c.from_residual.ensures.1) ((if_some (bind_refusal f) _ _ (not_operand c.args.clause.now.database.now c.args.clause.now.scopes.now (place_of c.args.clause.now.place) (progress_of c.args.blocks.now.items c.args.functions.now.items) (expr_of c.args.operand.now)) inner))

pub condition::negation-returns :
    goal.condition::negation-returns
condition::negation-returns t c =
    let operand : BindsCondition c.args.clause.now.database.now c.args.clause.now.scopes.now (place_of c.args.clause.now.place) (progress_of c.args.blocks.now.items c.args.functions.now.items) (progress_of c.condition.new.blocks.items c.condition.new.functions.items) (expr_of c.args.operand.now) (bound_condition_of c.in_ok-operand.operand) = c.in_ok-operand.ensures in
    rw (bound_not c.in_ok-new.field-0, c.in_ok-new.ensures.ok)
    (binds_not c.args.clause.now.database.now c.args.clause.now.scopes.now (place_of c.args.clause.now.place) (progress_of c.args.blocks.now.items c.args.functions.now.items) (progress_of c.condition.new.blocks.items c.condition.new.functions.items) (expr_of c.args.operand.now) _ operand)

pub condition::comparison-returns-in_err-left :
    goal.condition::comparison-returns-in_err-left
condition::comparison-returns-in_err-left t c =
    let tree = ap expr_of c.in-Compare.is ∙ of_compare c.in-Compare.start c.in-Compare.op c.in-Compare.left c.in-Compare.other in
    let f = c.in_err-left.field-0.0 in
    let inner : IfSome (bind_refusal f) (RefusesValue c.args.clause.now.database.now c.args.clause.now.scopes.now (place_of c.args.clause.now.place) (progress_of c.args.blocks.now.items c.args.functions.now.items) (expr_of c.in-Compare.left.value)) = rw c.deref.ensures at c.in_err-left.ensures in
    condition_err c.args.clause.now (progress_of c.args.blocks.now.items c.args.functions.now.items) _ _ _ f (is_passed _ c.from_residual.ensures.1) (rw tree (if_some (bind_refusal f) _ _ (compare_left c.args.clause.now.database.now c.args.clause.now.scopes.now (place_of c.args.clause.now.place) (progress_of c.args.blocks.now.items c.args.functions.now.items) (op_of c.in-Compare.op) (expr_of c.in-Compare.left.value) (expr_of c.in-Compare.other.value)) inner))

pub condition::comparison-value-requires-2 :
    goal.condition::comparison-value-requires-2
condition::comparison-value-requires-2 t c =
    let first : BindsValue c.args.clause.now.database.now c.args.clause.now.scopes.now (place_of c.args.clause.now.place) (progress_of c.args.blocks.now.items c.args.functions.now.items) (progress_of c.value.new.blocks.items c.value.new.functions.items) (expr_of c.in-Compare.left.value) (value_of c.in_ok-left.left.value) (value_type_of c.in_ok-left.left.value_type) = rw c.deref.ensures at c.in_ok-left.ensures in
    let sight = c.requires.sight in let few = few_items c.value.new.blocks.items (few_after c.args.clause.now.database.now c.args.clause.now.scopes.now (place_of c.args.clause.now.place) (progress_of c.args.blocks.now.items c.args.functions.now.items) (progress_of c.value.new.blocks.items c.value.new.functions.items) _ _ first.adds) in search (rules, the_lemmas, sight, few)

pub condition::comparison-returns-in_err-right :
    goal.condition::comparison-returns-in_err-right
condition::comparison-returns-in_err-right t c =
    let tree = ap expr_of c.in-Compare.is ∙ of_compare c.in-Compare.start c.in-Compare.op c.in-Compare.left c.in-Compare.other in
    let first : BindsValue c.args.clause.now.database.now c.args.clause.now.scopes.now (place_of c.args.clause.now.place) (progress_of c.args.blocks.now.items c.args.functions.now.items) (progress_of c.value.new.blocks.items c.value.new.functions.items) (expr_of c.in-Compare.left.value) (value_of c.in_ok-left.left.value) (value_type_of c.in_ok-left.left.value_type) = rw c.deref.ensures at c.in_ok-left.ensures in
    let f = c.in_err-right.field-0.0 in
    let inner : IfSome (bind_refusal f) (RefusesValue c.args.clause.now.database.now c.args.clause.now.scopes.now (place_of c.args.clause.now.place) (progress_of c.value.new.blocks.items c.value.new.functions.items) (expr_of c.in-Compare.other.value)) = rw c.deref-2.ensures at c.in_err-right.ensures in
    condition_err c.args.clause.now (progress_of c.args.blocks.now.items c.args.functions.now.items) _ _ _ f (is_passed _ c.from_residual-in_err-right.ensures.1) (rw tree (if_some (bind_refusal f) _ _ (λ r e. compare_right c.args.clause.now.database.now c.args.clause.now.scopes.now (place_of c.args.clause.now.place) (progress_of c.args.blocks.now.items c.args.functions.now.items) (progress_of c.value.new.blocks.items c.value.new.functions.items) (op_of c.in-Compare.op) (expr_of c.in-Compare.left.value) (expr_of c.in-Compare.other.value) (value_of c.in_ok-left.left.value) (value_type_of c.in_ok-left.left.value_type) r first e) inner))

pub condition::comparison-returns-in_err-judge_kinds :
    goal.condition::comparison-returns-in_err-judge_kinds
condition::comparison-returns-in_err-judge_kinds t c =
    let tree = ap expr_of c.in-Compare.is ∙ of_compare c.in-Compare.start c.in-Compare.op c.in-Compare.left c.in-Compare.other in
    let first : BindsValue c.args.clause.now.database.now c.args.clause.now.scopes.now (place_of c.args.clause.now.place) (progress_of c.args.blocks.now.items c.args.functions.now.items) (progress_of c.value.new.blocks.items c.value.new.functions.items) (expr_of c.in-Compare.left.value) (value_of c.in_ok-left.left.value) (value_type_of c.in_ok-left.left.value_type) = rw c.deref.ensures at c.in_ok-left.ensures in
    let second : BindsValue c.args.clause.now.database.now c.args.clause.now.scopes.now (place_of c.args.clause.now.place) (progress_of c.value.new.blocks.items c.value.new.functions.items) (progress_of c.value-2.new.blocks.items c.value-2.new.functions.items) (expr_of c.in-Compare.other.value) (value_of c.in_ok-right.right.value) (value_type_of c.in_ok-right.right.value_type) = rw c.deref-2.ensures at c.in_ok-right.ensures in
    let q = c.in_err-judge_kinds.field-0.0 in
    condition_refused c.args.clause.now (progress_of c.args.blocks.now.items c.args.functions.now.items) _ _ _ q MixedKinds (is_refused _ q c.from_residual-in_err-judge_kinds.ensures) c.in_err-judge_kinds.ensures.refused
    (rw tree (compare_mixed c.args.clause.now.database.now c.args.clause.now.scopes.now (place_of c.args.clause.now.place) (progress_of c.args.blocks.now.items c.args.functions.now.items) (progress_of c.value.new.blocks.items c.value.new.functions.items) (progress_of c.value-2.new.blocks.items c.value-2.new.functions.items) (op_of c.in-Compare.op) (expr_of c.in-Compare.left.value) (expr_of c.in-Compare.other.value) (value_of c.in_ok-left.left.value) (value_of c.in_ok-right.right.value) (value_type_of c.in_ok-left.left.value_type) (value_type_of c.in_ok-right.right.value_type) first second c.in_err-judge_kinds.ensures.apart))

pub condition::comparison-returns :
    goal.condition::comparison-returns
condition::comparison-returns t c =
    let tree = ap expr_of c.in-Compare.is ∙ of_compare c.in-Compare.start c.in-Compare.op c.in-Compare.left c.in-Compare.other in
    let first : BindsValue c.args.clause.now.database.now c.args.clause.now.scopes.now (place_of c.args.clause.now.place) (progress_of c.args.blocks.now.items c.args.functions.now.items) (progress_of c.value.new.blocks.items c.value.new.functions.items) (expr_of c.in-Compare.left.value) (value_of c.in_ok-left.left.value) (value_type_of c.in_ok-left.left.value_type) = rw c.deref.ensures at c.in_ok-left.ensures in
    let second : BindsValue c.args.clause.now.database.now c.args.clause.now.scopes.now (place_of c.args.clause.now.place) (progress_of c.value.new.blocks.items c.value.new.functions.items) (progress_of c.value-2.new.blocks.items c.value-2.new.functions.items) (expr_of c.in-Compare.other.value) (value_of c.in_ok-right.right.value) (value_type_of c.in_ok-right.right.value_type) = rw c.deref-2.ensures at c.in_ok-right.ensures in
    rw (tree, bound_compare c.in-Compare.op c.in_ok-left.left.value c.in_ok-right.right.value)
    (binds_compare c.args.clause.now.database.now c.args.clause.now.scopes.now (place_of c.args.clause.now.place) (progress_of c.args.blocks.now.items c.args.functions.now.items) (progress_of c.value.new.blocks.items c.value.new.functions.items) (progress_of c.value-2.new.blocks.items c.value-2.new.functions.items) (op_of c.in-Compare.op) (expr_of c.in-Compare.left.value) (expr_of c.in-Compare.other.value) _ _ _ _ first second c.in_ok-judge_kinds.ensures.alike)

pub condition::quantified_comparison-returns-in_err-left :
    goal.condition::quantified_comparison-returns-in_err-left
condition::quantified_comparison-returns-in_err-left t c =
    let tree = ap expr_of c.in-CompareAll.is ∙ of_compare_all c.in-CompareAll.start c.in-CompareAll.op c.in-CompareAll.quantifier c.in-CompareAll.left c.in-CompareAll.query in
    let f = c.in_err-left.field-0.0 in
    let inner : IfSome (bind_refusal f) (RefusesValue c.args.clause.now.database.now c.args.clause.now.scopes.now (place_of c.args.clause.now.place) (progress_of c.args.blocks.now.items c.args.functions.now.items) (expr_of c.in-CompareAll.left.value)) = rw c.deref.ensures at c.in_err-left.ensures in
    condition_err c.args.clause.now (progress_of c.args.blocks.now.items c.args.functions.now.items) _ _ _ f (is_passed _ c.from_residual.ensures.1) (rw tree (if_some (bind_refusal f) _ _ (λ r e. test_operand c.args.clause.now.database.now c.args.clause.now.scopes.now (place_of c.args.clause.now.place) (progress_of c.args.blocks.now.items c.args.functions.now.items) (spec.CompareAll (op_of c.in-CompareAll.op) (quantifier_of c.in-CompareAll.quantifier) (expr_of c.in-CompareAll.left.value) (query_of c.in-CompareAll.query.value)) (expr_of c.in-CompareAll.left.value) (query_of c.in-CompareAll.query.value) (b.Quantified (op_of c.in-CompareAll.op) (quantifier_of c.in-CompareAll.quantifier)) r (compare_all (op_of c.in-CompareAll.op) (quantifier_of c.in-CompareAll.quantifier)) e) inner))

pub condition::quantified_comparison-column_of_query-requires :
    goal.condition::quantified_comparison-column_of_query-requires
condition::quantified_comparison-column_of_query-requires t c =
    let first : BindsValue c.args.clause.now.database.now c.args.clause.now.scopes.now (place_of c.args.clause.now.place) (progress_of c.args.blocks.now.items c.args.functions.now.items) (progress_of c.value.new.blocks.items c.value.new.functions.items) (expr_of c.in-CompareAll.left.value) (value_of c.in_ok-left.left.value) (value_type_of c.in_ok-left.left.value_type) = rw c.deref.ensures at c.in_ok-left.ensures in
    let sight = c.requires.sight in let few = few_items c.value.new.blocks.items (few_after c.args.clause.now.database.now c.args.clause.now.scopes.now (place_of c.args.clause.now.place) (progress_of c.args.blocks.now.items c.args.functions.now.items) (progress_of c.value.new.blocks.items c.value.new.functions.items) _ _ first.adds) in search (rules, the_lemmas, sight, few)

pub condition::quantified_comparison-returns-in_err-block :
    goal.condition::quantified_comparison-returns-in_err-block
condition::quantified_comparison-returns-in_err-block t c =
    let tree = ap expr_of c.in-CompareAll.is ∙ of_compare_all c.in-CompareAll.start c.in-CompareAll.op c.in-CompareAll.quantifier c.in-CompareAll.left c.in-CompareAll.query in
    let first : BindsValue c.args.clause.now.database.now c.args.clause.now.scopes.now (place_of c.args.clause.now.place) (progress_of c.args.blocks.now.items c.args.functions.now.items) (progress_of c.value.new.blocks.items c.value.new.functions.items) (expr_of c.in-CompareAll.left.value) (value_of c.in_ok-left.left.value) (value_type_of c.in_ok-left.left.value_type) = rw c.deref.ensures at c.in_ok-left.ensures in
    let f = c.in_err-block.field-0.0 in
    let inner : IfSome (bind_refusal f) (RefusesColumn c.args.clause.now.database.now c.args.clause.now.scopes.now (place_of c.args.clause.now.place) (progress_of c.value.new.blocks.items c.value.new.functions.items) (query_of c.in-CompareAll.query.value)) = rw c.deref-2.ensures at (c.in_err-block.ensures (map bound_function_of c.value.new.functions.items)) in
    condition_err c.args.clause.now (progress_of c.args.blocks.now.items c.args.functions.now.items) _ _ _ f (is_passed _ c.from_residual-in_err-block.ensures.1) (rw tree (if_some (bind_refusal f) _ _ (λ r e. test_query c.args.clause.now.database.now c.args.clause.now.scopes.now (place_of c.args.clause.now.place) (progress_of c.args.blocks.now.items c.args.functions.now.items) (progress_of c.value.new.blocks.items c.value.new.functions.items) (spec.CompareAll (op_of c.in-CompareAll.op) (quantifier_of c.in-CompareAll.quantifier) (expr_of c.in-CompareAll.left.value) (query_of c.in-CompareAll.query.value)) (expr_of c.in-CompareAll.left.value) (query_of c.in-CompareAll.query.value) (b.Quantified (op_of c.in-CompareAll.op) (quantifier_of c.in-CompareAll.quantifier)) (value_of c.in_ok-left.left.value) (value_type_of c.in_ok-left.left.value_type) r (compare_all (op_of c.in-CompareAll.op) (quantifier_of c.in-CompareAll.quantifier)) first e) inner))

pub condition::quantified_comparison-returns-in_err-judge_kinds :
    goal.condition::quantified_comparison-returns-in_err-judge_kinds
condition::quantified_comparison-returns-in_err-judge_kinds t c =
    let tree = ap expr_of c.in-CompareAll.is ∙ of_compare_all c.in-CompareAll.start c.in-CompareAll.op c.in-CompareAll.quantifier c.in-CompareAll.left c.in-CompareAll.query in
    let first : BindsValue c.args.clause.now.database.now c.args.clause.now.scopes.now (place_of c.args.clause.now.place) (progress_of c.args.blocks.now.items c.args.functions.now.items) (progress_of c.value.new.blocks.items c.value.new.functions.items) (expr_of c.in-CompareAll.left.value) (value_of c.in_ok-left.left.value) (value_type_of c.in_ok-left.left.value_type) = rw c.deref.ensures at c.in_ok-left.ensures in
    let second : BindsColumn c.args.clause.now.database.now c.args.clause.now.scopes.now (place_of c.args.clause.now.place) (progress_of c.value.new.blocks.items c.value.new.functions.items) (progress_of c.column_of_query.new.blocks.items c.value.new.functions.items) (query_of c.in-CompareAll.query.value) c.in_ok-block.block (value_type_of c.in_ok-block.value_type) = rw c.deref-2.ensures at (c.in_ok-block.ensures (map bound_function_of c.value.new.functions.items)) in
    let q = c.in_err-judge_kinds.field-0.0 in
    condition_refused c.args.clause.now (progress_of c.args.blocks.now.items c.args.functions.now.items) _ _ _ q MixedKinds (is_refused _ q c.from_residual-in_err-judge_kinds.ensures) c.in_err-judge_kinds.ensures.refused
    (rw tree (test_mixed c.args.clause.now.database.now c.args.clause.now.scopes.now (place_of c.args.clause.now.place) (progress_of c.args.blocks.now.items c.args.functions.now.items) (progress_of c.value.new.blocks.items c.value.new.functions.items) (progress_of c.column_of_query.new.blocks.items c.value.new.functions.items) (spec.CompareAll (op_of c.in-CompareAll.op) (quantifier_of c.in-CompareAll.quantifier) (expr_of c.in-CompareAll.left.value) (query_of c.in-CompareAll.query.value)) (expr_of c.in-CompareAll.left.value) (query_of c.in-CompareAll.query.value) (b.Quantified (op_of c.in-CompareAll.op) (quantifier_of c.in-CompareAll.quantifier)) (value_of c.in_ok-left.left.value) (value_type_of c.in_ok-left.left.value_type) (value_type_of c.in_ok-block.value_type) c.in_ok-block.block (compare_all (op_of c.in-CompareAll.op) (quantifier_of c.in-CompareAll.quantifier)) first second c.in_err-judge_kinds.ensures.apart))

pub condition::quantified_comparison-returns :
    goal.condition::quantified_comparison-returns
condition::quantified_comparison-returns t c =
    let tree = ap expr_of c.in-CompareAll.is ∙ of_compare_all c.in-CompareAll.start c.in-CompareAll.op c.in-CompareAll.quantifier c.in-CompareAll.left c.in-CompareAll.query in
    let first : BindsValue c.args.clause.now.database.now c.args.clause.now.scopes.now (place_of c.args.clause.now.place) (progress_of c.args.blocks.now.items c.args.functions.now.items) (progress_of c.value.new.blocks.items c.value.new.functions.items) (expr_of c.in-CompareAll.left.value) (value_of c.in_ok-left.left.value) (value_type_of c.in_ok-left.left.value_type) = rw c.deref.ensures at c.in_ok-left.ensures in
    let second : BindsColumn c.args.clause.now.database.now c.args.clause.now.scopes.now (place_of c.args.clause.now.place) (progress_of c.value.new.blocks.items c.value.new.functions.items) (progress_of c.column_of_query.new.blocks.items c.value.new.functions.items) (query_of c.in-CompareAll.query.value) c.in_ok-block.block (value_type_of c.in_ok-block.value_type) = rw c.deref-2.ensures at (c.in_ok-block.ensures (map bound_function_of c.value.new.functions.items)) in
    rw (tree, bound_quantified c.in-CompareAll.op c.in-CompareAll.quantifier c.in_ok-left.left.value c.in_ok-block.block)
    (binds_test c.args.clause.now.database.now c.args.clause.now.scopes.now (place_of c.args.clause.now.place) (progress_of c.args.blocks.now.items c.args.functions.now.items) (progress_of c.value.new.blocks.items c.value.new.functions.items) (progress_of c.column_of_query.new.blocks.items c.value.new.functions.items) (spec.CompareAll (op_of c.in-CompareAll.op) (quantifier_of c.in-CompareAll.quantifier) (expr_of c.in-CompareAll.left.value) (query_of c.in-CompareAll.query.value)) (expr_of c.in-CompareAll.left.value) (query_of c.in-CompareAll.query.value) (b.Quantified (op_of c.in-CompareAll.op) (quantifier_of c.in-CompareAll.quantifier)) (value_of c.in_ok-left.left.value) (value_type_of c.in_ok-left.left.value_type) (value_type_of c.in_ok-block.value_type) c.in_ok-block.block (compare_all (op_of c.in-CompareAll.op) (quantifier_of c.in-CompareAll.quantifier)) first second c.in_ok-judge_kinds.ensures.alike)

pub condition::null_test-returns-in_err-typed :
    goal.condition::null_test-returns-in_err-typed
condition::null_test-returns-in_err-typed t c =
    let f = c.in_err-typed.field-0.0 in
    let inner : IfSome (bind_refusal f) (RefusesValue c.args.clause.now.database.now c.args.clause.now.scopes.now (place_of c.args.clause.now.place) (progress_of c.args.blocks.now.items c.args.functions.now.items) (expr_of c.args.operand.now)) = c.in_err-typed.ensures in
    condition_err c.args.clause.now (progress_of c.args.blocks.now.items c.args.functions.now.items) _ _ _ f (is_passed _ c.from_residual.ensures.1) ((if_some (bind_refusal f) _ _ (is_null_operand c.args.clause.now.database.now c.args.clause.now.scopes.now (place_of c.args.clause.now.place) (progress_of c.args.blocks.now.items c.args.functions.now.items) c.args.negated (expr_of c.args.operand.now)) inner))

pub condition::null_test-returns :
    goal.condition::null_test-returns
condition::null_test-returns t c =
    let first : BindsValue c.args.clause.now.database.now c.args.clause.now.scopes.now (place_of c.args.clause.now.place) (progress_of c.args.blocks.now.items c.args.functions.now.items) (progress_of c.value.new.blocks.items c.value.new.functions.items) (expr_of c.args.operand.now) (value_of c.in_ok-typed.typed.value) (value_type_of c.in_ok-typed.typed.value_type) = c.in_ok-typed.ensures in
    rw (bound_is_null c.args.negated c.in_ok-typed.typed.value) (binds_is_null c.args.clause.now.database.now c.args.clause.now.scopes.now (place_of c.args.clause.now.place) (progress_of c.args.blocks.now.items c.args.functions.now.items) (progress_of c.value.new.blocks.items c.value.new.functions.items) c.args.negated (expr_of c.args.operand.now) (value_of c.in_ok-typed.typed.value) (value_type_of c.in_ok-typed.typed.value_type) first)

pub condition::between-returns-in_err-typed :
    goal.condition::between-returns-in_err-typed
condition::between-returns-in_err-typed t c =
    let tree = ap expr_of c.in-Between.is ∙ of_between c.in-Between.start c.in-Between.negated c.in-Between.operand c.in-Between.least c.in-Between.greatest in
    let f = c.in_err-typed.field-0.0 in
    let inner : IfSome (bind_refusal f) (RefusesValue c.args.clause.now.database.now c.args.clause.now.scopes.now (place_of c.args.clause.now.place) (progress_of c.args.blocks.now.items c.args.functions.now.items) (expr_of c.in-Between.operand.value)) = rw c.deref.ensures at c.in_err-typed.ensures in
    condition_err c.args.clause.now (progress_of c.args.blocks.now.items c.args.functions.now.items) _ _ _ f (is_passed _ c.from_residual.ensures.1) (rw tree (if_some (bind_refusal f) _ _ (between_operand c.args.clause.now.database.now c.args.clause.now.scopes.now (place_of c.args.clause.now.place) (progress_of c.args.blocks.now.items c.args.functions.now.items) c.in-Between.negated (expr_of c.in-Between.operand.value) (expr_of c.in-Between.least.value) (expr_of c.in-Between.greatest.value)) inner))

pub condition::between-value-requires-2 :
    goal.condition::between-value-requires-2
condition::between-value-requires-2 t c =
    let first : BindsValue c.args.clause.now.database.now c.args.clause.now.scopes.now (place_of c.args.clause.now.place) (progress_of c.args.blocks.now.items c.args.functions.now.items) (progress_of c.value.new.blocks.items c.value.new.functions.items) (expr_of c.in-Between.operand.value) (value_of c.in_ok-typed.typed.value) (value_type_of c.in_ok-typed.typed.value_type) = rw c.deref.ensures at c.in_ok-typed.ensures in
    let sight = c.requires.sight in let few = few_items c.value.new.blocks.items (few_after c.args.clause.now.database.now c.args.clause.now.scopes.now (place_of c.args.clause.now.place) (progress_of c.args.blocks.now.items c.args.functions.now.items) (progress_of c.value.new.blocks.items c.value.new.functions.items) _ _ first.adds) in search (rules, the_lemmas, sight, few)

pub condition::between-returns-in_err-low :
    goal.condition::between-returns-in_err-low
condition::between-returns-in_err-low t c =
    let tree = ap expr_of c.in-Between.is ∙ of_between c.in-Between.start c.in-Between.negated c.in-Between.operand c.in-Between.least c.in-Between.greatest in
    let first : BindsValue c.args.clause.now.database.now c.args.clause.now.scopes.now (place_of c.args.clause.now.place) (progress_of c.args.blocks.now.items c.args.functions.now.items) (progress_of c.value.new.blocks.items c.value.new.functions.items) (expr_of c.in-Between.operand.value) (value_of c.in_ok-typed.typed.value) (value_type_of c.in_ok-typed.typed.value_type) = rw c.deref.ensures at c.in_ok-typed.ensures in
    let f = c.in_err-low.field-0.0 in
    let inner : IfSome (bind_refusal f) (RefusesValue c.args.clause.now.database.now c.args.clause.now.scopes.now (place_of c.args.clause.now.place) (progress_of c.value.new.blocks.items c.value.new.functions.items) (expr_of c.in-Between.least.value)) = rw c.deref-2.ensures at c.in_err-low.ensures in
    condition_err c.args.clause.now (progress_of c.args.blocks.now.items c.args.functions.now.items) _ _ _ f (is_passed _ c.from_residual-in_err-low.ensures.1) (rw tree (if_some (bind_refusal f) _ _ (λ r x. between_low c.args.clause.now.database.now c.args.clause.now.scopes.now (place_of c.args.clause.now.place) (progress_of c.args.blocks.now.items c.args.functions.now.items) (progress_of c.value.new.blocks.items c.value.new.functions.items) c.in-Between.negated (expr_of c.in-Between.operand.value) (expr_of c.in-Between.least.value) (expr_of c.in-Between.greatest.value) (value_of c.in_ok-typed.typed.value) (value_type_of c.in_ok-typed.typed.value_type) r first x) inner))

pub condition::between-value-requires-3 :
    goal.condition::between-value-requires-3
condition::between-value-requires-3 t c =
    let second : BindsValue c.args.clause.now.database.now c.args.clause.now.scopes.now (place_of c.args.clause.now.place) (progress_of c.value.new.blocks.items c.value.new.functions.items) (progress_of c.value-2.new.blocks.items c.value-2.new.functions.items) (expr_of c.in-Between.least.value) (value_of c.in_ok-low.low.value) (value_type_of c.in_ok-low.low.value_type) = rw c.deref-2.ensures at c.in_ok-low.ensures in
    let sight = c.requires.sight in let few = few_items c.value-2.new.blocks.items (few_after c.args.clause.now.database.now c.args.clause.now.scopes.now (place_of c.args.clause.now.place) (progress_of c.value.new.blocks.items c.value.new.functions.items) (progress_of c.value-2.new.blocks.items c.value-2.new.functions.items) _ _ second.adds) in search (rules, the_lemmas, sight, few)

pub condition::between-returns-in_err-high :
    goal.condition::between-returns-in_err-high
condition::between-returns-in_err-high t c =
    let tree = ap expr_of c.in-Between.is ∙ of_between c.in-Between.start c.in-Between.negated c.in-Between.operand c.in-Between.least c.in-Between.greatest in
    let first : BindsValue c.args.clause.now.database.now c.args.clause.now.scopes.now (place_of c.args.clause.now.place) (progress_of c.args.blocks.now.items c.args.functions.now.items) (progress_of c.value.new.blocks.items c.value.new.functions.items) (expr_of c.in-Between.operand.value) (value_of c.in_ok-typed.typed.value) (value_type_of c.in_ok-typed.typed.value_type) = rw c.deref.ensures at c.in_ok-typed.ensures in
    let second : BindsValue c.args.clause.now.database.now c.args.clause.now.scopes.now (place_of c.args.clause.now.place) (progress_of c.value.new.blocks.items c.value.new.functions.items) (progress_of c.value-2.new.blocks.items c.value-2.new.functions.items) (expr_of c.in-Between.least.value) (value_of c.in_ok-low.low.value) (value_type_of c.in_ok-low.low.value_type) = rw c.deref-2.ensures at c.in_ok-low.ensures in
    let f = c.in_err-high.field-0.0 in
    let inner : IfSome (bind_refusal f) (RefusesValue c.args.clause.now.database.now c.args.clause.now.scopes.now (place_of c.args.clause.now.place) (progress_of c.value-2.new.blocks.items c.value-2.new.functions.items) (expr_of c.in-Between.greatest.value)) = rw c.deref-3.ensures at c.in_err-high.ensures in
    condition_err c.args.clause.now (progress_of c.args.blocks.now.items c.args.functions.now.items) _ _ _ f (is_passed _ c.from_residual-in_err-high.ensures.1) (rw tree (if_some (bind_refusal f) _ _ (λ r x. between_high c.args.clause.now.database.now c.args.clause.now.scopes.now (place_of c.args.clause.now.place) (progress_of c.args.blocks.now.items c.args.functions.now.items) (progress_of c.value.new.blocks.items c.value.new.functions.items) (progress_of c.value-2.new.blocks.items c.value-2.new.functions.items) c.in-Between.negated (expr_of c.in-Between.operand.value) (expr_of c.in-Between.least.value) (expr_of c.in-Between.greatest.value) (value_of c.in_ok-typed.typed.value) (value_of c.in_ok-low.low.value) (value_type_of c.in_ok-typed.typed.value_type) (value_type_of c.in_ok-low.low.value_type) r first second x) inner))

pub condition::between-returns-in_err-judge_kinds :
    goal.condition::between-returns-in_err-judge_kinds
condition::between-returns-in_err-judge_kinds t c =
    let tree = ap expr_of c.in-Between.is ∙ of_between c.in-Between.start c.in-Between.negated c.in-Between.operand c.in-Between.least c.in-Between.greatest in
    let first : BindsValue c.args.clause.now.database.now c.args.clause.now.scopes.now (place_of c.args.clause.now.place) (progress_of c.args.blocks.now.items c.args.functions.now.items) (progress_of c.value.new.blocks.items c.value.new.functions.items) (expr_of c.in-Between.operand.value) (value_of c.in_ok-typed.typed.value) (value_type_of c.in_ok-typed.typed.value_type) = rw c.deref.ensures at c.in_ok-typed.ensures in
    let second : BindsValue c.args.clause.now.database.now c.args.clause.now.scopes.now (place_of c.args.clause.now.place) (progress_of c.value.new.blocks.items c.value.new.functions.items) (progress_of c.value-2.new.blocks.items c.value-2.new.functions.items) (expr_of c.in-Between.least.value) (value_of c.in_ok-low.low.value) (value_type_of c.in_ok-low.low.value_type) = rw c.deref-2.ensures at c.in_ok-low.ensures in
    let q = c.in_err-judge_kinds.field-0.0 in
    condition_refused c.args.clause.now (progress_of c.args.blocks.now.items c.args.functions.now.items) _ _ _ q MixedKinds (is_refused _ q c.from_residual-in_err-judge_kinds.ensures) c.in_err-judge_kinds.ensures.refused
    (rw tree (between_low_mixed c.args.clause.now.database.now c.args.clause.now.scopes.now (place_of c.args.clause.now.place) (progress_of c.args.blocks.now.items c.args.functions.now.items) (progress_of c.value.new.blocks.items c.value.new.functions.items) (progress_of c.value-2.new.blocks.items c.value-2.new.functions.items) c.in-Between.negated (expr_of c.in-Between.operand.value) (expr_of c.in-Between.least.value) (expr_of c.in-Between.greatest.value) (value_of c.in_ok-typed.typed.value) (value_of c.in_ok-low.low.value) (value_type_of c.in_ok-typed.typed.value_type) (value_type_of c.in_ok-low.low.value_type) first second c.in_err-judge_kinds.ensures.apart))

pub condition::between-returns-in_err-judge_kinds-2 :
    goal.condition::between-returns-in_err-judge_kinds-2
condition::between-returns-in_err-judge_kinds-2 t c =
    let tree = ap expr_of c.in-Between.is ∙ of_between c.in-Between.start c.in-Between.negated c.in-Between.operand c.in-Between.least c.in-Between.greatest in
    let first : BindsValue c.args.clause.now.database.now c.args.clause.now.scopes.now (place_of c.args.clause.now.place) (progress_of c.args.blocks.now.items c.args.functions.now.items) (progress_of c.value.new.blocks.items c.value.new.functions.items) (expr_of c.in-Between.operand.value) (value_of c.in_ok-typed.typed.value) (value_type_of c.in_ok-typed.typed.value_type) = rw c.deref.ensures at c.in_ok-typed.ensures in
    let third : BindsValue c.args.clause.now.database.now c.args.clause.now.scopes.now (place_of c.args.clause.now.place) (progress_of c.value-2.new.blocks.items c.value-2.new.functions.items) (progress_of c.value-3.new.blocks.items c.value-3.new.functions.items) (expr_of c.in-Between.greatest.value) (value_of c.in_ok-high.high.value) (value_type_of c.in_ok-high.high.value_type) = rw c.deref-3.ensures at c.in_ok-high.ensures in
    let q = c.in_err-judge_kinds-2.field-0.0 in
    condition_refused c.args.clause.now (progress_of c.args.blocks.now.items c.args.functions.now.items) _ _ _ q MixedKinds (is_refused _ q c.from_residual-in_err-judge_kinds-2.ensures) c.in_err-judge_kinds-2.ensures.refused
    (rw tree (between_high_mixed c.args.clause.now.database.now c.args.clause.now.scopes.now (place_of c.args.clause.now.place) (progress_of c.args.blocks.now.items c.args.functions.now.items) (progress_of c.value.new.blocks.items c.value.new.functions.items) (progress_of c.value-2.new.blocks.items c.value-2.new.functions.items) (progress_of c.value-3.new.blocks.items c.value-3.new.functions.items) c.in-Between.negated (expr_of c.in-Between.operand.value) (expr_of c.in-Between.least.value) (expr_of c.in-Between.greatest.value) (value_of c.in_ok-typed.typed.value) (value_of c.in_ok-high.high.value) (value_type_of c.in_ok-typed.typed.value_type) (value_type_of c.in_ok-high.high.value_type) first third c.in_err-judge_kinds-2.ensures.apart))

pub condition::between-returns :
    goal.condition::between-returns
condition::between-returns t c =
    let tree = ap expr_of c.in-Between.is ∙ of_between c.in-Between.start c.in-Between.negated c.in-Between.operand c.in-Between.least c.in-Between.greatest in
    let first : BindsValue c.args.clause.now.database.now c.args.clause.now.scopes.now (place_of c.args.clause.now.place) (progress_of c.args.blocks.now.items c.args.functions.now.items) (progress_of c.value.new.blocks.items c.value.new.functions.items) (expr_of c.in-Between.operand.value) (value_of c.in_ok-typed.typed.value) (value_type_of c.in_ok-typed.typed.value_type) = rw c.deref.ensures at c.in_ok-typed.ensures in
    let second : BindsValue c.args.clause.now.database.now c.args.clause.now.scopes.now (place_of c.args.clause.now.place) (progress_of c.value.new.blocks.items c.value.new.functions.items) (progress_of c.value-2.new.blocks.items c.value-2.new.functions.items) (expr_of c.in-Between.least.value) (value_of c.in_ok-low.low.value) (value_type_of c.in_ok-low.low.value_type) = rw c.deref-2.ensures at c.in_ok-low.ensures in
    let third : BindsValue c.args.clause.now.database.now c.args.clause.now.scopes.now (place_of c.args.clause.now.place) (progress_of c.value-2.new.blocks.items c.value-2.new.functions.items) (progress_of c.value-3.new.blocks.items c.value-3.new.functions.items) (expr_of c.in-Between.greatest.value) (value_of c.in_ok-high.high.value) (value_type_of c.in_ok-high.high.value_type) = rw c.deref-3.ensures at c.in_ok-high.ensures in
    rw (tree, bound_between c.in-Between.negated c.in_ok-typed.typed.value c.in_ok-low.low.value c.in_ok-high.high.value)
    (binds_between c.args.clause.now.database.now c.args.clause.now.scopes.now (place_of c.args.clause.now.place) (progress_of c.args.blocks.now.items c.args.functions.now.items) (progress_of c.value.new.blocks.items c.value.new.functions.items) (progress_of c.value-2.new.blocks.items c.value-2.new.functions.items) (progress_of c.value-3.new.blocks.items c.value-3.new.functions.items) c.in-Between.negated (expr_of c.in-Between.operand.value) (expr_of c.in-Between.least.value) (expr_of c.in-Between.greatest.value) (value_of c.in_ok-typed.typed.value) (value_of c.in_ok-low.low.value) (value_of c.in_ok-high.high.value) (value_type_of c.in_ok-typed.typed.value_type) (value_type_of c.in_ok-low.low.value_type) (value_type_of c.in_ok-high.high.value_type) first second third c.in_ok-judge_kinds.ensures.alike c.in_ok-judge_kinds-2.ensures.alike)

pub condition::like-returns-in_err-typed :
    goal.condition::like-returns-in_err-typed
condition::like-returns-in_err-typed t c =
    let f = c.in_err-typed.field-0.0 in
    let inner : IfSome (bind_refusal f) (RefusesValue c.args.clause.now.database.now c.args.clause.now.scopes.now (place_of c.args.clause.now.place) (progress_of c.args.blocks.now.items c.args.functions.now.items) (expr_of c.args.operand.now)) = c.in_err-typed.ensures in
    condition_err c.args.clause.now (progress_of c.args.blocks.now.items c.args.functions.now.items) _ _ _ f (is_passed _ c.from_residual-in_err-typed.ensures.1) ((if_some (bind_refusal f) _ _ (like_operand c.args.clause.now.database.now c.args.clause.now.scopes.now (place_of c.args.clause.now.place) (progress_of c.args.blocks.now.items c.args.functions.now.items) c.args.negated (expr_of c.args.operand.now) (text_of c.args.pattern.now)) inner))

pub condition::like-returns-in-Number : goal.condition::like-returns-in-Number
condition::like-returns-in-Number t c =
    let first : BindsValue c.args.clause.now.database.now c.args.clause.now.scopes.now (place_of c.args.clause.now.place) (progress_of c.args.blocks.now.items c.args.functions.now.items) (progress_of c.value.new.blocks.items c.value.new.functions.items) (expr_of c.args.operand.now) (value_of c.in_ok-typed.typed.value) (NumberType c.in-Number.scale) = rw c.in-Number.is at c.in_ok-typed.ensures in
    (like_number c.args.clause.now.database.now c.args.clause.now.scopes.now (place_of c.args.clause.now.place) (progress_of c.args.blocks.now.items c.args.functions.now.items) (progress_of c.value.new.blocks.items c.value.new.functions.items) c.args.negated (expr_of c.args.operand.now) (text_of c.args.pattern.now) (value_of c.in_ok-typed.typed.value) c.in-Number.scale first)

pub condition::like-returns :
    goal.condition::like-returns
condition::like-returns t c =
    let first : BindsValue c.args.clause.now.database.now c.args.clause.now.scopes.now (place_of c.args.clause.now.place) (progress_of c.args.blocks.now.items c.args.functions.now.items) (progress_of c.value.new.blocks.items c.value.new.functions.items) (expr_of c.args.operand.now) (value_of c.in_ok-typed.typed.value) (value_type_of c.in_ok-typed.typed.value_type) = c.in_ok-typed.ensures in
    let text : BindsValue c.args.clause.now.database.now c.args.clause.now.scopes.now (place_of c.args.clause.now.place) (progress_of c.args.blocks.now.items c.args.functions.now.items) (progress_of c.value.new.blocks.items c.value.new.functions.items) (expr_of c.args.operand.now) (value_of c.in_ok-typed.typed.value) TextType = rw (is_text c.in_ok-typed.typed.value_type c.in_default.not-Number) at first in
    rw (bound_like c.args.negated c.in_ok-typed.typed.value c.in_ok-pattern.pattern, c.in_ok-pattern.ensures.ok, c.as_str.ensures.value)
    (binds_like c.args.clause.now.database.now c.args.clause.now.scopes.now (place_of c.args.clause.now.place) (progress_of c.args.blocks.now.items c.args.functions.now.items) (progress_of c.value.new.blocks.items c.value.new.functions.items) c.args.negated (expr_of c.args.operand.now) (text_of c.args.pattern.now) (value_of c.in_ok-typed.typed.value) text)

pub condition::in_list-returns-then-len-gt-MAX_MEMBERS :
    goal.condition::in_list-returns-then-len-gt-MAX_MEMBERS
condition::in_list-returns-then-len-gt-MAX_MEMBERS t c =
    let tree = ap expr_of c.in-InList.is ∙ of_in_list c.in-InList.start c.in-InList.negated c.in-InList.operand c.in-InList.members in
    let many : 256 < member_count (member_list (map member_of c.in-InList.members.items)) = (let k = as_many_members c.in-InList.members.items in let l = c.len.ensures in let h = c.if-len-gt-MAX_MEMBERS.true in omega (arith, k, l, h)) in
    rw tree (many_in_list c.args.clause.now.database.now c.args.clause.now.scopes.now (place_of c.args.clause.now.place) (progress_of c.args.blocks.now.items c.args.functions.now.items) c.in-InList.negated (expr_of c.in-InList.operand.value) (member_list (map member_of c.in-InList.members.items)) many)

pub condition::in_list-returns-in_err-typed :
    goal.condition::in_list-returns-in_err-typed
condition::in_list-returns-in_err-typed t c =
    let tree = ap expr_of c.in-InList.is ∙ of_in_list c.in-InList.start c.in-InList.negated c.in-InList.operand c.in-InList.members in
    let f = c.in_err-typed.field-0.0 in
    let inner : IfSome (bind_refusal f) (RefusesValue c.args.clause.now.database.now c.args.clause.now.scopes.now (place_of c.args.clause.now.place) (progress_of c.args.blocks.now.items c.args.functions.now.items) (expr_of c.in-InList.operand.value)) = rw c.deref.ensures at c.in_err-typed.ensures in
    condition_err c.args.clause.now (progress_of c.args.blocks.now.items c.args.functions.now.items) _ _ _ f (is_passed _ c.from_residual.ensures.1) (rw tree (if_some (bind_refusal f) _ _ (in_list_operand c.args.clause.now.database.now c.args.clause.now.scopes.now (place_of c.args.clause.now.place) (progress_of c.args.blocks.now.items c.args.functions.now.items) c.in-InList.negated (expr_of c.in-InList.operand.value) (member_list (map member_of c.in-InList.members.items))) inner))

pub condition::in_list-bound_members-requires : goal.condition::in_list-bound_members-requires
condition::in_list-bound_members-requires t c =
    let first : BindsValue c.args.clause.now.database.now c.args.clause.now.scopes.now (place_of c.args.clause.now.place) (progress_of c.args.blocks.now.items c.args.functions.now.items) (progress_of c.value.new.blocks.items c.value.new.functions.items) (expr_of c.in-InList.operand.value) (value_of c.in_ok-typed.typed.value) (value_type_of c.in_ok-typed.typed.value_type) = rw c.deref.ensures at c.in_ok-typed.ensures in
    let list : IsList c.args.list.now = (c.in-InList.start, c.in-InList.negated, c.in-InList.operand, c.in-InList.members, c.in-InList.is) in let sight = c.requires.sight in let few = few_items c.value.new.blocks.items (few_after c.args.clause.now.database.now c.args.clause.now.scopes.now (place_of c.args.clause.now.place) (progress_of c.args.blocks.now.items c.args.functions.now.items) (progress_of c.value.new.blocks.items c.value.new.functions.items) _ _ first.adds) in search (rules, the_lemmas, sight, few, list)

pub condition::in_list-returns-in_err-members :
    goal.condition::in_list-returns-in_err-members
condition::in_list-returns-in_err-members t c =
    let tree = ap expr_of c.in-InList.is ∙ of_in_list c.in-InList.start c.in-InList.negated c.in-InList.operand c.in-InList.members in
    let first : BindsValue c.args.clause.now.database.now c.args.clause.now.scopes.now (place_of c.args.clause.now.place) (progress_of c.args.blocks.now.items c.args.functions.now.items) (progress_of c.value.new.blocks.items c.value.new.functions.items) (expr_of c.in-InList.operand.value) (value_of c.in_ok-typed.typed.value) (value_type_of c.in_ok-typed.typed.value_type) = rw c.deref.ensures at c.in_ok-typed.ensures in
    let f = c.in_err-members.field-0.0 in
    let inner : IfSome (bind_refusal f) (RefusesMembers c.args.clause.now.database.now c.args.clause.now.scopes.now (place_of c.args.clause.now.place) (progress_of c.value.new.blocks.items c.value.new.functions.items) (value_type_of c.in_ok-typed.typed.value_type) (member_list (map member_of c.in-InList.members.items))) = rw tree at c.in_err-members.ensures in
    condition_err c.args.clause.now (progress_of c.args.blocks.now.items c.args.functions.now.items) _ _ _ f (is_passed _ c.from_residual-in_err-members.ensures.1) (rw tree (if_some (bind_refusal f) _ _ (λ r x. in_list_members c.args.clause.now.database.now c.args.clause.now.scopes.now (place_of c.args.clause.now.place) (progress_of c.args.blocks.now.items c.args.functions.now.items) (progress_of c.value.new.blocks.items c.value.new.functions.items) c.in-InList.negated (expr_of c.in-InList.operand.value) (member_list (map member_of c.in-InList.members.items)) (value_of c.in_ok-typed.typed.value) (value_type_of c.in_ok-typed.typed.value_type) r first x) inner))

pub condition::in_list-returns :
    goal.condition::in_list-returns
condition::in_list-returns t c =
    let tree = ap expr_of c.in-InList.is ∙ of_in_list c.in-InList.start c.in-InList.negated c.in-InList.operand c.in-InList.members in
    let first : BindsValue c.args.clause.now.database.now c.args.clause.now.scopes.now (place_of c.args.clause.now.place) (progress_of c.args.blocks.now.items c.args.functions.now.items) (progress_of c.value.new.blocks.items c.value.new.functions.items) (expr_of c.in-InList.operand.value) (value_of c.in_ok-typed.typed.value) (value_type_of c.in_ok-typed.typed.value_type) = rw c.deref.ensures at c.in_ok-typed.ensures in
    let list : BindsMembers c.args.clause.now.database.now c.args.clause.now.scopes.now (place_of c.args.clause.now.place) (progress_of c.value.new.blocks.items c.value.new.functions.items) (progress_of c.bound_members.new.blocks.items c.bound_members.new.functions.items) (value_type_of c.in_ok-typed.typed.value_type) (member_list (map member_of c.in-InList.members.items)) (map bound_member_of c.in_ok-members.members.items) = rw tree at c.in_ok-members.ensures in
    let few : HasManyMembers (spec.InList c.in-InList.negated (expr_of c.in-InList.operand.value) (member_list (map member_of c.in-InList.members.items))) → ⊥ = λ m. absurd (let k = as_many_members c.in-InList.members.items in let l = c.len.ensures in let h = c.if-len-gt-MAX_MEMBERS.false in omega (arith, m, k, l, h)) in
    rw (tree, bound_in_list c.in-InList.negated c.in_ok-typed.typed.value c.in_ok-members.members)
    (binds_in_list c.args.clause.now.database.now c.args.clause.now.scopes.now (place_of c.args.clause.now.place) (progress_of c.args.blocks.now.items c.args.functions.now.items) (progress_of c.value.new.blocks.items c.value.new.functions.items) (progress_of c.bound_members.new.blocks.items c.bound_members.new.functions.items) c.in-InList.negated (expr_of c.in-InList.operand.value) (member_list (map member_of c.in-InList.members.items)) (value_of c.in_ok-typed.typed.value) (value_type_of c.in_ok-typed.typed.value_type) _ first list few)

pub condition::in_query-returns-in_err-typed :
    goal.condition::in_query-returns-in_err-typed
condition::in_query-returns-in_err-typed t c =
    let tree = ap expr_of c.in-InQuery.is ∙ of_in_query c.in-InQuery.start c.in-InQuery.negated c.in-InQuery.operand c.in-InQuery.query in
    let f = c.in_err-typed.field-0.0 in
    let inner : IfSome (bind_refusal f) (RefusesValue c.args.clause.now.database.now c.args.clause.now.scopes.now (place_of c.args.clause.now.place) (progress_of c.args.blocks.now.items c.args.functions.now.items) (expr_of c.in-InQuery.operand.value)) = rw c.deref.ensures at c.in_err-typed.ensures in
    condition_err c.args.clause.now (progress_of c.args.blocks.now.items c.args.functions.now.items) _ _ _ f (is_passed _ c.from_residual.ensures.1) (rw tree (if_some (bind_refusal f) _ _ (λ r e. test_operand c.args.clause.now.database.now c.args.clause.now.scopes.now (place_of c.args.clause.now.place) (progress_of c.args.blocks.now.items c.args.functions.now.items) (spec.InQuery c.in-InQuery.negated (expr_of c.in-InQuery.operand.value) (query_of c.in-InQuery.query.value)) (expr_of c.in-InQuery.operand.value) (query_of c.in-InQuery.query.value) (b.InQuery c.in-InQuery.negated) r (in_query c.in-InQuery.negated) e) inner))

pub condition::in_query-column_of_query-requires :
    goal.condition::in_query-column_of_query-requires
condition::in_query-column_of_query-requires t c =
    let first : BindsValue c.args.clause.now.database.now c.args.clause.now.scopes.now (place_of c.args.clause.now.place) (progress_of c.args.blocks.now.items c.args.functions.now.items) (progress_of c.value.new.blocks.items c.value.new.functions.items) (expr_of c.in-InQuery.operand.value) (value_of c.in_ok-typed.typed.value) (value_type_of c.in_ok-typed.typed.value_type) = rw c.deref.ensures at c.in_ok-typed.ensures in
    let sight = c.requires.sight in let few = few_items c.value.new.blocks.items (few_after c.args.clause.now.database.now c.args.clause.now.scopes.now (place_of c.args.clause.now.place) (progress_of c.args.blocks.now.items c.args.functions.now.items) (progress_of c.value.new.blocks.items c.value.new.functions.items) _ _ first.adds) in search (rules, the_lemmas, sight, few)

pub condition::in_query-returns-in_err-block :
    goal.condition::in_query-returns-in_err-block
condition::in_query-returns-in_err-block t c =
    let tree = ap expr_of c.in-InQuery.is ∙ of_in_query c.in-InQuery.start c.in-InQuery.negated c.in-InQuery.operand c.in-InQuery.query in
    let first : BindsValue c.args.clause.now.database.now c.args.clause.now.scopes.now (place_of c.args.clause.now.place) (progress_of c.args.blocks.now.items c.args.functions.now.items) (progress_of c.value.new.blocks.items c.value.new.functions.items) (expr_of c.in-InQuery.operand.value) (value_of c.in_ok-typed.typed.value) (value_type_of c.in_ok-typed.typed.value_type) = rw c.deref.ensures at c.in_ok-typed.ensures in
    let f = c.in_err-block.field-0.0 in
    let inner : IfSome (bind_refusal f) (RefusesColumn c.args.clause.now.database.now c.args.clause.now.scopes.now (place_of c.args.clause.now.place) (progress_of c.value.new.blocks.items c.value.new.functions.items) (query_of c.in-InQuery.query.value)) = rw c.deref-2.ensures at (c.in_err-block.ensures (map bound_function_of c.value.new.functions.items)) in
    condition_err c.args.clause.now (progress_of c.args.blocks.now.items c.args.functions.now.items) _ _ _ f (is_passed _ c.from_residual-in_err-block.ensures.1) (rw tree (if_some (bind_refusal f) _ _ (λ r e. test_query c.args.clause.now.database.now c.args.clause.now.scopes.now (place_of c.args.clause.now.place) (progress_of c.args.blocks.now.items c.args.functions.now.items) (progress_of c.value.new.blocks.items c.value.new.functions.items) (spec.InQuery c.in-InQuery.negated (expr_of c.in-InQuery.operand.value) (query_of c.in-InQuery.query.value)) (expr_of c.in-InQuery.operand.value) (query_of c.in-InQuery.query.value) (b.InQuery c.in-InQuery.negated) (value_of c.in_ok-typed.typed.value) (value_type_of c.in_ok-typed.typed.value_type) r (in_query c.in-InQuery.negated) first e) inner))

pub condition::in_query-returns-in_err-judge_kinds :
    goal.condition::in_query-returns-in_err-judge_kinds
condition::in_query-returns-in_err-judge_kinds t c =
    let tree = ap expr_of c.in-InQuery.is ∙ of_in_query c.in-InQuery.start c.in-InQuery.negated c.in-InQuery.operand c.in-InQuery.query in
    let first : BindsValue c.args.clause.now.database.now c.args.clause.now.scopes.now (place_of c.args.clause.now.place) (progress_of c.args.blocks.now.items c.args.functions.now.items) (progress_of c.value.new.blocks.items c.value.new.functions.items) (expr_of c.in-InQuery.operand.value) (value_of c.in_ok-typed.typed.value) (value_type_of c.in_ok-typed.typed.value_type) = rw c.deref.ensures at c.in_ok-typed.ensures in
    let second : BindsColumn c.args.clause.now.database.now c.args.clause.now.scopes.now (place_of c.args.clause.now.place) (progress_of c.value.new.blocks.items c.value.new.functions.items) (progress_of c.column_of_query.new.blocks.items c.value.new.functions.items) (query_of c.in-InQuery.query.value) c.in_ok-block.block (value_type_of c.in_ok-block.value_type) = rw c.deref-2.ensures at (c.in_ok-block.ensures (map bound_function_of c.value.new.functions.items)) in
    let q = c.in_err-judge_kinds.field-0.0 in
    condition_refused c.args.clause.now (progress_of c.args.blocks.now.items c.args.functions.now.items) _ _ _ q MixedKinds (is_refused _ q c.from_residual-in_err-judge_kinds.ensures) c.in_err-judge_kinds.ensures.refused
    (rw tree (test_mixed c.args.clause.now.database.now c.args.clause.now.scopes.now (place_of c.args.clause.now.place) (progress_of c.args.blocks.now.items c.args.functions.now.items) (progress_of c.value.new.blocks.items c.value.new.functions.items) (progress_of c.column_of_query.new.blocks.items c.value.new.functions.items) (spec.InQuery c.in-InQuery.negated (expr_of c.in-InQuery.operand.value) (query_of c.in-InQuery.query.value)) (expr_of c.in-InQuery.operand.value) (query_of c.in-InQuery.query.value) (b.InQuery c.in-InQuery.negated) (value_of c.in_ok-typed.typed.value) (value_type_of c.in_ok-typed.typed.value_type) (value_type_of c.in_ok-block.value_type) c.in_ok-block.block (in_query c.in-InQuery.negated) first second c.in_err-judge_kinds.ensures.apart))

pub condition::in_query-returns :
    goal.condition::in_query-returns
condition::in_query-returns t c =
    let tree = ap expr_of c.in-InQuery.is ∙ of_in_query c.in-InQuery.start c.in-InQuery.negated c.in-InQuery.operand c.in-InQuery.query in
    let first : BindsValue c.args.clause.now.database.now c.args.clause.now.scopes.now (place_of c.args.clause.now.place) (progress_of c.args.blocks.now.items c.args.functions.now.items) (progress_of c.value.new.blocks.items c.value.new.functions.items) (expr_of c.in-InQuery.operand.value) (value_of c.in_ok-typed.typed.value) (value_type_of c.in_ok-typed.typed.value_type) = rw c.deref.ensures at c.in_ok-typed.ensures in
    let second : BindsColumn c.args.clause.now.database.now c.args.clause.now.scopes.now (place_of c.args.clause.now.place) (progress_of c.value.new.blocks.items c.value.new.functions.items) (progress_of c.column_of_query.new.blocks.items c.value.new.functions.items) (query_of c.in-InQuery.query.value) c.in_ok-block.block (value_type_of c.in_ok-block.value_type) = rw c.deref-2.ensures at (c.in_ok-block.ensures (map bound_function_of c.value.new.functions.items)) in
    rw (tree, bound_in_query c.in-InQuery.negated c.in_ok-typed.typed.value c.in_ok-block.block)
    (binds_test c.args.clause.now.database.now c.args.clause.now.scopes.now (place_of c.args.clause.now.place) (progress_of c.args.blocks.now.items c.args.functions.now.items) (progress_of c.value.new.blocks.items c.value.new.functions.items) (progress_of c.column_of_query.new.blocks.items c.value.new.functions.items) (spec.InQuery c.in-InQuery.negated (expr_of c.in-InQuery.operand.value) (query_of c.in-InQuery.query.value)) (expr_of c.in-InQuery.operand.value) (query_of c.in-InQuery.query.value) (b.InQuery c.in-InQuery.negated) (value_of c.in_ok-typed.typed.value) (value_type_of c.in_ok-typed.typed.value_type) (value_type_of c.in_ok-block.value_type) c.in_ok-block.block (in_query c.in-InQuery.negated) first second c.in_ok-judge_kinds.ensures.alike)

pub condition::exists-returns-in_err-block :
    goal.condition::exists-returns-in_err-block
condition::exists-returns-in_err-block t c =
    let f = c.in_err-block.field-0.0 in
    let inner : IfSome (bind_refusal f) (RefusesQuery c.args.clause.now.database.now c.args.clause.now.scopes.now (place_of c.args.clause.now.place) (progress_of c.args.blocks.now.items c.args.functions.now.items) (query_of c.args.query.now)) = (c.in_err-block.ensures (map bound_function_of c.args.functions.now.items)) in
    condition_err c.args.clause.now (progress_of c.args.blocks.now.items c.args.functions.now.items) _ _ _ f (is_passed _ c.from_residual.ensures.1) ((if_some (bind_refusal f) _ _ (exists_query c.args.clause.now.database.now c.args.clause.now.scopes.now (place_of c.args.clause.now.place) (progress_of c.args.blocks.now.items c.args.functions.now.items) (query_of c.args.query.now)) inner))

pub condition::exists-returns :
    goal.condition::exists-returns
condition::exists-returns t c =
    let query : BindsQuery c.args.clause.now.database.now c.args.clause.now.scopes.now (place_of c.args.clause.now.place) (progress_of c.args.blocks.now.items c.args.functions.now.items) (progress_of c.inner_block.new.blocks.items c.args.functions.now.items) (query_of c.args.query.now) c.in_ok-block.block (option_map value_type_of c.in_ok-block.field-0-1) = (c.in_ok-block.ensures (map bound_function_of c.args.functions.now.items)) in
    rw (bound_exists c.in_ok-block.block) (binds_exists c.args.clause.now.database.now c.args.clause.now.scopes.now (place_of c.args.clause.now.place) (progress_of c.args.blocks.now.items c.args.functions.now.items) (progress_of c.inner_block.new.blocks.items c.args.functions.now.items) (query_of c.args.query.now) c.in_ok-block.block _ query)
