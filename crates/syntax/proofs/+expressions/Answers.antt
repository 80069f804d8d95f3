use Rattle.std.proofs.Common.{sym, ap, refl, subst, true, false, Result, Ok, ◌≡◌, ◌∙◌}
use Rattle.definitions.specs.Token.{Mark, CloseParen}
use Rattle.definitions.specs.Rule.{Past, Gives}
use Rattle.syntax_cursor.specs.declared.stop.ParseStop.{ParseStop}
use Rattle.syntax_cursor.specs.Reading.{Place, Outcome, EatsAsterisk}
use Rattle.syntax.specs.Reading.{LineAt}
use Rattle.std.proofs.Common.{Result, ap₂, ℕ, suc, map, [], ◌∷◌, ◌++◌, Bool, true, false}
use Rattle.definitions.specs.Statement as tree
use Rattle.definitions.specs.Grammar.{within}
use Rattle.sqlvalue.specs.Meaning.{op_of}
use Rattle.parse_tree.specs.Trees.{expr_of, quantifier_of, block_of, member_of, item_of, operand_of, function_of}
use Rattle.syntax_cursor.specs.Leaves.{line_kind}
use Rattle.syntax_cursor.proofs.Stopping.{nowhere_never, nowhere_first}
use Rattle.syntax_cursor.proofs.Opening.{inside, opens_past, opens_if, opens_reads, deep_past, deep_if, deep_reads, sign_opens}
use Rattle.syntax_cursor.proofs.Lists.{Lists, list_begins, list_fails, list_ends, map_push}
use Rattle.syntax_cursor.proofs.Lists as lists
use Rattle.syntax.proofs.Lines.{Lines, is_line, line_begins, line_goes_on, line_fails, line_ends, fewer, alone, several}
use Rattle.parse_tree.proofs.Views.{of_column, of_numeral, of_string, of_signed, of_not, of_compare, of_compare_all, of_between, of_in_list, of_in_query, of_exists, of_scalar, of_count_rows, of_function, of_line, of_operand, of_item, of_asterisk, of_items, of_block}
use Rattle.definitions.specs.Grammar as g
use Rattle.definitions.proofs.Grammar.{closed_alike, optional_alike, list_alike, name_alike, reference_alike, source_alike, distinct_alike, groups_alike, sum_alike, expr_alike, item_alike, select_list_alike, condition_alike, block_alike, subquery_alike, member_alike, within_alike}
use Rattle.syntax_cursor.proofs.Outcomes.{gives_as, then_on, flat_on, past_on, sees_on, misses_on, reads_on, reads_not_on, if_on, gives, past_fails, never_fails, then_fails, no_memory, begins}
use Rattle.syntax_cursor.specs.Places.{Reserved, Mark, one, if_there}
use Rattle.syntax_cursor.proofs.Places.{whole, ok_then, ok_goes_on, ok_behind, ok_behind_either, here, on, stays, still, seen_as, no_more, past, past_leaf, leaf_here, says_leaf, says_passed}
use Rattle.syntax.specs.Places.{all, expr_leaves, block_leaves, item_leaves, operand_leaves, sign_leaf, op_leaf, function_leaf}
use Rattle.std.proofs.Common.{length, arith}
use Rattle.std.proofs.lemmas.List.{length-map}
use Rattle.definitions.specs.Limits.{most_members, most_items, most_from_tables}
use Rattle.syntax.proofs.KeptLists.{few_kept, list_read_on, kept_on, list_ended}
use Rattle.syntax.proofs.Places as leaves
use Rattle.definitions.specs.Word as words
use Rattle.syntax.proofs.Lines.{no_operand}
use Rattle.std.proofs.Common.{append-nil}
use Rattle.syntax.proofs.Stops.{stops, closes, closed}
use Rattle.syntax.proofs.+expressions.Goals as goal

different : {b : Bool} → b ≡ true → b ≡ false → ⊥
different e f = cc

starred : (f : tree.SetFunction) {levels least : ℕ} {p q t : Place} {o : Result tree.Expr ParseStop} → EatsAsterisk f p q true → Outcome (λ m. Past (Mark CloseParen) (Gives tree.CountRows)) levels least q t o → Outcome (λ m. g.ArgumentOf (within m) f) levels least p t o
unfolding g.ArgumentOf
starred tree.Count at out = if_on at out
starred tree.Sum at out = absurd (different refl at.0)
starred tree.Avg at out = absurd (different refl at.0)
starred tree.Min at out = absurd (different refl at.0)
starred tree.Max at out = absurd (different refl at.0)

unstarred : (f : tree.SetFunction) {levels least : ℕ} {p q t : Place} {o : Result tree.Expr ParseStop} → EatsAsterisk f p q false → Outcome (λ m. g.DistinctOf (within m) f) levels least q t o → Outcome (λ m. g.ArgumentOf (within m) f) levels least p t o
unfolding g.ArgumentOf
unstarred tree.Count at out = misses_on at out
unstarred tree.Sum at out = begins at.1 out
unstarred tree.Avg at out = begins at.1 out
unstarred tree.Min at out = begins at.1 out
unstarred tree.Max at out = begins at.1 out

pub expr::line-returns-in_err-head-clause-reads : goal.expr::line-returns-in_err-head-clause-reads
expr::line-returns-in_err-head-clause-reads i c = stops _ _ c.from_residual.ensures.1 (is_line (line_kind c.args.kind) (then_fails c.in_err-head.ensures.reads))

pub expr::line-operands-init : goal.expr::line-operands-init
expr::line-operands-init i c = record {
  reads = subst (λ xs. Lines (line_kind c.args.kind) c.args.levels c.args.levels c.args.cursor.now c.operand.new.cursor (expr_of c.in_ok-head.head) xs) (sym (ap (map operand_of) c.new-others.ensures.items)) (line_begins (line_kind c.args.kind) c.args.levels c.args.levels c.args.cursor.now c.operand.new.cursor (expr_of c.in_ok-head.head) c.args.levels c.in_ok-head.ensures.reads);
  placed = seen_as (ap (λ xs. expr_leaves c.in_ok-head.head ++ all operand_leaves xs) c.new-others.ensures.items ∙ append-nil _) c.in_ok-head.ensures.placed;
}

pub expr::line-returns-in_err-value-clause-reads : goal.expr::line-returns-in_err-value-clause-reads
expr::line-returns-in_err-value-clause-reads i c = stops _ _ c.from_residual-in_err-value.ensures.1 (line_fails (line_kind c.args.kind) c.args.levels c.args.levels c.args.cursor.now c.operands.cursor c.take_line_operator.new.self c.operand-in-operands.new.cursor _ _ _ _ c.operands.invariant.reads c.in-Some.ensures c.in_err-value.ensures.reads)

pub expr::line-returns-in_err-push-clause-reads : goal.expr::line-returns-in_err-push-clause-reads
expr::line-returns-in_err-push-clause-reads i c = stops _ _ c.from_residual-in_err-push.ensures.1 (no_memory refl)

pub expr::line-operands-smaller : goal.expr::line-operands-smaller
expr::line-operands-smaller i c = fewer (line_kind c.args.kind) c.args.levels c.args.levels c.operands.cursor c.take_line_operator.new.self c.operand-in-operands.new.cursor _ _ c.args.levels c.in-Some.ensures c.in_ok-value.ensures.reads

pub expr::line-operands-preserved : goal.expr::line-operands-preserved
expr::line-operands-preserved i c = record {
  reads = subst (λ xs. Lines (line_kind c.args.kind) c.args.levels c.args.levels c.args.cursor.now c.operand-in-operands.new.cursor (expr_of c.operands.head-1) xs) (sym (ap (map operand_of) c.in_ok-push.ensures.items ∙ map_push _ _ _ ∙ ap (λ x. map operand_of c.operands.others.items ++ x ∷ []) (of_operand _))) (line_goes_on (line_kind c.args.kind) c.args.levels c.args.levels c.args.cursor.now c.operands.cursor c.take_line_operator.new.self c.operand-in-operands.new.cursor _ _ _ _ c.args.levels c.operands.invariant.reads c.in-Some.ensures c.in_ok-value.ensures.reads);
  placed = seen_as (ap (λ xs. expr_leaves c.operands.head-1 ++ all operand_leaves xs) c.in_ok-push.ensures.items ∙ leaves.all_behind (expr_leaves c.operands.head-1) operand_leaves c.operands.others.items _ ∙ ap (λ z. (expr_leaves c.operands.head-1 ++ all operand_leaves c.operands.others.items) ++ z) (leaves.of_operand _))
      (on c.operands.invariant.placed (on (leaf_here (leaves.operator_says _ _ _ c.in-Some.ensures.0) c.in-Some.ensures.1 c.start-start.ensures) c.in_ok-value.ensures.placed));
}

pub expr::line-returns-then-is_empty-clause-reads : goal.expr::line-returns-then-is_empty-clause-reads
expr::line-returns-then-is_empty-clause-reads i c = subst (λ z. Outcome (LineAt (line_kind c.args.kind)) c.args.levels c.args.levels c.args.cursor.now c.take_line_operator.new.self (Ok z)) (alone (expr_of c.operands.head-1) c.operands.others _ c.is_empty.ensures c.if-is_empty.true) (line_ends (line_kind c.args.kind) c.args.levels c.args.levels c.args.cursor.now c.operands.cursor c.take_line_operator.new.self (expr_of c.operands.head-1) (map operand_of c.operands.others.items) c.operands.invariant.reads c.in_default.ensures)

pub expr::line-returns-then-is_empty-clause-placed : goal.expr::line-returns-then-is_empty-clause-placed
expr::line-returns-then-is_empty-clause-placed i c = seen_as (sym (ap (λ xs. expr_leaves c.operands.head-1 ++ all operand_leaves xs) (no_operand c.operands.others _ c.is_empty.ensures c.if-is_empty.true) ∙ append-nil _)) (stays c.operands.invariant.placed c.in_default.ensures.1)

pub expr::line-returns-in_err-first-clause-reads : goal.expr::line-returns-in_err-first-clause-reads
expr::line-returns-in_err-first-clause-reads i c = stops _ _ c.from_residual-in_err-first.ensures.1 (no_memory refl)

pub expr::line-returns-clause-reads : goal.expr::line-returns-clause-reads
expr::line-returns-clause-reads i c = subst (λ z. Outcome (LineAt (line_kind c.args.kind)) c.args.levels c.args.levels c.args.cursor.now c.take_line_operator.new.self (Ok z)) (ap (λ e. g.operator_line (expr_of e) (g.operands (map operand_of c.operands.others.items))) (sym c.in_ok-first.ensures.ok) ∙ several _ c.operands.others _ c.is_empty.ensures c.if-is_empty.false ∙ sym (of_line _ _)) (line_ends (line_kind c.args.kind) c.args.levels c.args.levels c.args.cursor.now c.operands.cursor c.take_line_operator.new.self (expr_of c.operands.head-1) (map operand_of c.operands.others.items) c.operands.invariant.reads c.in_default.ensures)

pub expr::line-returns-clause-placed : goal.expr::line-returns-clause-placed
expr::line-returns-clause-placed i c = seen_as (leaves.of_line _ _ ∙ ap (λ z. expr_leaves z ++ all operand_leaves c.operands.others.items) c.in_ok-first.ensures.ok) (stays c.operands.invariant.placed c.in_default.ensures.1)

pub expr::operand-returns-in-Disjunction-clause-reads : goal.expr::operand-returns-in-Disjunction-clause-reads
expr::operand-returns-in-Disjunction-clause-reads i c = rw c.in-Disjunction.is c.line.ensures.reads

pub expr::operand-returns-in-Conjunction-clause-reads : goal.expr::operand-returns-in-Conjunction-clause-reads
expr::operand-returns-in-Conjunction-clause-reads i c = rw c.in-Conjunction.is c.negation.ensures.reads

pub expr::operand-returns-in-Sum-clause-reads : goal.expr::operand-returns-in-Sum-clause-reads
expr::operand-returns-in-Sum-clause-reads i c = rw c.in-Sum.is c.line-in-Sum.ensures.reads

pub expr::operand-returns-in-Product-clause-reads : goal.expr::operand-returns-in-Product-clause-reads
expr::operand-returns-in-Product-clause-reads i c = rw c.in-Product.is c.signed_operand.ensures.reads

pub expr::negation-returns-then-not-eat_word-clause-reads : goal.expr::negation-returns-then-not-eat_word-clause-reads
unfolding g.NegationOf
expr::negation-returns-then-not-eat_word-clause-reads i c = misses_on c.if-not-eat_word.ensures c.test.ensures.reads

pub expr::negation-returns-then-not-eat_word-clause-placed : goal.expr::negation-returns-then-not-eat_word-clause-placed
expr::negation-returns-then-not-eat_word-clause-placed i c = ok_then _ c.test.ensures.placed (λ e d. on (stays here c.if-not-eat_word.ensures.1) d)

pub expr::negation-returns-in_err-below-clause-reads : goal.expr::negation-returns-in_err-below-clause-reads
unfolding g.NegationOf
expr::negation-returns-in_err-below-clause-reads i c = stops _ _ c.from_residual.ensures.1 (deep_if (λ us at. nowhere_first us at (nowhere_never us at)) refl c.if-not-eat_word.ensures c.in_err-below.ensures.deep)

pub expr::negation-returns-in_err-operand-clause-reads : goal.expr::negation-returns-in_err-operand-clause-reads
unfolding g.NegationOf
expr::negation-returns-in_err-operand-clause-reads i c = stops _ _ c.from_residual-in_err-operand.ensures.1 (opens_if c.in_ok-below.ensures.ok refl c.if-not-eat_word.ensures (then_fails (inside (λ us at. nowhere_never us at) c.in_err-operand.ensures.reads)))

pub expr::negation-returns-in_err-operand-2-clause-reads : goal.expr::negation-returns-in_err-operand-2-clause-reads
expr::negation-returns-in_err-operand-2-clause-reads i c = stops _ _ c.from_residual-in_err-operand-2.ensures.1 (no_memory refl)

pub expr::negation-returns-clause-reads : goal.expr::negation-returns-clause-reads
unfolding g.NegationOf
expr::negation-returns-clause-reads i c = opens_if c.in_ok-below.ensures.ok refl c.if-not-eat_word.ensures (then_on (λ m. (within_alike (suc c.in_ok-below.below) m).negation) (inside (λ us at. nowhere_never us at) c.in_ok-operand.ensures.reads) (gives_as (of_not _ _ ∙ ap (λ z. tree.Not (expr_of z)) c.in_ok-operand-2.ensures.ok)))

pub expr::negation-returns-clause-placed : goal.expr::negation-returns-clause-placed
expr::negation-returns-clause-placed i c = seen_as (leaves.of_not _ _ ∙ ap (λ z. one (Reserved words.Not) c.start-start.result ++ expr_leaves z) c.in_ok-operand-2.ensures.ok) (on (past_leaf here c.start-start.ensures c.if-not-eat_word.ensures) c.in_ok-operand.ensures.placed)

pub expr::test-returns-in_err-value-clause-reads : goal.expr::test-returns-in_err-value-clause-reads
unfolding g.TestOf
expr::test-returns-in_err-value-clause-reads i c = stops _ _ c.from_residual.ensures.1 (then_fails c.in_err-value.ensures.reads)

pub expr::test-returns-in_err-left-clause-reads : goal.expr::test-returns-in_err-left-clause-reads
expr::test-returns-in_err-left-clause-reads i c = stops _ _ c.from_residual-in_err-left.ensures.1 (no_memory refl)

pub expr::test-returns-clause-reads : goal.expr::test-returns-clause-reads
unfolding g.TestOf
expr::test-returns-clause-reads i c = then_on (λ m. sum_alike (within_alike c.args.levels m)) c.in_ok-value.ensures.reads (rw c.in_ok-left.ensures.ok at c.tail.ensures.reads)

pub expr::test-returns-clause-placed : goal.expr::test-returns-clause-placed
expr::test-returns-clause-placed i c = ok_behind _ _ _ (rw c.in_ok-left.ensures.ok at c.tail.ensures.placed) c.in_ok-value.ensures.placed

pub expr::tail-returns-in-Some-clause-reads : goal.expr::tail-returns-in-Some-clause-reads
unfolding g.TailOf
expr::tail-returns-in-Some-clause-reads i c = reads_on c.in-Some.ensures c.comparison.ensures.reads

pub expr::tail-returns-in-Some-clause-placed : goal.expr::tail-returns-in-Some-clause-placed
expr::tail-returns-in-Some-clause-placed i c = ok_goes_on _ _ _ c.comparison.ensures.placed (λ from d. says_leaf leaves.op_says d c.start-start.ensures c.in-Some.ensures)

pub expr::tail-returns-then-eat_word_as-clause-reads : goal.expr::tail-returns-then-eat_word_as-clause-reads
unfolding g.TailOf
expr::tail-returns-then-eat_word_as-clause-reads i c = reads_not_on c.in_default.ensures (if_on c.if-eat_word_as.ensures (c.null_test.ensures.reads _ _))

pub expr::tail-returns-then-eat_word_as-clause-placed : goal.expr::tail-returns-then-eat_word_as-clause-placed
expr::tail-returns-then-eat_word_as-clause-placed i c = ok_goes_on _ _ _ c.null_test.ensures.placed (λ from d. past_leaf (stays d c.in_default.ensures.1) (still c.start-start.ensures c.in_default.ensures.1) c.if-eat_word_as.ensures)

pub expr::tail-returns-then-eat_word_as-2-clause-reads : goal.expr::tail-returns-then-eat_word_as-2-clause-reads
unfolding g.TailOf
expr::tail-returns-then-eat_word_as-2-clause-reads i c = reads_not_on c.in_default.ensures (misses_on c.if-eat_word_as.ensures (if_on c.if-eat_word_as-2.ensures c.predicate.ensures.reads))

pub expr::tail-returns-then-eat_word_as-2-clause-placed : goal.expr::tail-returns-then-eat_word_as-2-clause-placed
expr::tail-returns-then-eat_word_as-2-clause-placed i c = ok_goes_on _ _ _ c.predicate.ensures.placed (λ from d. past refl (stays (stays d c.in_default.ensures.1) c.if-eat_word_as.ensures.1) c.if-eat_word_as-2.ensures)

pub expr::tail-returns-else-eat_word_as-2-clause-reads : goal.expr::tail-returns-else-eat_word_as-2-clause-reads
unfolding g.TailOf
expr::tail-returns-else-eat_word_as-2-clause-reads i c = reads_not_on c.in_default.ensures (misses_on c.if-eat_word_as.ensures (misses_on c.if-eat_word_as-2.ensures c.predicate-else-eat_word_as-2.ensures.reads))

pub expr::tail-returns-else-eat_word_as-2-clause-placed : goal.expr::tail-returns-else-eat_word_as-2-clause-placed
expr::tail-returns-else-eat_word_as-2-clause-placed i c = ok_goes_on _ _ _ c.predicate-else-eat_word_as-2.ensures.placed (λ from d. stays (stays (stays d c.in_default.ensures.1) c.if-eat_word_as.ensures.1) c.if-eat_word_as-2.ensures.1)

pub expr::comparison-returns-in_err-right-clause-reads : goal.expr::comparison-returns-in_err-right-clause-reads
unfolding g.ComparedOf
expr::comparison-returns-in_err-right-clause-reads i c = stops _ _ c.from_residual.ensures.1 (reads_not_on c.in_default.ensures (then_fails c.in_err-right.ensures.reads))

pub expr::comparison-returns-in_err-right-2-clause-reads : goal.expr::comparison-returns-in_err-right-2-clause-reads
expr::comparison-returns-in_err-right-2-clause-reads i c = stops _ _ c.from_residual-in_err-right-2.ensures.1 (no_memory refl)

pub expr::comparison-returns-in_default-clause-reads : goal.expr::comparison-returns-in_default-clause-reads
unfolding g.ComparedOf
expr::comparison-returns-in_default-clause-reads i c = reads_not_on c.in_default.ensures (then_on (λ m. sum_alike (within_alike c.args.levels m)) c.in_ok-right.ensures.reads (gives_as (of_compare _ _ _ _ ∙ ap₂ (λ x y. tree.Compare (op_of c.args.op) (expr_of x) (expr_of y)) refl c.in_ok-right-2.ensures.ok)))

pub expr::comparison-returns-in_default-clause-placed : goal.expr::comparison-returns-in_default-clause-placed
expr::comparison-returns-in_default-clause-placed i c = λ from d. seen_as (leaves.of_compare _ _ _ _ ∙ ap₂ (λ x y. (expr_leaves x ++ one (op_leaf (op_of c.args.op)) c.args.start) ++ expr_leaves y) refl c.in_ok-right-2.ensures.ok) (on (stays d c.in_default.ensures.1) c.in_ok-right.ensures.placed)

pub expr::comparison-returns-in_err-expect_symbol-clause-reads : goal.expr::comparison-returns-in_err-expect_symbol-clause-reads
unfolding g.ComparedOf
expr::comparison-returns-in_err-expect_symbol-clause-reads i c = stops _ _ c.from_residual-in_err-expect_symbol.ensures.1 (reads_on c.in-Some.ensures (past_fails c.in_err-expect_symbol.ensures))

pub expr::comparison-returns-in_err-below-clause-reads : goal.expr::comparison-returns-in_err-below-clause-reads
unfolding g.ComparedOf
expr::comparison-returns-in_err-below-clause-reads i c = stops _ _ c.from_residual-in_err-below.ensures.1 (reads_on c.in-Some.ensures (deep_past (λ us at. nowhere_first us at (nowhere_never us at)) refl c.in_ok-expect_symbol.ensures c.in_err-below.ensures.deep))

pub expr::comparison-returns-in_err-query-clause-reads : goal.expr::comparison-returns-in_err-query-clause-reads
unfolding g.ComparedOf
expr::comparison-returns-in_err-query-clause-reads i c = stops _ _ c.from_residual-in_err-query.ensures.1 (reads_on c.in-Some.ensures (opens_past c.in_ok-below.ensures.ok refl c.in_ok-expect_symbol.ensures (then_fails (inside (λ us at. nowhere_never us at) c.in_err-query.ensures.reads))))

pub expr::comparison-returns-clause-reads : goal.expr::comparison-returns-clause-reads
unfolding g.ComparedOf
expr::comparison-returns-clause-reads i c = reads_on c.in-Some.ensures (opens_past c.in_ok-below.ensures.ok refl c.in_ok-expect_symbol.ensures (then_on (λ m. (within_alike (suc c.in_ok-below.below) m).subquery) (inside (λ us at. nowhere_never us at) c.in_ok-query.ensures.reads) (gives_as (of_compare_all _ _ _ _ _ ∙ ap (λ x. tree.CompareAll (op_of c.args.op) (quantifier_of c.in-Some.quantifier) (expr_of x) (block_of c.in_ok-query.query.value)) refl))))

pub expr::comparison-returns-clause-placed : goal.expr::comparison-returns-clause-placed
expr::comparison-returns-clause-placed i c = λ from d. seen_as (leaves.of_compare_all _ _ _ _ _ ∙ ap (λ x. (expr_leaves x ++ one (op_leaf (op_of c.args.op)) c.args.start) ++ block_leaves c.in_ok-query.query.value) refl) (on (past refl (says_passed leaves.quantifier_passed d c.in-Some.ensures) c.in_ok-expect_symbol.ensures) c.in_ok-query.ensures.placed)

pub expr::predicate-returns-then-eat_predicate-clause-reads : goal.expr::predicate-returns-then-eat_predicate-clause-reads
unfolding g.PredicateOf
expr::predicate-returns-then-eat_predicate-clause-reads i c = if_on c.if-eat_predicate.ensures c.between.ensures.reads

pub expr::predicate-returns-then-eat_predicate-clause-placed : goal.expr::predicate-returns-then-eat_predicate-clause-placed
expr::predicate-returns-then-eat_predicate-clause-placed i c = ok_goes_on _ _ _ c.between.ensures.placed (λ from d. past_leaf d c.start-start.ensures c.if-eat_predicate.ensures)

pub expr::predicate-returns-then-eat_predicate-2-clause-reads : goal.expr::predicate-returns-then-eat_predicate-2-clause-reads
unfolding g.PredicateOf
expr::predicate-returns-then-eat_predicate-2-clause-reads i c = misses_on c.if-eat_predicate.ensures (if_on c.if-eat_predicate-2.ensures (c.like.ensures.reads _ _))

pub expr::predicate-returns-then-eat_predicate-2-clause-placed : goal.expr::predicate-returns-then-eat_predicate-2-clause-placed
expr::predicate-returns-then-eat_predicate-2-clause-placed i c = ok_goes_on _ _ _ c.like.ensures.placed (λ from d. past_leaf (stays d c.if-eat_predicate.ensures.1) (still c.start-start.ensures c.if-eat_predicate.ensures.1) c.if-eat_predicate-2.ensures)

pub expr::predicate-returns-in_err-expect_symbol-clause-reads : goal.expr::predicate-returns-in_err-expect_symbol-clause-reads
unfolding g.PredicateOf
expr::predicate-returns-in_err-expect_symbol-clause-reads i c = stops _ _ c.from_residual.ensures.1 (misses_on c.if-eat_predicate.ensures (misses_on c.if-eat_predicate-2.ensures (if_on c.if-eat_predicate-3.ensures (past_fails c.in_err-expect_symbol.ensures))))

pub expr::predicate-returns-in_err-below-clause-reads : goal.expr::predicate-returns-in_err-below-clause-reads
unfolding g.PredicateOf
expr::predicate-returns-in_err-below-clause-reads i c = stops _ _ c.from_residual-in_err-below.ensures.1 (misses_on c.if-eat_predicate.ensures (misses_on c.if-eat_predicate-2.ensures (if_on c.if-eat_predicate-3.ensures (deep_past (λ us at. nowhere_never us at) refl c.in_ok-expect_symbol.ensures c.in_err-below.ensures.deep))))

pub expr::predicate-returns-in_ok-below-clause-reads : goal.expr::predicate-returns-in_ok-below-clause-reads
unfolding g.PredicateOf
expr::predicate-returns-in_ok-below-clause-reads i c = misses_on c.if-eat_predicate.ensures (misses_on c.if-eat_predicate-2.ensures (if_on c.if-eat_predicate-3.ensures (opens_past c.in_ok-below.ensures.ok refl c.in_ok-expect_symbol.ensures (inside (λ us at. nowhere_never us at) c.in_list.ensures.reads))))

pub expr::predicate-returns-in_ok-below-clause-placed : goal.expr::predicate-returns-in_ok-below-clause-placed
expr::predicate-returns-in_ok-below-clause-placed i c = ok_goes_on _ _ _ c.in_list.ensures.placed (λ from d. past refl (past_leaf (stays (stays d c.if-eat_predicate.ensures.1) c.if-eat_predicate-2.ensures.1) (still (still c.start-start.ensures c.if-eat_predicate.ensures.1) c.if-eat_predicate-2.ensures.1) c.if-eat_predicate-3.ensures) c.in_ok-expect_symbol.ensures)

pub expr::predicate-returns-then-negated-clause-reads : goal.expr::predicate-returns-then-negated-clause-reads
unfolding g.PredicateOf
expr::predicate-returns-then-negated-clause-reads i c = rw c.if-negated.true (misses_on c.if-eat_predicate.ensures (misses_on c.if-eat_predicate-2.ensures (misses_on c.if-eat_predicate-3.ensures (never_fails c.stop.ensures))))

pub expr::predicate-returns-else-negated-clause-reads : goal.expr::predicate-returns-else-negated-clause-reads
unfolding g.PredicateOf
expr::predicate-returns-else-negated-clause-reads i c = rw (c.if-negated.false, c.into_inner.ensures) (misses_on c.if-eat_predicate.ensures (misses_on c.if-eat_predicate-2.ensures (misses_on c.if-eat_predicate-3.ensures gives)))

pub expr::predicate-returns-else-negated-clause-placed : goal.expr::predicate-returns-else-negated-clause-placed
expr::predicate-returns-else-negated-clause-placed i c = λ from d. rw c.into_inner.ensures (stays (stays (stays d c.if-eat_predicate.ensures.1) c.if-eat_predicate-2.ensures.1) c.if-eat_predicate-3.ensures.1)

pub expr::between-returns-in_err-low-clause-reads : goal.expr::between-returns-in_err-low-clause-reads
unfolding g.BetweenOf
expr::between-returns-in_err-low-clause-reads i c = stops _ _ c.from_residual.ensures.1 (then_fails c.in_err-low.ensures.reads)

pub expr::between-returns-in_err-expect_word-clause-reads : goal.expr::between-returns-in_err-expect_word-clause-reads
unfolding g.BetweenOf
expr::between-returns-in_err-expect_word-clause-reads i c = stops _ _ c.from_residual-in_err-expect_word.ensures.1 (then_on (λ m. sum_alike (within_alike c.args.levels m)) c.in_ok-low.ensures.reads (past_fails c.in_err-expect_word.ensures))

pub expr::between-returns-in_err-high-clause-reads : goal.expr::between-returns-in_err-high-clause-reads
unfolding g.BetweenOf
expr::between-returns-in_err-high-clause-reads i c = stops _ _ c.from_residual-in_err-high.ensures.1 (then_on (λ m. sum_alike (within_alike c.args.levels m)) c.in_ok-low.ensures.reads (past_on c.in_ok-expect_word.ensures (then_fails c.in_err-high.ensures.reads)))

pub expr::between-returns-in_err-low-2-clause-reads : goal.expr::between-returns-in_err-low-2-clause-reads
expr::between-returns-in_err-low-2-clause-reads i c = stops _ _ c.from_residual-in_err-low-2.ensures.1 (no_memory refl)

pub expr::between-returns-in_err-high-2-clause-reads : goal.expr::between-returns-in_err-high-2-clause-reads
expr::between-returns-in_err-high-2-clause-reads i c = stops _ _ c.from_residual-in_err-high-2.ensures.1 (no_memory refl)

pub expr::between-returns-clause-reads : goal.expr::between-returns-clause-reads
unfolding g.BetweenOf
expr::between-returns-clause-reads i c = then_on (λ m. sum_alike (within_alike c.args.levels m)) c.in_ok-low.ensures.reads (past_on c.in_ok-expect_word.ensures (then_on (λ m. sum_alike (within_alike c.args.levels m)) c.in_ok-high.ensures.reads (gives_as (of_between _ _ _ _ _ ∙ ap₂ (λ x y. tree.Between c.args.negated (expr_of x) (expr_of y) (expr_of c.in_ok-high-2.high.value)) refl c.in_ok-low-2.ensures.ok ∙ ap (λ x. tree.Between c.args.negated (expr_of c.args.value.value) (expr_of c.in_ok-low.low) (expr_of x)) c.in_ok-high-2.ensures.ok))))

pub expr::between-returns-clause-placed : goal.expr::between-returns-clause-placed
expr::between-returns-clause-placed i c = λ from d. seen_as (leaves.of_between _ _ _ _ _ ∙ ap₂ (λ x y. ((expr_leaves x ++ one (Reserved words.Between) c.args.start) ++ expr_leaves y) ++ expr_leaves c.in_ok-high-2.high.value) refl c.in_ok-low-2.ensures.ok ∙ ap (λ x. ((expr_leaves c.args.value.value ++ one (Reserved words.Between) c.args.start) ++ expr_leaves c.in_ok-low.low) ++ expr_leaves x) c.in_ok-high-2.ensures.ok) (on (past refl (on d c.in_ok-low.ensures.placed) c.in_ok-expect_word.ensures) c.in_ok-high.ensures.placed)

pub expr::in_list-returns-in_err-query-clause-reads : goal.expr::in_list-returns-in_err-query-clause-reads
unfolding g.InListOf
expr::in_list-returns-in_err-query-clause-reads i c = stops _ _ c.from_residual.ensures.1 (sees_on (c.sees_word.ensures.stands.0 c.if-sees_word.true) (begins c.sees_word.ensures.same (then_fails c.in_err-query.ensures.reads)))

pub expr::in_list-returns-then-sees_word-clause-reads : goal.expr::in_list-returns-then-sees_word-clause-reads
unfolding g.InListOf
expr::in_list-returns-then-sees_word-clause-reads i c = sees_on (c.sees_word.ensures.stands.0 c.if-sees_word.true) (begins c.sees_word.ensures.same (then_on (λ m. subquery_alike (within_alike c.args.levels m)) c.in_ok-query.ensures.reads (gives_as (of_in_query _ _ _ _ ∙ ap (λ x. tree.InQuery c.args.negated (expr_of x) (block_of c.in_ok-query.query.value)) refl))))

pub expr::in_list-returns-then-sees_word-clause-placed : goal.expr::in_list-returns-then-sees_word-clause-placed
expr::in_list-returns-then-sees_word-clause-placed i c = λ from d. seen_as (leaves.of_in_query _ _ _ _ ∙ ap (λ x. (expr_leaves x ++ one (Reserved words.In) c.args.start) ++ block_leaves c.in_ok-query.query.value) refl) (on (stays d c.sees_word.ensures.same) c.in_ok-query.ensures.placed)

pub expr::in_list-returns-in_err-members-clause-reads : goal.expr::in_list-returns-in_err-members-clause-reads
unfolding g.InListOf
expr::in_list-returns-in_err-members-clause-reads i c = stops _ _ c.from_residual-in_err-members.ensures.1 (misses_on ((λ h. absurd (different (c.sees_word.ensures.stands.1 h) c.if-sees_word.false)), c.sees_word.ensures.same) (then_fails (then_fails c.in_err-members.ensures.reads)))

pub expr::in_list-returns-in_err-expect_symbol-clause-reads : goal.expr::in_list-returns-in_err-expect_symbol-clause-reads
unfolding g.InListOf
expr::in_list-returns-in_err-expect_symbol-clause-reads i c = stops _ _ c.from_residual-in_err-expect_symbol.ensures.1 (misses_on ((λ h. absurd (different (c.sees_word.ensures.stands.1 h) c.if-sees_word.false)), c.sees_word.ensures.same) (then_fails (then_on (λ m. list_alike most_members (member_alike (within_alike c.args.levels m))) c.in_ok-members.ensures.reads (past_fails c.in_err-expect_symbol.ensures))))

pub expr::in_list-returns-clause-reads : goal.expr::in_list-returns-clause-reads
unfolding g.InListOf
expr::in_list-returns-clause-reads i c = misses_on ((λ h. absurd (different (c.sees_word.ensures.stands.1 h) c.if-sees_word.false)), c.sees_word.ensures.same) (then_on {k = c.args.levels} (λ m. closed_alike (list_alike most_members (member_alike (within_alike c.args.levels m)))) (then_on (λ m. list_alike most_members (member_alike (within_alike c.args.levels m))) c.in_ok-members.ensures.reads (past_on c.in_ok-expect_symbol.ensures gives)) (gives_as (of_in_list _ _ _ _ ∙ ap (λ x. tree.InList c.args.negated (expr_of x) (g.member_list (map member_of c.in_ok-members.members.items))) refl)))

pub expr::in_list-returns-clause-placed : goal.expr::in_list-returns-clause-placed
expr::in_list-returns-clause-placed i c = λ from d. seen_as (leaves.of_in_list _ _ _ _ ∙ ap (λ x. (expr_leaves x ++ one (Reserved words.In) c.args.start) ++ all (if_there expr_leaves) c.in_ok-members.members.items) refl) (past refl (on (stays d c.sees_word.ensures.same) c.in_ok-members.ensures.placed) c.in_ok-expect_symbol.ensures)

pub expr::member-returns-then-eat_word-clause-reads : goal.expr::member-returns-then-eat_word-clause-reads
unfolding g.MemberOf
expr::member-returns-then-eat_word-clause-reads i c = if_on c.if-eat_word.ensures gives

pub expr::member-returns-then-eat_word-clause-placed : goal.expr::member-returns-then-eat_word-clause-placed
expr::member-returns-then-eat_word-clause-placed i c = past refl here c.if-eat_word.ensures

pub expr::member-returns-in_err-value-clause-reads : goal.expr::member-returns-in_err-value-clause-reads
unfolding g.MemberOf
expr::member-returns-in_err-value-clause-reads i c = stops _ _ c.from_residual.ensures.1 (misses_on c.if-eat_word.ensures (then_fails c.in_err-value.ensures.reads))

pub expr::member-returns-clause-reads : goal.expr::member-returns-clause-reads
unfolding g.MemberOf
expr::member-returns-clause-reads i c = misses_on c.if-eat_word.ensures (then_on (λ m. sum_alike (within_alike c.args.levels m)) c.in_ok-value.ensures.reads gives)

pub expr::member-returns-clause-placed : goal.expr::member-returns-clause-placed
expr::member-returns-clause-placed i c = on (stays here c.if-eat_word.ensures.1) c.in_ok-value.ensures.placed

pub expr::members-returns-in_err-first-clause-reads : goal.expr::members-returns-in_err-first-clause-reads
expr::members-returns-in_err-first-clause-reads i c = stops _ _ c.from_residual.ensures.1 (then_fails (then_fails c.in_err-first.ensures.reads))

pub expr::members-returns-in_err-push-clause-reads : goal.expr::members-returns-in_err-push-clause-reads
expr::members-returns-in_err-push-clause-reads i c = stops _ _ c.from_residual-in_err-push.ensures.1 (no_memory refl)

pub expr::members-members-init : goal.expr::members-members-init
expr::members-members-init i c = let first = c.in_ok-push.ensures.items ∙ ap (λ ys. ys ++ c.in_ok-first.first ∷ []) c.new-members.ensures.items in
    record {
      reads = subst (λ xs. Lists (λ m. g.MemberOf (within m)) most_members c.args.levels c.args.levels c.args.cursor.now c.member.new.cursor xs) (sym (ap (map member_of) first)) (list_begins (λ m. g.MemberOf (within m)) most_members c.args.levels c.args.levels (λ m. member_alike (within_alike c.args.levels m)) c.args.cursor.now c.member.new.cursor (member_of c.in_ok-first.first) c.args.levels c.in_ok-first.ensures.reads);
      few = let n = ap length first in omega (arith, n);
      placed = whole (seen_as (ap (all (if_there expr_leaves)) first ∙ leaves.all_push (if_there expr_leaves) [] _) c.in_ok-first.ensures.placed);
    }

pub expr::members-returns-in_err-member-clause-reads : goal.expr::members-returns-in_err-member-clause-reads
expr::members-returns-in_err-member-clause-reads i c = stops _ _ c.from_residual-in_err-member.ensures.1 (list_fails (λ m. g.MemberOf (within m)) most_members c.args.levels c.args.levels (λ m. member_alike (within_alike c.args.levels m)) c.args.cursor.now c.members.cursor c.eat_symbol.new.self c.member-in-members.new.cursor (map member_of c.members.members.items) _ c.members.invariant.reads c.if-not-eat_symbol.ensures c.in_err-member.ensures.reads)

pub expr::members-members-smaller : goal.expr::members-members-smaller
expr::members-members-smaller i c = lists.fewer (λ m. g.MemberOf (within m)) c.args.levels c.args.levels c.members.cursor c.eat_symbol.new.self c.member-in-members.new.cursor _ _ (member_alike (within_alike c.args.levels c.args.levels)) c.if-not-eat_symbol.ensures c.in_ok-member.ensures.reads

pub expr::members-members-preserved : goal.expr::members-members-preserved
expr::members-members-preserved i c = record {
  reads = list_read_on (λ m. g.MemberOf (within m)) most_members c.args.levels c.args.levels (λ m. member_alike (within_alike c.args.levels m)) member_of c.args.cursor.now c.members.cursor c.eat_symbol.new.self c.member-in-members.new.cursor c.members.members.items c.keep.new.kept.items c.in_ok-member.member c.args.levels
      c.members.invariant.few c.members.invariant.reads c.if-not-eat_symbol.ensures c.in_ok-member.ensures.reads c.in_ok-keep.ensures.ok;
  few = few_kept most_members c.members.members.items c.keep.new.kept.items c.in_ok-member.member c.members.invariant.few c.in_ok-keep.ensures.ok;
  placed = kept_on most_members (if_there expr_leaves) c.members.members.items c.keep.new.kept.items c.in_ok-member.member c.members.invariant.placed c.if-not-eat_symbol.ensures c.in_ok-member.ensures.placed c.in_ok-keep.ensures.ok;
}

pub expr::members-returns-in_err-keep-clause-reads : goal.expr::members-returns-in_err-keep-clause-reads
expr::members-returns-in_err-keep-clause-reads i c = stops _ _ c.from_residual-in_err-keep.ensures.1 (no_memory c.in_err-keep.ensures.memory)

pub expr::members-returns-in_err-end_list-clause-reads : goal.expr::members-returns-in_err-end_list-clause-reads
expr::members-returns-in_err-end_list-clause-reads i c = stops _ _ c.from_residual-in_err-end_list.ensures.1 (no_memory c.in_err-end_list.ensures.memory)

pub expr::members-returns-clause-reads : goal.expr::members-returns-clause-reads
expr::members-returns-clause-reads i c = list_ends (λ m. g.MemberOf (within m)) most_members c.args.levels c.args.levels (λ m. member_alike (within_alike c.args.levels m)) c.args.cursor.now c.members.cursor c.eat_symbol.new.self c.end_list.new.self (map member_of c.members.members.items) c.len.result
    (let n = length-map c.members.members.items member_of in let few = c.members.invariant.few in omega (arith, n, few)) c.members.invariant.reads c.if-not-eat_symbol.ensures c.in_ok-end_list.ensures.ok

pub expr::members-returns-clause-placed : goal.expr::members-returns-clause-placed
expr::members-returns-clause-placed i c = list_ended most_members c.members.members c.len.result c.len.ensures c.members.invariant.placed c.if-not-eat_symbol.ensures.1 c.in_ok-end_list.ensures.ok

pub query::items-returns-in_err-first-clause-reads : goal.query::items-returns-in_err-first-clause-reads
query::items-returns-in_err-first-clause-reads i c = stops _ _ c.from_residual.ensures.1 (then_fails (then_fails c.in_err-first.ensures.reads))

pub query::items-returns-in_err-push-clause-reads : goal.query::items-returns-in_err-push-clause-reads
query::items-returns-in_err-push-clause-reads i c = stops _ _ c.from_residual-in_err-push.ensures.1 (no_memory refl)

pub query::items-items-init : goal.query::items-items-init
query::items-items-init i c = let first = c.in_ok-push.ensures.items ∙ ap (λ ys. ys ++ c.in_ok-first.first ∷ []) c.new-items.ensures.items in
    record {
      reads = subst (λ xs. Lists (λ m. g.ItemOf (within m)) most_items c.args.levels c.args.levels c.args.cursor.now c.item.new.cursor xs) (sym (ap (map item_of) first)) (list_begins (λ m. g.ItemOf (within m)) most_items c.args.levels c.args.levels (λ m. item_alike (within_alike c.args.levels m)) c.args.cursor.now c.item.new.cursor (item_of c.in_ok-first.first) c.args.levels c.in_ok-first.ensures.reads);
      few = let n = ap length first in omega (arith, n);
      placed = whole (seen_as (ap (all item_leaves) first ∙ leaves.all_push item_leaves [] _) c.in_ok-first.ensures.placed);
    }

pub query::items-returns-in_err-item-clause-reads : goal.query::items-returns-in_err-item-clause-reads
query::items-returns-in_err-item-clause-reads i c = stops _ _ c.from_residual-in_err-item.ensures.1 (list_fails (λ m. g.ItemOf (within m)) most_items c.args.levels c.args.levels (λ m. item_alike (within_alike c.args.levels m)) c.args.cursor.now c.items.cursor c.eat_symbol.new.self c.item-in-items.new.cursor (map item_of c.items.items.items) _ c.items.invariant.reads c.if-not-eat_symbol.ensures c.in_err-item.ensures.reads)

pub query::items-items-smaller : goal.query::items-items-smaller
query::items-items-smaller i c = lists.fewer (λ m. g.ItemOf (within m)) c.args.levels c.args.levels c.items.cursor c.eat_symbol.new.self c.item-in-items.new.cursor _ _ (item_alike (within_alike c.args.levels c.args.levels)) c.if-not-eat_symbol.ensures c.in_ok-item.ensures.reads

pub query::items-items-preserved : goal.query::items-items-preserved
query::items-items-preserved i c = record {
  reads = list_read_on (λ m. g.ItemOf (within m)) most_items c.args.levels c.args.levels (λ m. item_alike (within_alike c.args.levels m)) item_of c.args.cursor.now c.items.cursor c.eat_symbol.new.self c.item-in-items.new.cursor c.items.items.items c.keep.new.kept.items c.in_ok-item.item c.args.levels
      c.items.invariant.few c.items.invariant.reads c.if-not-eat_symbol.ensures c.in_ok-item.ensures.reads c.in_ok-keep.ensures.ok;
  few = few_kept most_items c.items.items.items c.keep.new.kept.items c.in_ok-item.item c.items.invariant.few c.in_ok-keep.ensures.ok;
  placed = kept_on most_items item_leaves c.items.items.items c.keep.new.kept.items c.in_ok-item.item c.items.invariant.placed c.if-not-eat_symbol.ensures c.in_ok-item.ensures.placed c.in_ok-keep.ensures.ok;
}

pub query::items-returns-in_err-keep-clause-reads : goal.query::items-returns-in_err-keep-clause-reads
query::items-returns-in_err-keep-clause-reads i c = stops _ _ c.from_residual-in_err-keep.ensures.1 (no_memory c.in_err-keep.ensures.memory)

pub query::items-returns-in_err-end_list-clause-reads : goal.query::items-returns-in_err-end_list-clause-reads
query::items-returns-in_err-end_list-clause-reads i c = stops _ _ c.from_residual-in_err-end_list.ensures.1 (no_memory c.in_err-end_list.ensures.memory)

pub query::items-returns-clause-reads : goal.query::items-returns-clause-reads
query::items-returns-clause-reads i c = list_ends (λ m. g.ItemOf (within m)) most_items c.args.levels c.args.levels (λ m. item_alike (within_alike c.args.levels m)) c.args.cursor.now c.items.cursor c.eat_symbol.new.self c.end_list.new.self (map item_of c.items.items.items) c.len.result
    (let n = length-map c.items.items.items item_of in let few = c.items.invariant.few in omega (arith, n, few)) c.items.invariant.reads c.if-not-eat_symbol.ensures c.in_ok-end_list.ensures.ok

pub query::items-returns-clause-placed : goal.query::items-returns-clause-placed
query::items-returns-clause-placed i c = list_ended most_items c.items.items c.len.result c.len.ensures c.items.invariant.placed c.if-not-eat_symbol.ensures.1 c.in_ok-end_list.ensures.ok

pub expr::signed_operand-returns-in_default-clause-reads : goal.expr::signed_operand-returns-in_default-clause-reads
unfolding g.SignOf
expr::signed_operand-returns-in_default-clause-reads i c = reads_not_on c.in_default.ensures c.primary.ensures.reads

pub expr::signed_operand-returns-in_default-clause-placed : goal.expr::signed_operand-returns-in_default-clause-placed
expr::signed_operand-returns-in_default-clause-placed i c = ok_then _ c.primary.ensures.placed (λ e d. on (stays here c.in_default.ensures.1) d)

pub expr::signed_operand-returns-in_err-below-clause-reads : goal.expr::signed_operand-returns-in_err-below-clause-reads
unfolding g.SignOf
expr::signed_operand-returns-in_err-below-clause-reads i c = let o = sign_opens _ _ c.in-Some.ensures.0 in stops _ _ c.from_residual.ensures.1 (deep_reads o.0 o.1 (λ us at. nowhere_first us at (nowhere_never us at)) o.2 c.in-Some.ensures c.in_err-below.ensures.deep)

pub expr::signed_operand-returns-in_err-operand-clause-reads : goal.expr::signed_operand-returns-in_err-operand-clause-reads
unfolding g.SignOf
expr::signed_operand-returns-in_err-operand-clause-reads i c = let o = sign_opens _ _ c.in-Some.ensures.0 in stops _ _ c.from_residual-in_err-operand.ensures.1 (opens_reads o.0 o.1 c.in_ok-below.ensures.ok o.2 c.in-Some.ensures (then_fails (inside (λ us at. nowhere_never us at) c.in_err-operand.ensures.reads)))

pub expr::signed_operand-returns-in_err-operand-2-clause-reads : goal.expr::signed_operand-returns-in_err-operand-2-clause-reads
expr::signed_operand-returns-in_err-operand-2-clause-reads i c = stops _ _ c.from_residual-in_err-operand-2.ensures.1 (no_memory refl)

pub expr::signed_operand-returns-clause-reads : goal.expr::signed_operand-returns-clause-reads
unfolding g.SignOf
expr::signed_operand-returns-clause-reads i c = let o = sign_opens _ _ c.in-Some.ensures.0 in opens_reads o.0 o.1 c.in_ok-below.ensures.ok o.2 c.in-Some.ensures (then_on (λ m. (within_alike (suc c.in_ok-below.below) m).sign) (inside (λ us at. nowhere_never us at) c.in_ok-operand.ensures.reads) (gives_as (of_signed _ _ _ ∙ ap (λ z. tree.Signed c.in-Some.minus (expr_of z)) c.in_ok-operand-2.ensures.ok)))

pub expr::signed_operand-returns-clause-placed : goal.expr::signed_operand-returns-clause-placed
expr::signed_operand-returns-clause-placed i c = seen_as (leaves.of_signed _ _ _ ∙ ap (λ z. one (sign_leaf c.in-Some.minus) c.start-start.result ++ expr_leaves z) c.in_ok-operand-2.ensures.ok) (on (says_leaf leaves.sign_says here c.start-start.ensures c.in-Some.ensures) c.in_ok-operand.ensures.placed)

pub expr::primary-returns-in-Some-clause-reads : goal.expr::primary-returns-in-Some-clause-reads
unfolding g.PrimaryOf
expr::primary-returns-in-Some-clause-reads i c = reads_on (c.in-Some.ensures.taken.0.1, c.in-Some.ensures.taken.1) (gives_as (of_numeral _ ∙ c.in-Some.ensures.taken.0.2))

pub expr::primary-returns-in-Some-clause-placed : goal.expr::primary-returns-in-Some-clause-placed
expr::primary-returns-in-Some-clause-placed i c = seen_as (leaves.of_numeral _) c.in-Some.ensures.placed

pub expr::primary-returns-in_err-string-clause-reads : goal.expr::primary-returns-in_err-string-clause-reads
unfolding g.PrimaryOf
expr::primary-returns-in_err-string-clause-reads i c = stops _ _ c.from_residual.ensures.1 (no_memory c.in_err-string.ensures.memory)

pub expr::primary-returns-in-Some-2-clause-reads : goal.expr::primary-returns-in-Some-2-clause-reads
unfolding g.PrimaryOf
expr::primary-returns-in-Some-2-clause-reads i c = reads_not_on c.in_default.ensures.taken (reads_on (rw c.in-Some-2.is at c.in_ok-string.ensures.ok) (gives_as (of_string _)))

pub expr::primary-returns-in-Some-2-clause-placed : goal.expr::primary-returns-in-Some-2-clause-placed
expr::primary-returns-in-Some-2-clause-placed i c = seen_as (leaves.of_string _) (on c.in_default.ensures.placed (rw c.in-Some-2.is at c.in_ok-string.ensures.placed))

pub expr::primary-returns-in_err-expect_symbol-clause-reads : goal.expr::primary-returns-in_err-expect_symbol-clause-reads
unfolding g.PrimaryOf
expr::primary-returns-in_err-expect_symbol-clause-reads i c = stops _ _ c.from_residual-in_err-expect_symbol.ensures.1 (reads_not_on c.in_default.ensures.taken (reads_not_on (rw c.in_default-2.is at c.in_ok-string.ensures.ok) (reads_on c.in-Some-take_set_function.ensures (past_fails c.in_err-expect_symbol.ensures))))

pub expr::primary-returns-in_err-below-clause-reads : goal.expr::primary-returns-in_err-below-clause-reads
unfolding g.PrimaryOf
expr::primary-returns-in_err-below-clause-reads i c = stops _ _ c.from_residual-in_err-below.ensures.1 (reads_not_on c.in_default.ensures.taken (reads_not_on (rw c.in_default-2.is at c.in_ok-string.ensures.ok) (reads_on c.in-Some-take_set_function.ensures (deep_past (λ us at. nowhere_never us at) refl c.in_ok-expect_symbol.ensures c.in_err-below.ensures.deep))))

pub expr::primary-returns-in_ok-below-clause-reads : goal.expr::primary-returns-in_ok-below-clause-reads
unfolding g.PrimaryOf
expr::primary-returns-in_ok-below-clause-reads i c = reads_not_on c.in_default.ensures.taken (reads_not_on (rw c.in_default-2.is at c.in_ok-string.ensures.ok) (reads_on c.in-Some-take_set_function.ensures (opens_past c.in_ok-below.ensures.ok refl c.in_ok-expect_symbol.ensures (inside (λ us at. nowhere_never us at) c.argument.ensures.reads))))

pub expr::primary-returns-in_ok-below-clause-placed : goal.expr::primary-returns-in_ok-below-clause-placed
expr::primary-returns-in_ok-below-clause-placed i c = let e = (rw c.in_default-2.is at c.in_ok-string.ensures.ok).1 ∙ c.in_default.ensures.taken.1 in ok_behind _ _ _ c.argument.ensures.placed (past refl (says_leaf leaves.function_says (stays here e) (still c.start-start.ensures e) c.in-Some-take_set_function.ensures) c.in_ok-expect_symbol.ensures)

pub expr::primary-returns-in_default-take_set_function-clause-reads : goal.expr::primary-returns-in_default-take_set_function-clause-reads
unfolding g.PrimaryOf
expr::primary-returns-in_default-take_set_function-clause-reads i c = reads_not_on c.in_default.ensures.taken (reads_not_on (rw c.in_default-2.is at c.in_ok-string.ensures.ok) (reads_not_on c.in_default-take_set_function.ensures c.other_primary.ensures.reads))

pub expr::primary-returns-in_default-take_set_function-clause-placed : goal.expr::primary-returns-in_default-take_set_function-clause-placed
expr::primary-returns-in_default-take_set_function-clause-placed i c = let e = (rw c.in_default-2.is at c.in_ok-string.ensures.ok).1 ∙ c.in_default.ensures.taken.1 in ok_then _ c.other_primary.ensures.placed (λ x d. on (stays (stays here e) c.in_default-take_set_function.ensures.1) d)

pub expr::other_primary-returns-in_err-expect_symbol-clause-reads : goal.expr::other_primary-returns-in_err-expect_symbol-clause-reads
unfolding g.OtherPrimaryOf
expr::other_primary-returns-in_err-expect_symbol-clause-reads i c = stops _ _ c.from_residual.ensures.1 (if_on c.if-eat_word_as.ensures (past_fails c.in_err-expect_symbol.ensures))

pub expr::other_primary-returns-in_err-below-clause-reads : goal.expr::other_primary-returns-in_err-below-clause-reads
unfolding g.OtherPrimaryOf
expr::other_primary-returns-in_err-below-clause-reads i c = stops _ _ c.from_residual-in_err-below.ensures.1 (if_on c.if-eat_word_as.ensures (deep_past (λ us at. nowhere_first us at (nowhere_never us at)) refl c.in_ok-expect_symbol.ensures c.in_err-below.ensures.deep))

pub expr::other_primary-returns-in_err-query-clause-reads : goal.expr::other_primary-returns-in_err-query-clause-reads
unfolding g.OtherPrimaryOf
expr::other_primary-returns-in_err-query-clause-reads i c = stops _ _ c.from_residual-in_err-query.ensures.1 (if_on c.if-eat_word_as.ensures (opens_past c.in_ok-below.ensures.ok refl c.in_ok-expect_symbol.ensures (then_fails (inside (λ us at. nowhere_never us at) c.in_err-query.ensures.reads))))

pub expr::other_primary-returns-in_ok-query-clause-reads : goal.expr::other_primary-returns-in_ok-query-clause-reads
unfolding g.OtherPrimaryOf
expr::other_primary-returns-in_ok-query-clause-reads i c = if_on c.if-eat_word_as.ensures (opens_past c.in_ok-below.ensures.ok refl c.in_ok-expect_symbol.ensures (then_on (λ m. (within_alike (suc c.in_ok-below.below) m).subquery) (inside (λ us at. nowhere_never us at) c.in_ok-query.ensures.reads) (gives_as (of_exists _ _))))

pub expr::other_primary-returns-in_ok-query-clause-placed : goal.expr::other_primary-returns-in_ok-query-clause-placed
expr::other_primary-returns-in_ok-query-clause-placed i c = seen_as (leaves.of_exists _ _) (on (past refl (past_leaf here c.start-start.ensures c.if-eat_word_as.ensures) c.in_ok-expect_symbol.ensures) c.in_ok-query.ensures.placed)

pub expr::other_primary-returns-in_err-below-2-clause-reads : goal.expr::other_primary-returns-in_err-below-2-clause-reads
unfolding g.OtherPrimaryOf
expr::other_primary-returns-in_err-below-2-clause-reads i c = stops _ _ c.from_residual-in_err-below-2.ensures.1 (misses_on c.if-eat_word_as.ensures (deep_if (λ us at. nowhere_never us at) refl c.if-eat_symbol_as.ensures c.in_err-below-2.ensures.deep))

pub expr::other_primary-returns-in_ok-below-2-clause-reads : goal.expr::other_primary-returns-in_ok-below-2-clause-reads
unfolding g.OtherPrimaryOf
expr::other_primary-returns-in_ok-below-2-clause-reads i c = misses_on c.if-eat_word_as.ensures (opens_if c.in_ok-below-2.ensures.ok refl c.if-eat_symbol_as.ensures (inside (λ us at. nowhere_never us at) c.parenthesis.ensures.reads))

pub expr::other_primary-returns-in_ok-below-2-clause-placed : goal.expr::other_primary-returns-in_ok-below-2-clause-placed
expr::other_primary-returns-in_ok-below-2-clause-placed i c = ok_behind_either _ _ _ c.parenthesis.ensures.placed (past refl (stays here c.if-eat_word_as.ensures.1) c.if-eat_symbol_as.ensures) (past_leaf (stays here c.if-eat_word_as.ensures.1) (still c.start-start.ensures c.if-eat_word_as.ensures.1) c.if-eat_symbol_as.ensures)

pub expr::other_primary-returns-in_err-column-clause-reads : goal.expr::other_primary-returns-in_err-column-clause-reads
unfolding g.OtherPrimaryOf
expr::other_primary-returns-in_err-column-clause-reads i c = stops _ _ c.from_residual-in_err-column.ensures.1 (misses_on c.if-eat_word_as.ensures (misses_on c.if-eat_symbol_as.ensures (then_fails (c.in_err-column.ensures.reads _ _))))

pub expr::other_primary-returns-in_ok-column-clause-reads : goal.expr::other_primary-returns-in_ok-column-clause-reads
unfolding g.OtherPrimaryOf
expr::other_primary-returns-in_ok-column-clause-reads i c = misses_on c.if-eat_word_as.ensures (misses_on c.if-eat_symbol_as.ensures (flat_on reference_alike c.in_ok-column.ensures.reads (gives_as (of_column _))))

pub expr::other_primary-returns-in_ok-column-clause-placed : goal.expr::other_primary-returns-in_ok-column-clause-placed
expr::other_primary-returns-in_ok-column-clause-placed i c = seen_as (leaves.of_column _) (on (stays (stays here c.if-eat_word_as.ensures.1) c.if-eat_symbol_as.ensures.1) c.in_ok-column.ensures.placed)

pub expr::parenthesis-returns-in_err-query-clause-reads : goal.expr::parenthesis-returns-in_err-query-clause-reads
unfolding g.ParenthesisOf
expr::parenthesis-returns-in_err-query-clause-reads i c = stops _ _ c.from_residual.ensures.1 (sees_on (c.sees_word.ensures.stands.0 c.if-sees_word.true) (begins c.sees_word.ensures.same (then_fails c.in_err-query.ensures.reads)))

pub expr::parenthesis-returns-then-sees_word-clause-reads : goal.expr::parenthesis-returns-then-sees_word-clause-reads
unfolding g.ParenthesisOf
expr::parenthesis-returns-then-sees_word-clause-reads i c = sees_on (c.sees_word.ensures.stands.0 c.if-sees_word.true) (begins c.sees_word.ensures.same (then_on (λ m. subquery_alike (within_alike c.args.levels m)) c.in_ok-query.ensures.reads (gives_as (of_scalar _ _))))

pub expr::parenthesis-returns-then-sees_word-clause-placed : goal.expr::parenthesis-returns-then-sees_word-clause-placed
expr::parenthesis-returns-then-sees_word-clause-placed i c = λ from d f. seen_as (leaves.of_scalar _ _) (on (stays f c.sees_word.ensures.same) c.in_ok-query.ensures.placed)

pub expr::parenthesis-returns-in_err-inner-clause-reads : goal.expr::parenthesis-returns-in_err-inner-clause-reads
unfolding g.ParenthesisOf
expr::parenthesis-returns-in_err-inner-clause-reads i c = stops _ _ c.from_residual-in_err-inner.ensures.1 (misses_on ((λ h. absurd (different (c.sees_word.ensures.stands.1 h) c.if-sees_word.false)), c.sees_word.ensures.same) (then_fails c.in_err-inner.ensures.reads))

pub expr::parenthesis-returns-clause-reads : goal.expr::parenthesis-returns-clause-reads
unfolding g.ParenthesisOf
expr::parenthesis-returns-clause-reads i c = rw c.and.ensures (misses_on ((λ h. absurd (different (c.sees_word.ensures.stands.1 h) c.if-sees_word.false)), c.sees_word.ensures.same) (then_on (λ m. expr_alike (within_alike c.args.levels m)) c.in_ok-inner.ensures.reads (closes _ _ _ c.expect_symbol.ensures)))

pub expr::parenthesis-returns-clause-placed : goal.expr::parenthesis-returns-clause-placed
expr::parenthesis-returns-clause-placed i c = rw c.and.ensures (closed _ _ _ c.expect_symbol.ensures (λ at from d f. past refl (on (stays d c.sees_word.ensures.same) c.in_ok-inner.ensures.placed) at))

pub expr::subquery-returns-in_err-query-clause-reads : goal.expr::subquery-returns-in_err-query-clause-reads
unfolding g.SubqueryOf
expr::subquery-returns-in_err-query-clause-reads i c = stops _ _ c.from_residual.ensures.1 (then_fails c.in_err-query.ensures.reads)

pub expr::subquery-returns-in_err-expect_symbol-clause-reads : goal.expr::subquery-returns-in_err-expect_symbol-clause-reads
unfolding g.SubqueryOf
expr::subquery-returns-in_err-expect_symbol-clause-reads i c = stops _ _ c.from_residual-in_err-expect_symbol.ensures.1 (then_on (λ m. block_alike (within_alike c.args.levels m)) c.in_ok-query.ensures.reads (past_fails c.in_err-expect_symbol.ensures))

pub expr::subquery-returns-in_err-query-2-clause-reads : goal.expr::subquery-returns-in_err-query-2-clause-reads
expr::subquery-returns-in_err-query-2-clause-reads i c = stops _ _ c.from_residual-in_err-query-2.ensures.1 (no_memory refl)

pub expr::subquery-returns-clause-reads : goal.expr::subquery-returns-clause-reads
unfolding g.SubqueryOf
expr::subquery-returns-clause-reads i c = then_on (λ m. block_alike (within_alike c.args.levels m)) c.in_ok-query.ensures.reads (past_on c.in_ok-expect_symbol.ensures (gives_as (ap block_of c.in_ok-query-2.ensures.ok)))

pub expr::subquery-returns-clause-placed : goal.expr::subquery-returns-clause-placed
expr::subquery-returns-clause-placed i c = seen_as (ap block_leaves c.in_ok-query-2.ensures.ok) (past refl c.in_ok-query.ensures.placed c.in_ok-expect_symbol.ensures)

pub expr::argument-returns-in_err-expect_symbol-clause-reads : goal.expr::argument-returns-in_err-expect_symbol-clause-reads
unfolding g.ArgumentOf
expr::argument-returns-in_err-expect_symbol-clause-reads i c = stops _ _ c.from_residual.ensures.1 (starred _ c.if-eat_asterisk.ensures (past_fails c.in_err-expect_symbol.ensures))

pub expr::argument-returns-then-eat_asterisk-clause-reads : goal.expr::argument-returns-then-eat_asterisk-clause-reads
unfolding g.ArgumentOf
expr::argument-returns-then-eat_asterisk-clause-reads i c = starred _ c.if-eat_asterisk.ensures (past_on c.in_ok-expect_symbol.ensures (gives_as (of_count_rows _)))

pub expr::argument-returns-then-eat_asterisk-clause-placed : goal.expr::argument-returns-then-eat_asterisk-clause-placed
expr::argument-returns-then-eat_asterisk-clause-placed i c = λ from d. seen_as (leaves.of_count_rows _ ∙ ap (λ l. one l c.args.start) (sym (leaves.is_count _ _ _ c.if-eat_asterisk.ensures))) (past refl (leaves.asterisk_past _ _ d c.if-eat_asterisk.ensures) c.in_ok-expect_symbol.ensures)

pub expr::argument-returns-in_err-argument-clause-reads : goal.expr::argument-returns-in_err-argument-clause-reads
unfolding g.ArgumentOf
expr::argument-returns-in_err-argument-clause-reads i c = stops _ _ c.from_residual-in_err-argument.ensures.1 (unstarred _ c.if-eat_asterisk.ensures (flat_on distinct_alike c.distinct-distinct.ensures.reads (then_fails (then_fails c.in_err-argument.ensures.reads))))

pub expr::argument-returns-in_err-expect_symbol-2-clause-reads : goal.expr::argument-returns-in_err-expect_symbol-2-clause-reads
unfolding g.ArgumentOf
expr::argument-returns-in_err-expect_symbol-2-clause-reads i c = stops _ _ c.from_residual-in_err-expect_symbol-2.ensures.1 (unstarred _ c.if-eat_asterisk.ensures (flat_on distinct_alike c.distinct-distinct.ensures.reads (then_fails (then_on (λ m. expr_alike (within_alike c.args.levels m)) c.in_ok-argument.ensures.reads (past_fails c.in_err-expect_symbol-2.ensures)))))

pub expr::argument-returns-clause-reads : goal.expr::argument-returns-clause-reads
unfolding g.ArgumentOf
expr::argument-returns-clause-reads i c = unstarred _ c.if-eat_asterisk.ensures (flat_on distinct_alike c.distinct-distinct.ensures.reads (then_on {k = c.args.levels} (λ m. closed_alike (expr_alike (within_alike c.args.levels m))) (then_on (λ m. expr_alike (within_alike c.args.levels m)) c.in_ok-argument.ensures.reads (past_on c.in_ok-expect_symbol-2.ensures gives)) (gives_as (of_function _ _ _ _ ∙ ap (λ z. tree.Function (function_of c.args.function) c.distinct-distinct.result (expr_of z)) c.in_ok-argument-2.ensures.ok))))

pub expr::argument-returns-clause-placed : goal.expr::argument-returns-clause-placed
expr::argument-returns-clause-placed i c = λ from d. seen_as (leaves.of_function _ _ _ _ ∙ ap (λ z. one (function_leaf (function_of c.args.function)) c.args.start ++ expr_leaves z) c.in_ok-argument-2.ensures.ok) (past refl (on (no_more (leaves.asterisk_past _ _ d c.if-eat_asterisk.ensures) c.distinct-distinct.ensures.placed) c.in_ok-argument.ensures.placed) c.in_ok-expect_symbol-2.ensures)

pub expr::argument-returns-in_err-argument-2-clause-reads : goal.expr::argument-returns-in_err-argument-2-clause-reads
expr::argument-returns-in_err-argument-2-clause-reads i c = stops _ _ c.from_residual-in_err-argument-2.ensures.1 (no_memory refl)

pub query::block-returns-in_err-expect_word-clause-reads : goal.query::block-returns-in_err-expect_word-clause-reads
unfolding g.BlockOf
query::block-returns-in_err-expect_word-clause-reads i c = stops _ _ c.from_residual.ensures.1 (past_fails c.in_err-expect_word.ensures)

pub query::block-returns-in_err-list-clause-reads : goal.query::block-returns-in_err-list-clause-reads
unfolding g.BlockOf
query::block-returns-in_err-list-clause-reads i c = stops _ _ c.from_residual-in_err-list.ensures.1 (past_on c.in_ok-expect_word.ensures (flat_on distinct_alike c.distinct-distinct.ensures.reads (then_fails c.in_err-list.ensures.reads)))

pub query::block-returns-in_err-expect_word-2-clause-reads : goal.query::block-returns-in_err-expect_word-2-clause-reads
unfolding g.BlockOf
query::block-returns-in_err-expect_word-2-clause-reads i c = stops _ _ c.from_residual-in_err-expect_word-2.ensures.1 (past_on c.in_ok-expect_word.ensures (flat_on distinct_alike c.distinct-distinct.ensures.reads (then_on (λ m. select_list_alike (within_alike c.args.levels m)) c.in_ok-list.ensures.reads (past_fails c.in_err-expect_word-2.ensures))))

pub query::block-returns-in_err-tables-clause-reads : goal.query::block-returns-in_err-tables-clause-reads
unfolding g.BlockOf
query::block-returns-in_err-tables-clause-reads i c = stops _ _ c.from_residual-in_err-tables.ensures.1 (past_on c.in_ok-expect_word.ensures (flat_on distinct_alike c.distinct-distinct.ensures.reads (then_on (λ m. select_list_alike (within_alike c.args.levels m)) c.in_ok-list.ensures.reads (past_on c.in_ok-expect_word-2.ensures (then_fails (c.in_err-tables.ensures.reads _ _))))))

pub query::block-returns-in_err-condition-clause-reads : goal.query::block-returns-in_err-condition-clause-reads
unfolding g.BlockOf
query::block-returns-in_err-condition-clause-reads i c = stops _ _ c.from_residual-in_err-condition.ensures.1 (past_on c.in_ok-expect_word.ensures (flat_on distinct_alike c.distinct-distinct.ensures.reads (then_on (λ m. select_list_alike (within_alike c.args.levels m)) c.in_ok-list.ensures.reads (past_on c.in_ok-expect_word-2.ensures (flat_on (list_alike most_from_tables source_alike) c.in_ok-tables.ensures.reads (then_fails c.in_err-condition.ensures.reads))))))

pub query::block-returns-in_err-groups-clause-reads : goal.query::block-returns-in_err-groups-clause-reads
unfolding g.BlockOf
query::block-returns-in_err-groups-clause-reads i c = stops _ _ c.from_residual-in_err-groups.ensures.1 (past_on c.in_ok-expect_word.ensures (flat_on distinct_alike c.distinct-distinct.ensures.reads (then_on (λ m. select_list_alike (within_alike c.args.levels m)) c.in_ok-list.ensures.reads (past_on c.in_ok-expect_word-2.ensures (flat_on (list_alike most_from_tables source_alike) c.in_ok-tables.ensures.reads (then_on (λ m. condition_alike (within_alike c.args.levels m) _) c.in_ok-condition.ensures.reads (then_fails (c.in_err-groups.ensures.reads _ _))))))))

pub query::block-returns-in_err-having-clause-reads : goal.query::block-returns-in_err-having-clause-reads
unfolding g.BlockOf
query::block-returns-in_err-having-clause-reads i c = stops _ _ c.from_residual-in_err-having.ensures.1 (past_on c.in_ok-expect_word.ensures (flat_on distinct_alike c.distinct-distinct.ensures.reads (then_on (λ m. select_list_alike (within_alike c.args.levels m)) c.in_ok-list.ensures.reads (past_on c.in_ok-expect_word-2.ensures (flat_on (list_alike most_from_tables source_alike) c.in_ok-tables.ensures.reads (then_on (λ m. condition_alike (within_alike c.args.levels m) _) c.in_ok-condition.ensures.reads (flat_on groups_alike c.in_ok-groups.ensures.reads (then_fails c.in_err-having.ensures.reads))))))))

pub query::block-returns-clause-reads : goal.query::block-returns-clause-reads
unfolding g.BlockOf
query::block-returns-clause-reads i c = past_on c.in_ok-expect_word.ensures (flat_on distinct_alike c.distinct-distinct.ensures.reads (then_on (λ m. select_list_alike (within_alike c.args.levels m)) c.in_ok-list.ensures.reads (past_on c.in_ok-expect_word-2.ensures (flat_on (list_alike most_from_tables source_alike) c.in_ok-tables.ensures.reads (then_on (λ m. condition_alike (within_alike c.args.levels m) _) c.in_ok-condition.ensures.reads (flat_on groups_alike c.in_ok-groups.ensures.reads (then_on (λ m. condition_alike (within_alike c.args.levels m) _) c.in_ok-having.ensures.reads (gives_as (of_block _)))))))))

pub query::block-returns-clause-placed : goal.query::block-returns-clause-placed
query::block-returns-clause-placed i c = seen_as (leaves.of_block _) (on (on (on (on (past refl (on (no_more (past_leaf here c.start-start.ensures c.in_ok-expect_word.ensures) c.distinct-distinct.ensures.placed) c.in_ok-list.ensures.placed) c.in_ok-expect_word-2.ensures) c.in_ok-tables.ensures.placed) (c.in_ok-condition.ensures.placed refl)) c.in_ok-groups.ensures.placed) (c.in_ok-having.ensures.placed refl))

pub query::select_list-returns-then-eat_symbol-clause-reads : goal.query::select_list-returns-then-eat_symbol-clause-reads
unfolding g.SelectListOf
query::select_list-returns-then-eat_symbol-clause-reads i c = if_on c.if-eat_symbol.ensures (gives_as (of_asterisk _))

pub query::select_list-returns-then-eat_symbol-clause-placed : goal.query::select_list-returns-then-eat_symbol-clause-placed
query::select_list-returns-then-eat_symbol-clause-placed i c = seen_as (leaves.of_asterisk _) (past_leaf here c.start-start.ensures c.if-eat_symbol.ensures)

pub query::select_list-returns-in_err-items-clause-reads : goal.query::select_list-returns-in_err-items-clause-reads
unfolding g.SelectListOf
query::select_list-returns-in_err-items-clause-reads i c = stops _ _ c.from_residual.ensures.1 (misses_on c.if-eat_symbol.ensures (then_fails c.in_err-items.ensures.reads))

pub query::select_list-returns-clause-reads : goal.query::select_list-returns-clause-reads
unfolding g.SelectListOf
query::select_list-returns-clause-reads i c = misses_on c.if-eat_symbol.ensures (then_on (λ m. list_alike most_items (item_alike (within_alike c.args.levels m))) c.in_ok-items.ensures.reads (gives_as (of_items _)))

pub query::select_list-returns-clause-placed : goal.query::select_list-returns-clause-placed
query::select_list-returns-clause-placed i c = seen_as (leaves.of_items _) (on (stays here c.if-eat_symbol.ensures.1) c.in_ok-items.ensures.placed)

pub query::item-returns-in_err-value-clause-reads : goal.query::item-returns-in_err-value-clause-reads
unfolding g.ItemOf
query::item-returns-in_err-value-clause-reads i c = stops _ _ c.from_residual.ensures.1 (then_fails c.in_err-value.ensures.reads)

pub query::item-returns-in_err-alias-clause-reads : goal.query::item-returns-in_err-alias-clause-reads
unfolding g.ItemOf
query::item-returns-in_err-alias-clause-reads i c = stops _ _ c.from_residual-in_err-alias.ensures.1 (then_on (λ m. expr_alike (within_alike c.args.levels m)) c.in_ok-value.ensures.reads (then_fails (c.in_err-alias.ensures.reads _ _)))

pub query::item-returns-clause-reads : goal.query::item-returns-clause-reads
unfolding g.ItemOf
query::item-returns-clause-reads i c = then_on (λ m. expr_alike (within_alike c.args.levels m)) c.in_ok-value.ensures.reads (flat_on (optional_alike _ name_alike) c.in_ok-alias.ensures.reads (gives_as (of_item _)))

pub query::item-returns-clause-placed : goal.query::item-returns-clause-placed
query::item-returns-clause-placed i c = seen_as (leaves.of_item _) (on c.in_ok-value.ensures.placed c.in_ok-alias.ensures.placed)

pub query::condition_behind-returns-then-not-eat_word-clause-reads : goal.query::condition_behind-returns-then-not-eat_word-clause-reads
unfolding g.ConditionOf
query::condition_behind-returns-then-not-eat_word-clause-reads i c = misses_on c.if-not-eat_word.ensures gives

pub query::condition_behind-returns-then-not-eat_word-clause-placed : goal.query::condition_behind-returns-then-not-eat_word-clause-placed
query::condition_behind-returns-then-not-eat_word-clause-placed i c = λ h. stays here c.if-not-eat_word.ensures.1

pub query::condition_behind-returns-in_err-condition-clause-reads : goal.query::condition_behind-returns-in_err-condition-clause-reads
unfolding g.ConditionOf
query::condition_behind-returns-in_err-condition-clause-reads i c = stops _ _ c.from_residual.ensures.1 (if_on c.if-not-eat_word.ensures (then_fails c.in_err-condition.ensures.reads))

pub query::condition_behind-returns-clause-reads : goal.query::condition_behind-returns-clause-reads
unfolding g.ConditionOf
query::condition_behind-returns-clause-reads i c = if_on c.if-not-eat_word.ensures (then_on (λ m. expr_alike (within_alike c.args.levels m)) c.in_ok-condition.ensures.reads gives)

pub query::condition_behind-returns-clause-placed : goal.query::condition_behind-returns-clause-placed
query::condition_behind-returns-clause-placed i c = λ h. on (past h here c.if-not-eat_word.ensures) c.in_ok-condition.ensures.placed
