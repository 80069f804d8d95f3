use Rattle.std.proofs.Common.{rules, ◌∙◌, ap, drop, ◌+◌}
use Rattle.std.proofs.lemmas.List.{drop_all}
use Rattle.definitions.specs.Queries.Conjuncts.{tables_named}
use Rattle.query_tree.specs.Bound.{value_of}
use Rattle.query_tree.specs.declared.value.ValueExpr.{the_lemmas}
use Rattle.query_tree.proofs.Views.{of_chain, of_column}
use Rattle.plan_tree.specs.Sets.{set_of}
use Rattle.predicates.specs.Naming.{AreFew}
use Rattle.predicates.proofs.Naming.{all_done, left_few, line_tables, next_done, next_few, next_operand, still_few, table_few}
use Rattle.predicates.proofs.tables.+value_tables.Goals as goal

pub only-requires : goal.only-requires
only-requires t c =
    let column = ap value_of c.in-Column.is ∙ of_column c.in-Column.column c.in-Column.sql_type in
    table_few c.in-Column.column.table (still_few _ _ (ap tables_named column) c.requires.few)

pub value_tables-tables-requires : goal.value_tables-tables-requires
value_tables-tables-requires t c =
    let b = c.in-Chain in
    let chain = ap tables_named (ap value_of b.is ∙ of_chain b.first b.others) in
    let few : AreFew (tables_named (value_of c.deref-in-Chain.result.now)) = rw c.deref-in-Chain.ensures (left_few (tables_named (value_of b.first.value)) (line_tables b.others.items) (still_few _ _ chain c.requires.few)) in
    search (rules, the_lemmas, few)

pub value_tables-requires-in-loop-operand : goal.value_tables-requires-in-loop-operand
value_tables-requires-in-loop-operand t c =
    let xs = c.deref-operand-items.result.now in
    let i = c.loop-operand.operand-index in
    let x = c.operand-item.result in
    let few : AreFew (tables_named (value_of x.value)) = next_few (set_of c.loop-operand.tables) (tables_named (value_of x.value)) (line_tables (drop (i + 1) xs)) (line_tables (drop i xs)) (tables_named (value_of c.args.expr.now)) (next_operand xs i x c.loop-operand-test.true c.operand-item.is) c.loop-operand.invariant c.requires.few in
    search (rules, the_lemmas, few)

pub loop-operand-preserved : goal.loop-operand-preserved
loop-operand-preserved t c =
    let xs = c.deref-operand-items.result.now in
    let i = c.loop-operand.operand-index in
    let x = c.operand-item.result in
    next_done (set_of c.union-tables.result) (set_of c.loop-operand.tables) (set_of c.value_tables-in-loop-operand.result) (tables_named (value_of x.value)) (line_tables (drop (i + 1) xs)) (line_tables (drop i xs)) (tables_named (value_of c.args.expr.now)) c.union-tables.ensures c.value_tables-in-loop-operand.ensures.exact (next_operand xs i x c.loop-operand-test.true c.operand-item.is) c.loop-operand.invariant

pub returns-after-loop-operand : goal.returns-after-loop-operand
returns-after-loop-operand t c =
    let none = ap line_tables (drop_all c.loop-operand.operand-index c.deref-operand-items.result.now c.loop-operand-test.false) in
    record { exact = all_done (set_of c.loop-operand.tables) _ (tables_named (value_of c.args.expr.now)) none c.loop-operand.invariant }
