use Rattle.std.proofs.Common.{ap, drop, ◌+◌}
use Rattle.std.proofs.lemmas.List.{drop_all}
use Rattle.definitions.specs.Queries.Conjuncts.{tables_named}
use Rattle.query_tree.specs.Bound.{value_of}
use Rattle.plan_tree.specs.Sets.{set_of}
use Rattle.predicates.proofs.Naming.{all_done, next_done, next_few, next_value, tables_from}
use Rattle.predicates.proofs.tables.tables_of.Goals as goal

pub value_tables-requires : goal.value_tables-requires
value_tables-requires c =
    let values = c.args.values.now in
    let i = c.values.value-index in
    let x = c.value-item.result in
    record { few = next_few (set_of c.values.tables) (tables_named (value_of x.now)) (tables_from (drop (i + 1) values)) (tables_from (drop i values)) (tables_from values) (next_value values i x c.values-test.true c.value-item.is) c.values.invariant c.requires.few }

pub values-preserved : goal.values-preserved
values-preserved c =
    let values = c.args.values.now in
    let i = c.values.value-index in
    let x = c.value-item.result in
    next_done (set_of c.union-tables.result) (set_of c.values.tables) (set_of c.value_tables.result) (tables_named (value_of x.now)) (tables_from (drop (i + 1) values)) (tables_from (drop i values)) (tables_from values) c.union-tables.ensures c.value_tables.ensures.exact (next_value values i x c.values-test.true c.value-item.is) c.values.invariant

pub returns : goal.returns
returns c =
    let none = ap tables_from (drop_all c.values.value-index c.args.values.now c.values-test.false) in
    record { exact = all_done (set_of c.values.tables) _ (tables_from c.args.values.now) none c.values.invariant }
