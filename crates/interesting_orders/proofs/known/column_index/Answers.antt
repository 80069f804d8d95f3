use Rattle.std.proofs.Common.{◌∙◌, ◌≤◌, sym, [], ◌∷◌, length, arith}
use Rattle.definitions.specs.Table.{is_on}
use Rattle.interesting_orders.proofs.OrderPlaces.{position_found, position_further, position_none}
use Rattle.interesting_orders.proofs.known.column_index.Goals as goal

pub returns-then-is_on-clause-exact : goal.returns-then-is_on-clause-exact
returns-then-is_on-clause-exact c =
    position_found (is_on (c.args.column ∷ [])) c.args.table.now.indexes c.indexes.number c.index.result.now.index c.index.ensures.exact (sym c.is_on.ensures ∙ c.if-is_on.true) c.indexes.invariant

pub indexes-preserved : goal.indexes-preserved
indexes-preserved c =
    position_further (is_on (c.args.column ∷ [])) c.args.table.now.indexes c.indexes.number c.index.result.now.index c.index.ensures.exact (sym c.is_on.ensures ∙ c.if-is_on.false) c.indexes.invariant

pub returns-clause-exact : goal.returns-clause-exact
returns-clause-exact c =
    let all : length c.args.table.now.indexes ≤ c.indexes.number = omega (arith, c.indexes-test.false, c.index_count-number-end.ensures) in
    position_none (is_on (c.args.column ∷ [])) c.args.table.now.indexes c.indexes.number all c.indexes.invariant
