use Rattle.std.proofs.Common.{◌∙◌, ◌<◌, sym, length, arith}
use Rattle.interesting_orders.specs.Keys.{index_on_column}
use Rattle.interesting_orders.proofs.OrderPlaces.{all_and, next_given, none_given}
use Rattle.interesting_orders.proofs.known.column_indexes.Goals as goal
use Rattle.interesting_orders.proofs.known.column_indexes.Goals.{in-Some+in_ok-push, in_default}

pub columns-preserved : goal.columns-preserved
columns-preserved c =
    let t = c.args.table.now in
    let within : c.columns.column < length t.columns = omega (arith, c.columns-test.true, c.width-column-end.ensures) in
    elim c.match-column_index.branch [
      | in-Some+in_ok-push w ↦ rw w.numbers-is (record {
        exact = next_given c.columns.column (length t.columns) within (index_on_column t) c.columns.numbers.items _ c.columns.invariant.exact w.push.new.self.items w.in-Some.number (sym c.column_index.ensures.exact ∙ w.in-Some.is) w.in_ok-push.ensures.items;
        there = rw w.in_ok-push.ensures.items (all_and (λ number. number < length t.indexes) c.columns.numbers.items w.in-Some.number c.columns.invariant.there w.in-Some.ensures.there);
      })
      | in_default w ↦ rw w.numbers-is (record {
        exact = none_given c.columns.column (length t.columns) within (index_on_column t) c.columns.numbers.items _ c.columns.invariant.exact (sym c.column_index.ensures.exact ∙ w.in_default.is);
        there = c.columns.invariant.there;
      })
    ]
