use Rattle.std.proofs.Common.{◌<◌, length, arith}
use Rattle.interesting_orders.proofs.OrderPlaces.{all_and, next_gathered}
use Rattle.interesting_orders.proofs.known.all_indexes.Goals as goal

pub indexes-preserved : goal.indexes-preserved
indexes-preserved c =
    let count = length c.args.table.now.indexes in
    let within : c.indexes.number < count = omega (arith, c.indexes-test.true, c.index_count-number-end.ensures) in
    record {
      exact = next_gathered c.indexes.number count within c.indexes.numbers.items c.push.new.self.items _ c.in_ok-push.ensures.items c.indexes.invariant.exact;
      there = rw c.in_ok-push.ensures.items (all_and (λ number. number < count) c.indexes.numbers.items c.indexes.number c.indexes.invariant.there within);
    }
