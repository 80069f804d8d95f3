use Rattle.std.proofs.Common.{rules}
use Rattle.std.specs.Prelude.{ℤ}
use Rattle.std.specs.Ordering.{int_cmp, is_le}
use Rattle.std.proofs.lemmas.List.Sorted.{IsPartitionPoint-from_clause}
use Rattle.definitions.specs.Value.{rank}
use Rattle.sqlvalue.specs.Meaning.{value_of}
use Rattle.sqlvalue.specs.Owned.{owned_value}
use Rattle.sqlvalue.specs.declared.owned_value.OwnedValue.{OwnedValue}
use Rattle.sqlvalue.specs.NumberKeys.{HasNumberKey}
use Rattle.subqueries.specs.NumberKeys.{AreKeys}
use Rattle.subqueries.proofs.NumberKeys.{keys_parted, values_parted}
use Rattle.subqueries.proofs.OrderedValues.{parted_through}
use Rattle.subqueries.proofs.first_values.FirstValues.count_through.Goals as goal

pub returns : goal.returns
returns c =
    let v = value_of c.args.value.now in
    let xs = c.args.self.now.values.items in
    let own = c.in-Some.own in
    let key = c.in-Some-number_key.key in
    let has : HasNumberKey own.scale v key = c.in-Some-number_key.ensures in
    let are : AreKeys own.scale xs own.keys.items = c.args.self.now.keyed own c.in-Some.is in
    let parts = parted_through v owned_value xs c.args.self.now.sorted in
    let point = IsPartitionPoint-from_clause (λ (k : ℤ). is_le (int_cmp k key)) c.deref.result.now c.partition_point.result c.partition_point.ensures.partitioned
    (rw c.deref.ensures.value (keys_parted is_le own.scale v key has xs own.keys.items are parts)) (λ a r q k. search rules) in
    values_parted is_le own.scale v key has xs own.keys.items are c.partition_point.result (rw c.deref.ensures.value at c.partition_point.ensures.bound) (rw c.deref.ensures.value at point)

pub returns-2 : goal.returns-2
returns-2 c =
    let v = value_of c.args.value.now in
    rw c.deref-2.ensures.value at (
    IsPartitionPoint-from_clause (λ (own : OwnedValue). is_le (rank (owned_value own) v)) c.deref-2.result.now c.partition_point-2.result c.partition_point-2.ensures.partitioned
    (rw c.deref-2.ensures.value (parted_through v owned_value c.args.self.now.values.items c.args.self.now.sorted)) (λ a r q k. search rules)
    )
