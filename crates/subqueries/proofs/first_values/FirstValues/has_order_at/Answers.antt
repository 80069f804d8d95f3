use Rattle.std.proofs.Common.{◌≡◌, sym, subst, Some, arith}
use Rattle.definitions.specs.Value.{compare}
use Rattle.sqlvalue.specs.Meaning.{value_of}
use Rattle.sqlvalue.specs.Owned.{owned_value}
use Rattle.sqlvalue.specs.declared.owned_value.OwnedValue.{OwnedValue}
use Rattle.sqlvalue.specs.declared.owned_value.OwnedValue.TheVariants as o
use Rattle.subqueries.proofs.OrderedValues.{at_place, compares_at}
use Rattle.subqueries.proofs.first_values.FirstValues.has_order_at.Goals as goal

pub returns-in-Some : goal.returns-in-Some
returns-in-Some c =
    let v = value_of c.args.value.now in
    let xs = c.args.self.now.values.items in
    let order = c.args.order in
    let own = c.in-Some.own.now in
    let lookup = rw c.deref.ensures.value at c.in-Some.ensures.lookup in (
      λ yes. at_place v owned_value order xs c.args.place lookup.3.0 (λ d. subst (λ (x : OwnedValue). compare v (owned_value x) ≡ Some order) (lookup.3.1 d) (c.is_ordered.ensures.0 yes)),
      λ there.
          c.is_ordered.ensures.1
          (subst (λ (x : OwnedValue). compare v (owned_value x) ≡ Some order) (sym (lookup.3.1 own)) (compares_at v owned_value order xs c.args.place own there).1),
    )

pub returns-in-None : goal.returns-in-None
returns-in-None c =
    let v = value_of c.args.value.now in
    let xs = c.args.self.now.values.items in
    let lookup = rw c.deref.ensures.value at c.in-None.ensures.lookup in
    (λ yes. absurd cc, λ there. absurd (omega (arith, lookup.3, (compares_at v owned_value c.args.order xs c.args.place o.Null there).0)))
