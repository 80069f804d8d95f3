use Rattle.std.proofs.Common.{◌≡◌, ◌-◌, ◌<◌, refl, drop, get_or, subst, rules, arith}
use Rattle.definitions.specs.Characters.{space}
use Rattle.tuple_sort.specs.Keys.{text_number}
use Rattle.tuple_sort.proofs.KeyedRows.{bytes_of, has_room, next_number, next_small}
use Rattle.tuple_sort.proofs.sort_tuple.prefix_of.Goals as goal

pub places-init : goal.places-init
places-init c = record { number = refl; small = omega arith }

pub places-preserved : goal.places-preserved
places-preserved c =
    let is : c.from.result ≡ get_or c.args.text.now c.places.place space = search rules in
    let small : c.from.result < 256 = search rules in
    record {
      number = next_number c.args.text.now c.places.place c.places.number c.from.result _ c.places-test.true is c.places.invariant.number;
      small = next_small c.places.place c.places.number c.from.result c.places.invariant.small small;
    }

pub overflow_mul-number : goal.overflow_mul-number
overflow_mul-number c = omega (arith, has_room c.places.place c.places.number c.places-test.true c.places.invariant.small)

pub returns-clause-number : goal.returns-clause-number
returns-clause-number c =
    let last : c.places.place ≡ 7 = search rules in
    subst (λ p. text_number c.places.number (7 - p) (drop p c.args.text.now) ≡ text_number 0 7 c.args.text.now) last c.places.invariant.number

pub returns-clause-bytes : goal.returns-clause-bytes
returns-clause-bytes c = bytes_of c.args.text.now (λ i. omega (arith, c.type_inv.text i))
