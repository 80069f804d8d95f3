-- The parts of conditions that name few tables.
use Rattle.std.proofs.Common.{◌≡◌, sym, subst, ℕ, zero, suc, ◌<◌, List, [], ◌∷◌, length, map, get_or, arith}
use Rattle.std.specs.List.{AllByRecursion}
use Rattle.definitions.specs.Queries.BoundBlock.{Condition}
use Rattle.definitions.specs.Queries.Conjuncts.{tables_in, values_of, values_of_parts}
use Rattle.query_tree.specs.Bound.{conditions}
use Rattle.predicates.specs.Naming.{AreFew, NamesFew}
use Rattle.predicates.proofs.Naming.{left_few, right_few, still_few, tables_of_both}

-- those under AND and OR
pub parts_few : (parts : List Condition) → AreFew (tables_in (values_of_parts (conditions parts))) → AllByRecursion NamesFew parts
parts_few [] h = tt
parts_few (c ∷ cs) h =
    let both = still_few _ _ (tables_of_both (values_of c) (values_of_parts (conditions cs))) h in
    (left_few _ _ both, parts_few cs (right_few _ _ both))

-- one of them, as code has them
pub part_few : {X : Type 0} (f : X → Condition) (xs : List X) (i : ℕ) (x : X) → AllByRecursion NamesFew (map f xs) → i < length xs → x ≡ get_or xs i x → NamesFew (f x)
part_few f [] i x all h e = absurd (omega (arith, h))
part_few f (y ∷ ys) zero x all h e = subst (λ z. NamesFew (f z)) (sym e) all.0
part_few f (y ∷ ys) (suc i) x all h e = part_few f ys i x all.1 (omega (arith, h)) e
