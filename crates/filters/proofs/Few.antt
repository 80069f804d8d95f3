-- Members of conditions that name few tables.
use Rattle.std.proofs.Common.{◌≡◌, sym, subst, ℕ, zero, suc, ◌<◌, List, [], ◌∷◌, Option, length, map, get_or, arith}
use Rattle.std.specs.Prelude.{IfSome}
use Rattle.std.specs.List.{AllByRecursion}
use Rattle.definitions.specs.Queries.BoundBlock.{ValueExpr}
use Rattle.definitions.specs.Queries.Conjuncts.{member_values}
use Rattle.predicates.proofs.Saying.{NamesFewTables}
use Rattle.filters.proofs.Listed.{first_value, other_values}

-- a member of a list
pub member_few : {X : Type 0} (f : X → Option ValueExpr) (xs : List X) (i : ℕ) (x : X) → AllByRecursion NamesFewTables (member_values (map f xs)) → i < length xs → x ≡ get_or xs i x → IfSome (f x) NamesFewTables
member_few f [] i x all h e = absurd (omega (arith, h))
member_few f (y ∷ ys) zero x all h e = subst (λ z. IfSome (f z) NamesFewTables) (sym e) (first_value NamesFewTables (f y) (map f ys) all)
member_few f (y ∷ ys) (suc i) x all h e = member_few f ys i x (other_values NamesFewTables (f y) (map f ys) all) (omega (arith, h)) e
