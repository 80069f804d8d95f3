-- Values and conditions, as code lends them.
use Rattle.std.specs.Prelude.{List, map}
use Rattle.std.specs.Borrow.{Bor}
use Rattle.definitions.specs.Queries.BoundBlock as b
use Rattle.query_tree.specs.Bound.{condition_of, value_of}
use Rattle.query_tree.specs.declared.condition.Condition.{Condition}
use Rattle.query_tree.specs.declared.value.ValueExpr.{ValueExpr}

abbrev pub trees_of : List (Bor ValueExpr) → List b.ValueExpr
trees_of = map (λ (e : Bor ValueExpr). value_of e.now)

abbrev pub conditions_in : List (Bor Condition) → List b.Condition
conditions_in = map (λ (c : Bor Condition). condition_of c.now)
