-- Conditions that this crate passes on.
use Rattle.std.specs.Prelude.{List, map}
use Rattle.std.specs.Borrow.{Bor}
use Rattle.definitions.specs.Queries.BoundBlock as b
use Rattle.query_tree.specs.Bound.{condition_of}
use Rattle.query_tree.specs.declared.condition.Condition.{Condition}

abbrev pub conditions_of : List (Bor Condition) → List b.Condition
conditions_of = map (λ (c : Bor Condition). condition_of c.now)
