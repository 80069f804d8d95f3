-- A comparison says the same of the values in the other order, once its operator is turned.
use Rattle.std.proofs.Common.{◌≡◌, ◌∙◌, refl, ap}
use Rattle.std.specs.Ordering.{ordering_reverse}
use Rattle.std.specs.declared.cmp.Ordering.{Ordering}
use Rattle.std.specs.declared.cmp.Ordering.TheVariants.{Less, Equal, Greater}
use Rattle.definitions.specs.Estimates.Paths.{turned}
use Rattle.definitions.specs.Statement.{ComparisonOperator, Equals, NotEquals, LessThan, GreaterThan, LessOrEquals, GreaterOrEquals}
use Rattle.definitions.specs.Truth.{agrees, compared, known}
use Rattle.definitions.specs.Value.{Value, Null, Number, Text}
use Rattle.definitions.proofs.Ranking.{rank_total}

agrees_turned : (op : ComparisonOperator) (order : Ordering) → agrees (turned op) (ordering_reverse order) ≡ agrees op order
agrees_turned Equals Less = refl
agrees_turned Equals Equal = refl
agrees_turned Equals Greater = refl
agrees_turned NotEquals Less = refl
agrees_turned NotEquals Equal = refl
agrees_turned NotEquals Greater = refl
agrees_turned LessThan Less = refl
agrees_turned LessThan Equal = refl
agrees_turned LessThan Greater = refl
agrees_turned GreaterThan Less = refl
agrees_turned GreaterThan Equal = refl
agrees_turned GreaterThan Greater = refl
agrees_turned LessOrEquals Less = refl
agrees_turned LessOrEquals Equal = refl
agrees_turned LessOrEquals Greater = refl
agrees_turned GreaterOrEquals Less = refl
agrees_turned GreaterOrEquals Equal = refl
agrees_turned GreaterOrEquals Greater = refl

pub compared_turned : (op : ComparisonOperator) (a b : Value) → compared (turned op) a b ≡ compared op b a
compared_turned op Null Null = refl
compared_turned op Null (Number n s) = refl
compared_turned op Null (Text t) = refl
compared_turned op (Number m r) Null = refl
compared_turned op (Text s) Null = refl
compared_turned op (Number m r) (Text t) = refl
compared_turned op (Text s) (Number n r) = refl
compared_turned op (Number m r) (Number n s) = ap known (ap (agrees (turned op)) (rank_total.antisymm (Number m r) (Number n s)) ∙ agrees_turned op _)
compared_turned op (Text s) (Text t) = ap known (ap (agrees (turned op)) (rank_total.antisymm (Text s) (Text t)) ∙ agrees_turned op _)
