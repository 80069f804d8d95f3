use Rattle.definitions.specs.Statement.{GreaterOrEquals, LessOrEquals}
use Rattle.definitions.specs.Truth.{compared}
use Rattle.definitions.specs.Queries.Evaluation.{on_two}
use Rattle.expr.proofs.condition.between.Goals as goal

pub returns : goal.returns
returns c m l h p q r = c.both.ensures (on_two (compared GreaterOrEquals) m l) (on_two (compared LessOrEquals) m h) (c.comparison.ensures m l p q) (c.comparison-2.ensures m h p r)
