-- The operators that a range of keys tells something of.
use Rattle.std.specs.Prelude.{⊤}
use Rattle.definitions.specs.Statement.{ComparisonOperator, Equals, NotEquals}

abbrev pub IsInequality : ComparisonOperator → Type 0
IsInequality Equals = ⊥
IsInequality NotEquals = ⊥
IsInequality _ = ⊤
