-- What a set function of the values so far stands for, where repeats may be left out.
use Rattle.std.specs.Prelude.{◌≡◌, Bool, true, false, is_some, Option, Some, None, List, IfSome}
use Rattle.std.specs.List.{AllByRecursion}
use Rattle.definitions.specs.Value.{Value}
use Rattle.definitions.specs.Lists.{without_repeats}
use Rattle.definitions.specs.Queries.Grouping.{same_value}
use Rattle.definitions_answers.specs.Lines.{IsInBounds}
use Rattle.definitions_answers.specs.Shapes.{Shape}
use Rattle.grouping.specs.Accumulating.{Accumulates}
use Rattle.grouping.specs.Distinct.{HasValues, IsNoted}
use Rattle.grouping.specs.declared.aggregation.Aggregation.{Aggregation}
use Rattle.grouping.specs.declared.distinct_values.DistinctValues.{DistinctValues}

-- of values that are not null those that count: under DISTINCT each once
abbrev pub chosen : Bool → List Value → List Value
chosen true vs = without_repeats same_value vs
chosen false vs = vs

-- under DISTINCT those that came before are the values so far, each once
abbrev pub AreSeen : Option DistinctValues → List Value → Type 0
AreSeen seen vs = IfSome seen (HasValues (without_repeats same_value vs))

-- it is of these values, that are not null
pub record Aggregates (shape : Shape) (vs : List Value) (a : Aggregation) : Type 0 where
  pub running : Accumulates shape (chosen (is_some a.seen) vs) a.running
  pub seen : AreSeen a.seen vs
  pub bounded : AllByRecursion IsInBounds vs

-- under DISTINCT a value is noted, and whether it did not come before; without it each counts as new
abbrev pub MayBeNoted : Option DistinctValues → Option DistinctValues → Bool → Value → Type 0
MayBeNoted None seen new v = new ≡ true
MayBeNoted (Some before) seen new v = IfSome seen (λ after. IsNoted before after new v)
