-- Values that are counted, repeats too.
use Rattle.std.proofs.Common.{◌≡◌, sym, subst, List, ◌++◌, Bool, false, Option, Some, None}
use Rattle.std.specs.Prelude.{is_some}
use Rattle.std.specs.List.{AllByRecursion}
use Rattle.definitions.specs.Value.{Value}
use Rattle.definitions_answers.specs.Lines.{IsInBounds}
use Rattle.definitions_answers.specs.Shapes.{Shape}
use Rattle.definitions_answers.proofs.Taken.{all_joined}
use Rattle.grouping.specs.Accumulating.{Accumulates}
use Rattle.grouping.specs.Aggregating.{chosen, Aggregates, AreSeen}
use Rattle.grouping.specs.declared.accumulator.Accumulator.{Accumulator}
use Rattle.grouping.specs.declared.aggregation.Aggregation.{Aggregation}
use Rattle.grouping.specs.declared.distinct_values.DistinctValues.{DistinctValues}

nothing_seen : (seen : Option DistinctValues) (vs : List Value) → is_some seen ≡ false → AreSeen seen vs
nothing_seen None vs e = tt
nothing_seen (Some values) vs e = absurd cc

pub more_counted : (shape : Shape) (vs more : List Value) (a : Aggregation) (running : Accumulator) → is_some a.seen ≡ false → AllByRecursion IsInBounds more → (Accumulates shape vs a.running → Accumulates shape (vs ++ more) running)
    → Aggregates shape vs a → Aggregates shape (vs ++ more) (record a { running = running })
more_counted shape vs more a running each bounded step h = record {
  running = subst (λ (distinct : Bool). Accumulates shape (chosen distinct (vs ++ more)) running) (sym each) (step (subst (λ (distinct : Bool). Accumulates shape (chosen distinct vs) a.running) each h.running));
  seen = nothing_seen a.seen (vs ++ more) each;
  bounded = all_joined IsInBounds vs more h.bounded bounded;
}
