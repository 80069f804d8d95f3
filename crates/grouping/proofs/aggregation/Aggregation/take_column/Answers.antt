use Rattle.std.proofs.Common.{◌≡◌, ◌∙◌, ◌++◌, sym, ap₂, subst, true, false, rules}
use Rattle.std.specs.Int.{w64}
use Rattle.std.specs.Prelude.{is_some, All, FitsSigned}
use Rattle.std.specs.List.{AllByRecursion}
use Rattle.std.proofs.lemmas.Result.{on_ok_weaker}
use Rattle.definitions.specs.Queries.Grouping.{taken}
use Rattle.definitions_answers.specs.Lines.{IsInBounds}
use Rattle.definitions_answers.specs.Shapes.{IsThere}
use Rattle.definitions_answers.proofs.Taken.{taken_there}
use Rattle.query_tree.specs.Bound.{column_of}
use Rattle.grouping.specs.Accumulating.{Accumulates}
use Rattle.result_lines.specs.Batches.{column_values}
use Rattle.grouping.specs.Units.{numbers_at}
use Rattle.grouping.proofs.Cells.{numbers_bounded}
use Rattle.grouping.proofs.Counted.{more_counted}
use Rattle.grouping.proofs.aggregation.Aggregation.take_column.Goals as goal

pub returns-clause-taken : goal.returns-clause-taken
returns-clause-taken g c =
    let values = column_values (g.B.RowBatch.environments c.args.batch.now) (column_of c.args.column) in
    let read : c.in_ok-read.field-0 ≡ true = search rules in
    let units = c.in_ok-read.ensures.units read in
    let are : numbers_at c.args.scale c.units.result.now ≡ taken false values = ap₂ numbers_at (sym (c.in_ok-read.ensures.scale read)) c.units.ensures ∙ units.numbers in
    let bounded = subst (AllByRecursion IsInBounds) are (numbers_bounded c.args.scale c.units.result.now (subst (All (FitsSigned w64)) (sym c.units.ensures) units.ranged)) in
    let each : is_some c.args.self.now.seen ≡ false = sym c.is_some.ensures ∙ c.if-is_some.false in
    on_ok_weaker c.take_units.result
    (λ told shape vs sums has all before. more_counted shape vs (taken false values) c.args.self.now c.take_units.new.self each bounded
    (λ h. subst (λ ws. Accumulates shape (vs ++ ws) c.take_units.new.self) are (told shape vs all (subst (AllByRecursion (IsThere shape)) (sym are) (taken_there false shape values has)) h)) before)
    c.take_units.ensures.taken
