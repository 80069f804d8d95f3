use Rattle.std.proofs.Common.{◌∙◌, sym, subst, get_or}
use Rattle.std.specs.Prelude.{IfSome}
use Rattle.columns.specs.Cells.{number_or_null}
use Rattle.query_tree.specs.Bound.{column_of}
use Rattle.told_tests.specs.ToldTests.{TellsOf}
use Rattle.told_tests.proofs.ToldNumbers.{value_at_place}
use Rattle.told_tests.proofs.told_test.ToldTest.passed.Goals as goal

pub returns : goal.returns
returns c =
    let test = c.args.self.now in
    let type = c.in_ok-numbers.numbers.now.type in
    let own = number_or_null type c.units_in.result in
    let row = get_or c.column.result.now c.args.place 0 in
    let is = value_at_place c.args.source.now (column_of test.column) c.args.batch.now.items c.args.place c.requires c.column.result.now c.column.ensures own (c.units_in.ensures.value ∙ c.in_ok-numbers.ensures.values row) in
    subst (λ value. IfSome c.tells_of_units.result (TellsOf test value)) (sym is) (c.tells_of_units.ensures type c.in_ok-numbers.ensures.scale)
